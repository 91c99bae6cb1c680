use Rattle.import_text.proofs.Scanned.{scanning}
use Rattle.import_text.proofs.gate_at.Goals as goal

pub returns-in_err-w : goal.returns-in_err-w
returns-in_err-w c = search (scanning, c.in_ok-r.was, c.in_err-w.was)
