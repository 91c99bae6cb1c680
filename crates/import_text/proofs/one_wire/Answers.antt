use Rattle.import_text.proofs.Scanned.{scanning}
use Rattle.import_text.proofs.one_wire.Goals as goal

pub returns-in_err-c : goal.returns-in_err-c
returns-in_err-c c = search (scanning, c.in_ok-a.was, c.in_err-c.was)
