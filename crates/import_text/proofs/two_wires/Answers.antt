use Rattle.import_text.proofs.Scanned.{scanning}
use Rattle.import_text.proofs.two_wires.Goals as goal

pub returns-in_err-b : goal.returns-in_err-b
returns-in_err-b c = search (scanning, c.in_ok-a.was, c.in_err-b.was)

pub returns-in_err-c : goal.returns-in_err-c
returns-in_err-c c = search (scanning, c.in_ok-a.was, c.in_ok-b.was, c.in_err-c.was)
