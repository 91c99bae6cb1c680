use Rattle.import_text.proofs.Scanned.{heading}
use Rattle.import_text.proofs.head_at.Goals as goal

pub returns-in_err-gates : goal.returns-in_err-gates
returns-in_err-gates c = search (heading, c.in_err-gates.was)

pub returns-in_err-wires : goal.returns-in_err-wires
returns-in_err-wires c = search (heading, c.in_ok-gates.was, c.in_err-wires.was)

pub returns-then-not-line_over : goal.returns-then-not-line_over
returns-then-not-line_over c = search (heading, c.in_ok-gates.was, c.in_ok-wires.was)
