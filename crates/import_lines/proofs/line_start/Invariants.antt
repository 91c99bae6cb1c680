use Rattle.import_lines.proofs.Reading.{Skipping}
use Rattle.import_lines.proofs.line_start.Given as goal

abbrev pub invariant-loop-i : goal.invariant-loop-i
invariant-loop-i l = Skipping l.s l.at l.i
