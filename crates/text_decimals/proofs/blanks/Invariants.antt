use Rattle.text_decimals.proofs.Laws.{Skipping}
use Rattle.text_decimals.proofs.blanks.Given as goal

abbrev pub invariant-loop-i : goal.invariant-loop-i
invariant-loop-i l = Skipping l.s l.at l.i
