use Rattle.text_decimals.proofs.Laws.{Counting}
use Rattle.text_decimals.proofs.digits.Given as goal

abbrev pub invariant-loop-i : goal.invariant-loop-i
invariant-loop-i l = Counting l.limit l.s l.at l.i l.v
