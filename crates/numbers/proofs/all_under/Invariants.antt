use Rattle.numbers.proofs.Ways.{Comparing}
use Rattle.numbers.proofs.all_under.Given as goal

abbrev pub invariant-loop-i : goal.invariant-loop-i
invariant-loop-i l = Comparing l.s l.from l.p l.all l.i
