use Rattle.match_call.proofs.LowestLaws.{Lowest}
use Rattle.match_call.proofs.working.lowest.Given as goal

abbrev pub invariant-loop-i : goal.invariant-loop-i
invariant-loop-i l = Lowest l.set l.n l.i
