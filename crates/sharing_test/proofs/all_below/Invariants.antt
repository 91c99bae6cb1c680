use Rattle.sharing_test.proofs.Laws.{Testing}
use Rattle.sharing_test.proofs.all_below.Given as goal

abbrev pub invariant-loop-x : goal.invariant-loop-x
invariant-loop-x l = Testing l.p l.xs l.x-index
