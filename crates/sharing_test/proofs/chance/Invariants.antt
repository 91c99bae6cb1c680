use Rattle.std.proofs.Common.{◌<◌}
use Rattle.sharing_test.proofs.chance.Given as goal

abbrev pub invariant-loop-x : goal.invariant-loop-x
invariant-loop-x l = l.s < 2147483647
