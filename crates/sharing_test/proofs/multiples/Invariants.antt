use Rattle.std.proofs.Common.{◌<◌}
use Rattle.sharing_test.proofs.multiples.Given as goal

abbrev pub invariant-loop-x : goal.invariant-loop-x
invariant-loop-x l = l.at < 2147483648
