use Rattle.std.proofs.Common.{◌<◌}
use Rattle.sharing_test.proofs.by_powers.Given as goal

abbrev pub invariant-loop-a : goal.invariant-loop-a
invariant-loop-a l = (l.sum < 2147483648) × (l.power < 2147483648)
