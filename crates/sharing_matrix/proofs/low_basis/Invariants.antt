use Prim.Native.Nat.{◌-◌}
use lib.ListN.{length}
use Rattle.sharing_matrix.proofs.Factors.{Built}
use Rattle.sharing_matrix.proofs.low_basis.Given as goal

abbrev pub invariant-loop-y : goal.invariant-loop-y
invariant-loop-y l = Built l.f.p l.points l.x l.initial.out l.out l.below (length l.points - length l.yielded)
