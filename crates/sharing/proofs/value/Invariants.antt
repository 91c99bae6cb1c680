use Prim.Native.Nat.{◌-◌}
use lib.ListN.{length}
use Rattle.sharing.proofs.Coding.{Valued}
use Rattle.sharing.proofs.value.Given as goal

abbrev pub invariant-loop-a : goal.invariant-loop-a
invariant-loop-a l = Valued l.f.p l.coefficients l.x l.acc (length l.coefficients - length l.yielded)
