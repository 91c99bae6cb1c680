use Prim.Native.Nat.{◌-◌}
use lib.ListN.{length}
use Rattle.sharing_delta.proofs.Factors.{Grown}
use Rattle.sharing_delta.proofs.vanishing.Given as goal

abbrev pub invariant-loop-member : goal.invariant-loop-member
invariant-loop-member l = Grown l.f.p l.members l.initial.out l.out (length l.members - length l.yielded)
