use Prim.Native.Nat.{◌-◌}
use Rattle.field.proofs.Divisors.{Trying}
use Rattle.field.proofs.least_divisor.Given as goal

abbrev pub invariant-loop-d : goal.invariant-loop-d
invariant-loop-d l = Trying l.p l.d l.step

abbrev pub decreases-loop-d : goal.decreases-loop-d
decreases-loop-d l = l.p - l.d
