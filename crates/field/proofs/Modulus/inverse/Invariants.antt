use Rattle.field.proofs.Elements.{Inverting}
use Rattle.field.proofs.Modulus.inverse.Given as goal

abbrev pub invariant-loop-r : goal.invariant-loop-r
invariant-loop-r l = Inverting l.self.p l.a l.acc l.r

abbrev pub decreases-loop-r : goal.decreases-loop-r
decreases-loop-r l = l.r
