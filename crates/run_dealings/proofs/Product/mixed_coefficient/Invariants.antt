use Rattle.run_dealings.proofs.MixtureLaws.{Mixing}
use Rattle.run_dealings.proofs.Product.mixed_coefficient.Given as goal

abbrev pub invariant-loop-weight : goal.invariant-loop-weight
invariant-loop-weight l = Mixing l.self.dealings.now.sums.field.p l.k l.self.dealings.now.weights.now l.polynomials l.i l.sum l.at l.weight-index
