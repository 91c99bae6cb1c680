use Rattle.numbers.proofs.Fills.{Filled}
use Rattle.run_dealings.specs.Columns.{mixed_coefficient}
use Rattle.run_dealings.proofs.Product.mix.Given as goal

abbrev pub invariant-loop-i : goal.invariant-loop-i
invariant-loop-i l = Filled (mixed_coefficient l.self.dealings.now.sums.field.p l.k l.self.dealings.now.weights.now l.self.polynomials.now) l.initial.out l.out l.i
