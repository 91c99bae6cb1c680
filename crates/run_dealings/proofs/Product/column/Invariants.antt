use Rattle.run_dealings.proofs.ColumnLaws.{Columning}
use Rattle.run_dealings.proofs.Product.column.Given as goal

abbrev pub invariant-loop-d : goal.invariant-loop-d
invariant-loop-d g l = Columning l.self.dealings.now.sums.field.p l.weights l.powers l.polynomials l.j l.initial.grid l.grid l.sum l.d
