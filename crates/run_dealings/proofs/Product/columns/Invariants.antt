use Rattle.run_dealings.proofs.ColumnLaws.{Gridding}
use Rattle.run_dealings.proofs.Product.columns.Given as goal

abbrev pub invariant-loop-j : goal.invariant-loop-j
invariant-loop-j g l = Gridding l.self.dealings.now.sums.field.p g.row.K l.self.dealings.now.points.now l.self.dealings.now.weights.now l.self.polynomials.now l.initial.grid l.grid l.sums l.j
