use Rattle.sharing_matrix.proofs.Fitting.{Mixed}
use Rattle.sharing_matrix.proofs.Bases.fit.Given as goal

abbrev pub invariant-loop-i : goal.invariant-loop-i
invariant-loop-i l = Mixed l.self.field.p l.self.t l.self.points.now l.values l.out l.i
