use Rattle.numbers.proofs.Fills.{Filled}
use Rattle.sharing_matrix.proofs.Ruling.{applied_at}
use Rattle.sharing_matrix.proofs.Matrix.shares.Given as goal

abbrev pub invariant-loop-i : goal.invariant-loop-i
invariant-loop-i l = Filled (applied_at l.self.sums.field.p l.self.t l.self.points.now l.values) l.initial.out l.out l.i
