use Rattle.numbers.proofs.Fills.{Filled}
use Rattle.sharing_matrix.proofs.Ruling.{entry_at}
use Rattle.sharing_matrix.proofs.Bases.row.Given as goal

abbrev pub invariant-loop-j : goal.invariant-loop-j
invariant-loop-j l = Filled (entry_at l.self.field.p l.self.t l.self.points.now l.x) l.initial.out l.out l.j
