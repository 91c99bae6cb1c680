use lib.ListN.{length}
use Rattle.sharing_laws.specs.Basis.{row}
use Rattle.sharing_matrix.proofs.Tables.{Laid}
use Rattle.sharing_matrix.proofs.write_matrix.Given as goal

abbrev pub invariant-loop-i : goal.invariant-loop-i
invariant-loop-i l = Laid (row l.bases.field.p l.bases.t l.bases.points.now) (length l.bases.points.now) l.bases.points.now l.initial.out l.out l.i
