use Prim.Native.Nat.{◌+◌}
use Rattle.sharing_matrix.specs.Matrix.{low_basis}
use Rattle.sharing_matrix.proofs.Tables.{Laid}
use Rattle.sharing_matrix.proofs.write_bases.Given as goal

abbrev pub invariant-loop-i : goal.invariant-loop-i
invariant-loop-i l = Laid (low_basis l.f.p (l.t + 1) l.points) (l.t + 1) l.points l.initial.out l.out l.i
