use Prim.Native.Nat.{◌+◌}
use lib.ListN.{length}
use Rattle.sharing_laws.specs.Sharing.{opening_row}
use Rattle.sharing_openings.proofs.Rows.{Written}
use Rattle.sharing_openings.proofs.opening_rows.Given as goal

abbrev pub invariant-loop-party : goal.invariant-loop-party
invariant-loop-party l = Written (opening_row l.f.p l.t l.points) (l.t + 1) (length l.points) l.initial.rows l.rows l.party
