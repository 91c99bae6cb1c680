use lib.ListN.{length}
use Rattle.sharing_openings.proofs.Rows.{Written}
use Rattle.run_dealings.proofs.PowerLaws.{powers_at}
use Rattle.run_dealings.proofs.power_rows.Given as goal

abbrev pub invariant-loop-party : goal.invariant-loop-party
invariant-loop-party l = Written (powers_at l.f.p l.k l.points) l.k (length l.points) l.initial.rows l.rows l.party
