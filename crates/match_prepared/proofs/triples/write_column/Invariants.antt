use Rattle.numbers.proofs.Fills.{Stored}
use Rattle.match_prepared.specs.MatchingParts.{share_at}
use Rattle.match_prepared.proofs.triples.write_column.Given as goal

abbrev pub invariant-loop-w : goal.invariant-loop-w
invariant-loop-w l = Stored (share_at l.n l.table l.d) l.gates l.initial.out l.out l.w
