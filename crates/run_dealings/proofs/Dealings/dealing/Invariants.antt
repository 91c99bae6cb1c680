use Rattle.run_dealings.proofs.DealingLaws.{Piecing}
use Rattle.run_dealings.proofs.Dealings.dealing.Given as goal

abbrev pub invariant-loop-j : goal.invariant-loop-j
invariant-loop-j l = Piecing l.sums.field.p l.polynomial l.self.points.now l.row l.j
