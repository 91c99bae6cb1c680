use Rattle.numbers.proofs.Searches.{Seeking}
use Rattle.plan.specs.File.{plan_of}
use Rattle.match_prepared.specs.PreparedParts.{makes_at}
use Rattle.match_prepared.proofs.checking.PreparedPair.makes_triples.Given as goal

abbrev pub invariant-loop-k : goal.invariant-loop-k
invariant-loop-k l = Seeking (makes_at (plan_of l.self.preparing.now.bytes.now).gates) l.triples l.k
