use lib.ListN.{length}
use Rattle.sharing_laws.proofs.OffLine.{agrees}
use Rattle.numbers.proofs.Searches.{Seeking}
use Rattle.sharing_openings.proofs.Checker.first_off.Given as goal

abbrev pub invariant-loop-party : goal.invariant-loop-party
invariant-loop-party l = Seeking (agrees l.self.field.p l.self.t l.self.points.now l.shares) (length l.self.points.now) l.party
