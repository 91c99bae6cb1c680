use Rattle.match_prepared.proofs.TurnLaws.{taking_earlier}
use Rattle.match_prepared.proofs.earlier.Goals as goal

pub returns-then-number : goal.returns-then-number
returns-then-number c = search taking_earlier

pub returns-else-number : goal.returns-else-number
returns-else-number c = search taking_earlier
