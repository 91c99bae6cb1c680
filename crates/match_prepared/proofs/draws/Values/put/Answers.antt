use Rattle.match_prepared.proofs.DrawLaws.{putting}
use Rattle.match_prepared.proofs.draws.Values.put.Goals as goal

pub returns-in-Spend : goal.returns-in-Spend
returns-in-Spend c = search putting

pub returns-in_default : goal.returns-in_default
returns-in_default c = search putting
