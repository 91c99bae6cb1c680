use Rattle.match_prepared.proofs.DrawLaws.{putting_all}
use Rattle.match_prepared.proofs.draws.Values.spent_changes.Goals as goal

pub loop-g-init : goal.loop-g-init
loop-g-init c = search putting_all

pub loop-g-preserved : goal.loop-g-preserved
loop-g-preserved c = search putting_all

pub returns : goal.returns
returns c = search putting_all
