use Rattle.plan_counts.proofs.Counts.{counting}
use Rattle.plan_counts.proofs.PlanGates.tally_below.Goals as goal

pub loop-g-init : goal.loop-g-init
loop-g-init c = search counting

pub loop-g-preserved : goal.loop-g-preserved
loop-g-preserved c = search counting

pub returns : goal.returns
returns c = search counting
