use Rattle.plan_counts.proofs.PlanGates.step_after.Goals.{then-kind-ge-MULTIPLY+else-left-steps, else-kind-ge-MULTIPLY}
use Rattle.plan_counts.proofs.Steps.{stepping}
use Rattle.plan_counts.proofs.PlanGates.step_after.Goals as goal

pub loop-g-init : goal.loop-g-init
loop-g-init c = search stepping

pub loop-g-preserved : goal.loop-g-preserved
loop-g-preserved c = elim c.if-kind-ge-MULTIPLY.branch [ then-kind-ge-MULTIPLY+else-left-steps w ↦ search stepping | else-kind-ge-MULTIPLY w ↦ search stepping ]

pub returns : goal.returns
returns c = search stepping

pub returns-then-left-steps : goal.returns-then-left-steps
returns-then-left-steps c = search stepping
