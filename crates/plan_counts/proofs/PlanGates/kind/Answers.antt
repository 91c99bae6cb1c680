use Rattle.plan_counts.proofs.Counts.{kinds}
use Rattle.plan_counts.proofs.PlanGates.kind.Goals as goal

pub returns : goal.returns
returns c = search kinds
