use Rattle.run_tables.proofs.FillLaws.{stepping}
use Rattle.run_tables.proofs.RunPlan.step.Goals as goal

pub returns : goal.returns
returns c = search stepping
