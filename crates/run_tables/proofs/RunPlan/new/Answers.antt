use Rattle.run_tables.proofs.StepLaws.{placing}
use Rattle.run_tables.proofs.RunPlan.new.Goals as goal

pub new-dealings-requires-clause-t_in_bounds : goal.new-dealings-requires-clause-t_in_bounds
new-dealings-requires-clause-t_in_bounds c = search placing
