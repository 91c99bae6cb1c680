use Rattle.run_tables.proofs.StepLaws.{placing}
use Rattle.run_tables.proofs.matrix_for.Goals as goal

pub new-requires-clause-few : goal.new-requires-clause-few
new-requires-clause-few c = search placing
