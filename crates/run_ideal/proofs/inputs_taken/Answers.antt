use Rattle.run_ideal.proofs.IdealLaws.{taking}
use Rattle.run_ideal.proofs.inputs_taken.Goals as goal

pub returns-in-Input : goal.returns-in-Input
returns-in-Input c = search taking

pub returns-in-Random : goal.returns-in-Random
returns-in-Random c = search taking
