use Rattle.import_check.proofs.Marks.{marking}
use Rattle.import_check.proofs.mark_inputs.Goals as goal

pub loop-w-init : goal.loop-w-init
loop-w-init c = search marking
