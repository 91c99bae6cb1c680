use Rattle.charge_parts.proofs.Loops.{dividing}
use Rattle.charge_parts.proofs.divide.Goals as goal

pub loop-i-init : goal.loop-i-init
loop-i-init c = search dividing

pub loop-i-preserved : goal.loop-i-preserved
loop-i-preserved c = search dividing
