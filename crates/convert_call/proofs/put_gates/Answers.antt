use Rattle.convert_call.proofs.Converting.{putting}
use Rattle.convert_call.proofs.put_gates.Goals as goal

pub loop-g-init : goal.loop-g-init
loop-g-init c = search putting

pub loop-g-preserved : goal.loop-g-preserved
loop-g-preserved c = search putting

pub returns : goal.returns
returns c = search putting
