use Rattle.run_ideal.proofs.IdealLaws.{working}
use Rattle.run_ideal.proofs.values.Goals as goal

pub loop-g-init : goal.loop-g-init
loop-g-init c = search working

pub loop-g-preserved : goal.loop-g-preserved
loop-g-preserved c = search working
