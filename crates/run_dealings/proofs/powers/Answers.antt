use Rattle.run_dealings.proofs.PowerLaws.{powering}
use Rattle.run_dealings.proofs.powers.Goals as goal

pub loop-place-init : goal.loop-place-init
loop-place-init c = search powering

pub loop-place-preserved : goal.loop-place-preserved
loop-place-preserved c = search powering
