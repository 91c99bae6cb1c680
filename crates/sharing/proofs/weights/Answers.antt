use Rattle.sharing.proofs.Weighing.{weightings}
use Rattle.sharing.proofs.weights.Goals as goal

pub loop-i-init : goal.loop-i-init
loop-i-init c = search weightings
