use Rattle.sharing.proofs.Coding.{dealing}
use Rattle.sharing.proofs.deal.Goals as goal

pub loop-k-init : goal.loop-k-init
loop-k-init c = search dealing
