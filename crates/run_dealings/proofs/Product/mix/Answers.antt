use Rattle.run_dealings.proofs.MixtureLaws.{filling_mixture}
use Rattle.run_dealings.proofs.Product.mix.Goals as goal

pub loop-i-init : goal.loop-i-init
loop-i-init c = search filling_mixture
