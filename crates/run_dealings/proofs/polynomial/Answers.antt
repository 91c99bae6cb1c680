use Rattle.run_dealings.proofs.PolynomialLaws.{padding}
use Rattle.run_dealings.proofs.polynomial.Goals as goal

pub loop-i-init : goal.loop-i-init
loop-i-init c = search padding
