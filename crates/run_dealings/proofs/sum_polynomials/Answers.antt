use Rattle.run_dealings.proofs.SumLaws.{filling_sum}
use Rattle.run_dealings.proofs.sum_polynomials.Goals as goal

pub loop-i-init : goal.loop-i-init
loop-i-init c = search filling_sum
