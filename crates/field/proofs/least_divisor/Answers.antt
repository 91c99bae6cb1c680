use Rattle.field.proofs.Divisors.{trying}
use Rattle.field.proofs.least_divisor.Goals as goal

pub returns-then-n-d : goal.returns-then-n-d
returns-then-n-d c = search trying

pub loop-d-preserved : goal.loop-d-preserved
loop-d-preserved c = search trying

pub returns : goal.returns
returns c = search trying
