use Rattle.plan.specs.File.{majority_kept}
use Rattle.plan_reading.proofs.Reading.{lacking}
use Rattle.plan_reading.proofs.first_lacking.Goals as goal

pub returns : goal.returns
returns c = rw (← c.field.ensures.eq) (c.first_failing.ensures (majority_kept c.args.plan.now) (λ i t l q. search lacking))
