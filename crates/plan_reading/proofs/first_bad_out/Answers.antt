use Rattle.plan.specs.File.{out_kept}
use Rattle.plan_reading.proofs.Reading.{outs}
use Rattle.plan_reading.proofs.first_bad_out.Goals as goal

pub returns : goal.returns
returns c = rw (← c.field-outs.ensures.eq) (c.first_failing.ensures (out_kept c.args.plan.now) (λ i t l q. search outs))
