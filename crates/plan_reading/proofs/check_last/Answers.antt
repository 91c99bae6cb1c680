use Rattle.plan.proofs.Handed.{handed_on}
use Rattle.plan_reading.proofs.Ways.{last}
use Rattle.plan_reading.proofs.check_last.Goals as goal

pub returns-in_err-check_majority : goal.returns-in_err-check_majority
returns-in_err-check_majority c = rw (handed_on _ _ c.from_residual.ensures.1) (search (last, c.in_err-check_majority.was))
