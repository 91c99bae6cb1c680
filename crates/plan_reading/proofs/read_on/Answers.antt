use Rattle.plan.proofs.Handed.{handed_on}
use Rattle.plan_reading.proofs.Reading.{reads}
use Rattle.plan_reading.proofs.read_on.Goals as goal

pub returns-in_err-check_body-clause-refused : goal.returns-in_err-check_body-clause-refused
returns-in_err-check_body-clause-refused c = rw (handed_on _ _ c.from_residual.ensures.1) (search (reads, c.in_err-check_body.was))

pub returns-clause-passed : goal.returns-clause-passed
returns-clause-passed c = search (reads, c.in_ok-check_body.was)
