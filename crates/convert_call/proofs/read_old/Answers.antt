use Rattle.plan.proofs.Handed.{handed_on}
use Rattle.convert_call.proofs.Reading.{old-refused, old-passes}
use Rattle.convert_call.proofs.read_old.Goals as goal

pub returns-in_err-plan-clause-refused : goal.returns-in_err-plan-clause-refused
returns-in_err-plan-clause-refused c =
    rw (handed_on _ _ c.from_residual.ensures.1) (old-refused _ _ c.is_later.ensures _ c.if-is_later.false c.in_err-plan.ensures.refused)

pub returns-clause-passed : goal.returns-clause-passed
returns-clause-passed c = old-passes _ _ c.is_later.ensures _ _ c.if-is_later.false c.in_ok-plan.plan.planned c.in_ok-plan.ensures.passed
