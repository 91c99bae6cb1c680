use Rattle.plan.proofs.Handed.{handed_on}
use Rattle.convert_call.proofs.Converting.{convert-refused}
use Rattle.convert_call.proofs.convert.Goals as goal

pub returns-in_err-plan-clause-answer : goal.returns-in_err-plan-clause-answer
returns-in_err-plan-clause-answer c = rw (handed_on _ _ c.from_residual.ensures.1) (convert-refused _ _ _ c.in_err-plan.ensures.refused)
