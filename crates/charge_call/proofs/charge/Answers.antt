use Rattle.plan.proofs.Handed.{handed_on}
use Rattle.charge_call.proofs.Charging.{charge_no_plan}
use Rattle.charge_call.proofs.charge.Goals as goal

pub returns-in_err-plan-clause-answer : goal.returns-in_err-plan-clause-answer
returns-in_err-plan-clause-answer c = charge_no_plan c.args.bytes.now c.args.price c.args.out.now _ c.in_err-plan.ensures.refused _ (handed_on _ _ c.from_residual.ensures.1)
