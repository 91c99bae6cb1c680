use Rattle.plan.proofs.Handed.{handed_on}
use Rattle.import_call.proofs.Calls.{checking_plan, plan-refused}
use Rattle.import_call.proofs.Circuit.check_plan.Goals as goal

pub returns-in_err-check : goal.returns-in_err-check
returns-in_err-check c =
    rw (handed_on _ _ c.from_residual.ensures.1) (plan-refused _ _ _ _ _ _ c.requires _ c.check.ensures _ _ c.in_err-check.was)

pub check_majority-requires-clause-importable : goal.check_majority-requires-clause-importable
check_majority-requires-clause-importable c = search (checking_plan, c.in_ok-check.was)
