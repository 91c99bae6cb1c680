use Rattle.plan.proofs.Handed.{handed_on}
use Rattle.sheet_call.proofs.Calls.{checking_plan}
use Rattle.sheet_call.proofs.check_plan.Goals as goal

pub returns-in_err-check : goal.returns-in_err-check
returns-in_err-check c = rw (handed_on _ _ c.from_residual.ensures.1) (search (checking_plan, c.in_err-check.was))

pub returns : goal.returns
returns c = search (checking_plan, c.in_ok-check.was)

pub returns-then-not-contains : goal.returns-then-not-contains
returns-then-not-contains c = search (checking_plan, c.in_ok-check.was)

pub check_majority-requires : goal.check_majority-requires
check_majority-requires c = search (checking_plan, c.in_ok-check.was)
