use Rattle.plan.proofs.Handed.{handed_on}
use Rattle.count_call.proofs.CheckLaws.{checking}
use Rattle.count_call.proofs.checking.Given.check.Goals as goal

pub returns-in_err-check_lists : goal.returns-in_err-check_lists
returns-in_err-check_lists c = rw (handed_on _ _ c.from_residual.ensures.1) (search (checking, c.in_err-check_lists.was))
