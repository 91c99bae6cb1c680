use Rattle.plan.proofs.Handed.{handed_on}
use Rattle.count_call.proofs.CheckLaws.{listing}
use Rattle.count_call.proofs.checking.Given.check_lists.Goals as goal

pub returns-in_err-check_inputs : goal.returns-in_err-check_inputs
returns-in_err-check_inputs c = rw (handed_on _ _ c.from_residual.ensures.1) (search (listing, c.in_err-check_inputs.was))

pub returns : goal.returns
returns c = search (listing, c.in_ok-check_inputs.was)
