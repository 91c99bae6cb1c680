use Rattle.plan.proofs.Handed.{handed_on}
use Rattle.match_prepared.proofs.JointLaws.{checking}
use Rattle.match_prepared.proofs.checking.PreparedPair.check.Goals as goal

pub returns-in_err-check_inputs : goal.returns-in_err-check_inputs
returns-in_err-check_inputs c = rw (handed_on _ _ c.from_residual.ensures.1) (search (checking, c.in_err-check_inputs.was))

pub returns-in_err-check_coins : goal.returns-in_err-check_coins
returns-in_err-check_coins c =
    rw (handed_on _ _ c.from_residual-in_err-check_coins.ensures.1) (search (checking, c.in_ok-check_inputs.was, c.in_err-check_coins.was))

pub returns-then-not-set_ok : goal.returns-then-not-set_ok
returns-then-not-set_ok c = search checking

pub returns : goal.returns
returns c = search (checking, c.in_ok-check_inputs.was, c.in_ok-check_coins.was)
