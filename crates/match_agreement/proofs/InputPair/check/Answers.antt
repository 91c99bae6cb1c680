use Rattle.plan.proofs.Handed.{handed_on}
use Rattle.match_agreement.proofs.AgreeLaws.{pairing}
use Rattle.match_agreement.proofs.InputPair.check.Goals as goal

pub returns-in_err-check_inputs : goal.returns-in_err-check_inputs
returns-in_err-check_inputs c = rw (handed_on _ _ c.from_residual.ensures.1) (search (pairing, c.in_err-check_inputs.was))

pub returns-in_err-check_coins : goal.returns-in_err-check_coins
returns-in_err-check_coins c =
    rw (handed_on _ _ c.from_residual-in_err-check_coins.ensures.1) (search (pairing, c.in_ok-check_inputs.was, c.in_err-check_coins.was))
