use Rattle.plan.proofs.Handed.{handed_on}
use Rattle.match_agreement.proofs.AgreeLaws.{coining}
use Rattle.match_agreement.proofs.InputPair.check_coins.Goals as goal

pub returns-in_err-check_coins : goal.returns-in_err-check_coins
returns-in_err-check_coins c = rw (handed_on _ _ c.from_residual.ensures.1) (search (coining, c.in_err-check_coins.was))

pub returns-then-tally_of-ne0 : goal.returns-then-tally_of-ne0
returns-then-tally_of-ne0 c = search (coining, c.in_ok-check_coins.was)

pub returns-then-room-count : goal.returns-then-room-count
returns-then-room-count c = search (coining, c.in_ok-check_coins.was)

pub returns : goal.returns
returns c = search (coining, c.in_ok-check_coins.was)
