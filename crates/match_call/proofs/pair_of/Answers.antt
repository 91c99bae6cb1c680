use Rattle.plan.proofs.Handed.{handed_on}
use Rattle.match_call.proofs.PairLaws.{pairing_up}
use Rattle.match_call.proofs.pair_of.Goals as goal

pub returns-in_err-check-clause-answer : goal.returns-in_err-check-clause-answer
returns-in_err-check-clause-answer c =
    rw (handed_on _ _ c.from_residual.ensures.1) (search (pairing_up, c.in_err-check.was))

pub returns-in_err-check-clause-coins : goal.returns-in_err-check-clause-coins
returns-in_err-check-clause-coins c = search (pairing_up, c.in_err-check.was)

pub matched-requires : goal.matched-requires
matched-requires c = search (pairing_up, c.in_ok-check.was)

pub returns-clause-answer : goal.returns-clause-answer
returns-clause-answer c = search (pairing_up, c.in_ok-check.was)

pub returns-clause-coins : goal.returns-clause-coins
returns-clause-coins c = search (pairing_up, c.in_ok-check.was)
