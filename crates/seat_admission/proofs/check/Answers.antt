use Rattle.plan.proofs.Handed.{handed_on}
use Rattle.seat_admission.proofs.CheckLaws.{ordering}
use Rattle.seat_admission.proofs.check.Goals as goal

pub returns-in_err-check_own : goal.returns-in_err-check_own
returns-in_err-check_own c = rw (handed_on _ _ c.from_residual.ensures.1) (search (ordering, c.in_err-check_own.was))

pub returns-in_err-check_state : goal.returns-in_err-check_state
returns-in_err-check_state c = rw (handed_on _ _ c.from_residual-in_err-check_state.ensures.1) (search (ordering, c.in_ok-check_own.was, c.in_err-check_state.was))
