use Rattle.plan.proofs.Handed.{handed_on}
use Rattle.seat_call.proofs.CallLaws.{calling}
use Rattle.seat_call.proofs.call.Goals as goal

pub returns-in_err-check-clause-answer : goal.returns-in_err-check-clause-answer
returns-in_err-check-clause-answer c =
    rw (handed_on _ _ c.from_residual-in_err-check.ensures.1) (search (calling, c.in_err-check.was, c.in_ok-file.ensures.passed))

pub returns-in_err-file-clause-answer : goal.returns-in_err-file-clause-answer
returns-in_err-file-clause-answer c =
    rw (handed_on _ _ c.from_residual.ensures.1) (search (calling, c.in_err-file.ensures.refused))
