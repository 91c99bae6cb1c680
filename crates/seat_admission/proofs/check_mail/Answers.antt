use Rattle.plan.proofs.Handed.{handed_on}
use Rattle.seat_admission.proofs.CheckLaws.{mailing}
use Rattle.seat_admission.proofs.check_mail.Goals as goal

pub returns-in_err-check_list : goal.returns-in_err-check_list
returns-in_err-check_list c = rw (handed_on _ _ c.from_residual.ensures.1) (search (mailing, c.in_err-check_list.was))
