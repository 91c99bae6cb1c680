use Rattle.plan.proofs.Handed.{handed_on}
use Rattle.seat_admission.proofs.CheckLaws.{each}
use Rattle.seat_admission.proofs.check_outs.Goals as goal

pub loop-j-init : goal.loop-j-init
loop-j-init c = search (each)

pub returns-in_err-check_out : goal.returns-in_err-check_out
returns-in_err-check_out c = rw (handed_on _ _ c.from_residual.ensures.1) (search (each, c.in_err-check_out.was))

pub loop-j-preserved : goal.loop-j-preserved
loop-j-preserved c = search (each, c.in_ok-check_out.was)

pub returns : goal.returns
returns c = search (each)
