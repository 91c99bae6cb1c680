use Rattle.plan.proofs.Handed.{handed_on}
use Rattle.record_read.proofs.Readers.{checking_seat}
use Rattle.record_read.proofs.check_seat.Goals as goal

pub returns-in_err-check_record : goal.returns-in_err-check_record
returns-in_err-check_record c = rw (handed_on _ _ c.from_residual.ensures.1) (search (checking_seat, c.in_err-check_record.was))

pub returns-then-not-seated : goal.returns-then-not-seated
returns-then-not-seated c = search (checking_seat, c.in_ok-check_record.was)

pub returns-then-room-body_size : goal.returns-then-room-body_size
returns-then-room-body_size c = search (checking_seat, c.in_ok-check_record.was)

pub returns : goal.returns
returns c = search (checking_seat, c.in_ok-check_record.was)
