use Rattle.plan.proofs.Handed.{handed_on}
use Rattle.record_read.proofs.Readers.{reading_seat}
use Rattle.record_read.proofs.read_seat_on.Goals as goal

pub returns-in_err-check_seat-clause-answer : goal.returns-in_err-check_seat-clause-answer
returns-in_err-check_seat-clause-answer c = rw (handed_on _ _ c.from_residual.ensures.1) (search (reading_seat, c.in_err-check_seat.was))

pub returns-in_err-check_seat-clause-out : goal.returns-in_err-check_seat-clause-out
returns-in_err-check_seat-clause-out c = search (reading_seat, c.in_err-check_seat.was)

pub body_start-requires : goal.body_start-requires
body_start-requires c = search (reading_seat, c.in_ok-check_seat.was)

pub copy-requires : goal.copy-requires
copy-requires c = search (reading_seat, c.in_ok-check_seat.was)

pub returns-clause-answer : goal.returns-clause-answer
returns-clause-answer c = search (reading_seat, c.in_ok-check_seat.was)

pub returns-clause-out : goal.returns-clause-out
returns-clause-out c = search (reading_seat, c.in_ok-check_seat.was)
