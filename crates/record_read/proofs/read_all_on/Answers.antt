use Rattle.plan.proofs.Handed.{handed_on}
use Rattle.record_read.proofs.Readers.{reading_all}
use Rattle.record_read.proofs.read_all_on.Goals as goal

pub returns-in_err-check_record-clause-answer : goal.returns-in_err-check_record-clause-answer
returns-in_err-check_record-clause-answer c = rw (handed_on _ _ c.from_residual.ensures.1) (search (reading_all, c.in_err-check_record.was))

pub returns-in_err-check_record-clause-out : goal.returns-in_err-check_record-clause-out
returns-in_err-check_record-clause-out c = search (reading_all, c.in_err-check_record.was)

pub overflow_sub-file : goal.overflow_sub-file
overflow_sub-file c = search (reading_all, c.in_ok-check_record.was)

pub returns-clause-out : goal.returns-clause-out
returns-clause-out c = search (reading_all, c.in_ok-check_record.was)
