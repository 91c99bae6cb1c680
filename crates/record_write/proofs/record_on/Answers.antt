use Rattle.plan.proofs.Handed.{handed_on}
use Rattle.record_write.proofs.Recording.{recording}
use Rattle.record_write.proofs.record_on.Goals as goal

pub returns-in_err-check_given-clause-answer : goal.returns-in_err-check_given-clause-answer
returns-in_err-check_given-clause-answer c = rw (handed_on _ _ c.from_residual.ensures.1) (search (recording, c.in_err-check_given.was))

pub returns-in_err-check_given-clause-triples : goal.returns-in_err-check_given-clause-triples
returns-in_err-check_given-clause-triples c = search (recording, c.in_err-check_given.was)

pub returns-in_err-check_given-clause-out : goal.returns-in_err-check_given-clause-out
returns-in_err-check_given-clause-out c = search (recording, c.in_err-check_given.was)

pub returns-then-out-record_size-clause-answer : goal.returns-then-out-record_size-clause-answer
returns-then-out-record_size-clause-answer c = search (recording, c.in_ok-check_given.was)

pub returns-then-out-record_size-clause-triples : goal.returns-then-out-record_size-clause-triples
returns-then-out-record_size-clause-triples c = search (recording, c.in_ok-check_given.was)

pub returns-then-out-record_size-clause-out : goal.returns-then-out-record_size-clause-out
returns-then-out-record_size-clause-out c = search (recording, c.in_ok-check_given.was)

pub returns-in_err-write_record-clause-answer : goal.returns-in_err-write_record-clause-answer
returns-in_err-write_record-clause-answer c =
    rw (handed_on _ _ c.from_residual-in_err-write_record.ensures.1) (search (recording, c.in_ok-check_given.was, c.in_err-write_record.was))

pub returns-in_err-write_record-clause-triples : goal.returns-in_err-write_record-clause-triples
returns-in_err-write_record-clause-triples c = search (recording, c.in_ok-check_given.was, c.in_err-write_record.was)

pub returns-in_err-write_record-clause-out : goal.returns-in_err-write_record-clause-out
returns-in_err-write_record-clause-out c = search (recording, c.in_ok-check_given.was, c.in_err-write_record.was)

pub returns-clause-answer : goal.returns-clause-answer
returns-clause-answer c = search (recording, c.in_ok-check_given.was, c.in_ok-write_record.was)

pub returns-clause-triples : goal.returns-clause-triples
returns-clause-triples c =
    let zeros = c.fill.ensures.after (λ y e. e) in
    search (recording, c.in_ok-check_given.was, c.in_ok-write_record.was, zeros)

pub returns-clause-out : goal.returns-clause-out
returns-clause-out c = search (recording, c.in_ok-check_given.was, c.in_ok-write_record.was)
