use Rattle.plan.proofs.Handed.{handed_on}
use Rattle.count_call.proofs.CallLaws.{calling}
use Rattle.count_call.proofs.checking.Given.count.Goals as goal

pub returns-in_err-check-clause-answer : goal.returns-in_err-check-clause-answer
returns-in_err-check-clause-answer c = rw (handed_on _ _ c.from_residual.ensures.1) (search (calling, c.in_err-check.was))

pub returns-in_err-check-clause-out : goal.returns-in_err-check-clause-out
returns-in_err-check-clause-out c = search (calling, c.in_err-check.was)

pub write_views-requires-clause-countable : goal.write_views-requires-clause-countable
write_views-requires-clause-countable c = search (calling, c.in_ok-check.was)

pub write_views-requires-clause-out_len : goal.write_views-requires-clause-out_len
write_views-requires-clause-out_len c = search (calling, c.in_ok-check.was)

pub returns-clause-answer : goal.returns-clause-answer
returns-clause-answer c = search (calling, c.in_ok-check.was)

pub returns-clause-out : goal.returns-clause-out
returns-clause-out c = search (calling, c.in_ok-check.was)
