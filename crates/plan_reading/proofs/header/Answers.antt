use Rattle.std.proofs.lemmas.Result.{IfOk-weaker, MatchResult-weaker}
use Rattle.plan.proofs.Handed.{handed_on}
use Rattle.plan_reading.proofs.Reading.{reads, read-passed, read-refused}
use Rattle.plan_reading.proofs.header.Goals as goal

pub returns-in_err-check_contents-clause-refused : goal.returns-in_err-check_contents-clause-refused
returns-in_err-check_contents-clause-refused c = rw (handed_on _ _ c.from_residual.ensures.1) (search (reads, c.in_err-check_contents.was))

pub returns-clause-passed : goal.returns-clause-passed
returns-clause-passed c = IfOk-weaker _ _ _ (λ h k. read-passed c.args.plan.now c.check_contents.result c.check_contents.ensures c.in_ok-check_contents.was h k.0 k.1) c.read_on.ensures.passed

pub returns-clause-refused : goal.returns-clause-refused
returns-clause-refused c = MatchResult-weaker c.read_on.result c.read_on.ensures.refused (λ h t. t)
    (λ r e. read-refused c.args.plan.now c.check_contents.result c.check_contents.ensures c.in_ok-check_contents.was r e)
