use Rattle.plan.proofs.Handed.{handed_on}
use Rattle.match_prepared.proofs.CallLaws.{checked_answer, passed_answer, kept_buffer, written_buffer}
use Rattle.match_prepared.proofs.match_pair.Goals as goal

pub returns-in_err-check-clause-answer : goal.returns-in_err-check-clause-answer
returns-in_err-check-clause-answer c =
    rw (handed_on _ _ c.from_residual.ensures.1)
    (checked_answer _ _ _ _ _ _ _ _ _ c.args.pair.now.preparing.now.planned c.args.pair.now.lists.plan.now.planned _ c.check.ensures _ c.in_err-check.was)

pub returns-in_err-check-clause-coins : goal.returns-in_err-check-clause-coins
returns-in_err-check-clause-coins c =
    kept_buffer _ _ _ _ _ _ _ _
    (checked_answer _ _ _ _ _ _ _ _ _ c.args.pair.now.preparing.now.planned c.args.pair.now.lists.plan.now.planned _ c.check.ensures _ c.in_err-check.was)

pub returns-clause-answer : goal.returns-clause-answer
returns-clause-answer c = passed_answer _ _ _ _ _ _ _ _ _ c.args.pair.now.preparing.now.planned c.args.pair.now.lists.plan.now.planned _ c.check.ensures c.in_ok-check.was

pub returns-clause-coins : goal.returns-clause-coins
returns-clause-coins c =
    written_buffer _ _ _ _ _ _ _ (passed_answer _ _ _ _ _ _ _ _ _ c.args.pair.now.preparing.now.planned c.args.pair.now.lists.plan.now.planned _ c.check.ensures c.in_ok-check.was) _
    c.matched.ensures
