use Rattle.plan.proofs.Handed.{handed_on}
use Rattle.match_prepared.proofs.CallLaws.{refused_first, refused_second, kept_buffer}
use Rattle.match_prepared.proofs.match_prepared.Goals as goal

pub returns-in-Err-clause-answer : goal.returns-in-Err-clause-answer
returns-in-Err-clause-answer c = refused_first _ _ _ _ _ _ _ _ _ _ c.in-Err.ensures.refused c.check.ensures c.earlier.ensures

pub returns-in_err-file-clause-answer : goal.returns-in_err-file-clause-answer
returns-in_err-file-clause-answer c =
    rw (handed_on _ _ c.from_residual.ensures.1)
    (refused_second _ _ _ _ _ _ _ _ _ _ c.in-Ok.made.planned c.in-Ok.ensures.passed c.in_err-file.ensures.refused)

pub returns-in_err-file-clause-coins : goal.returns-in_err-file-clause-coins
returns-in_err-file-clause-coins c =
    kept_buffer _ _ _ _ _ _ _ _
    (refused_second _ _ _ _ _ _ _ _ _ _ c.in-Ok.made.planned c.in-Ok.ensures.passed c.in_err-file.ensures.refused)
