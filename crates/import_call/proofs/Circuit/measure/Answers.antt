use Rattle.plan.proofs.Handed.{handed_on}
use Rattle.import_call.proofs.Calls.{measuring, some_of, measure-none}
use Rattle.import_call.proofs.Circuit.measure.Goals as goal

pub returns-in_err-c : goal.returns-in_err-c
returns-in_err-c c =
    rw (handed_on _ _ c.from_residual.ensures.1) (measure-none _ _ _ c.survey_text.ensures _ _ _ c.ok_or.ensures.value _ c.in_err-c.was)

pub returns-then-c-gt1024 : goal.returns-then-c-gt1024
returns-then-c-gt1024 c =
    let e = some_of _ _ _ _ c.ok_or.ensures.value c.in_ok-c.was in
    search measuring

pub check_plan-requires : goal.check_plan-requires
check_plan-requires c =
    let e = some_of _ _ _ _ c.ok_or.ensures.value c.in_ok-c.was in
    search measuring

pub returns-in_err-check_plan : goal.returns-in_err-check_plan
returns-in_err-check_plan c =
    let e = some_of _ _ _ _ c.ok_or.ensures.value c.in_ok-c.was in
    rw (handed_on _ _ c.from_residual-in_err-check_plan.ensures.1) (search (measuring, c.in_err-check_plan.was))

pub returns : goal.returns
returns c =
    let e = some_of _ _ _ _ c.ok_or.ensures.value c.in_ok-c.was in
    search (measuring, c.in_ok-check_plan.was)
