use Rattle.plan.proofs.Handed.{handed_on}
use Rattle.sheet_call.proofs.Calls.{measuring, some_of, measure-none}
use Rattle.sheet_call.proofs.measure_in.Goals as goal

pub returns-in_err-counts : goal.returns-in_err-counts
returns-in_err-counts c =
    rw (handed_on _ _ c.from_residual.ensures.1) (measure-none _ _ _ _ _ _ _ c.survey.ensures _ c.ok_or.ensures.value _ c.in_err-counts.was)

pub returns-then-counts-gt1024 : goal.returns-then-counts-gt1024
returns-then-counts-gt1024 c =
    let e = some_of _ _ _ _ c.ok_or.ensures.value c.in_ok-counts.was in
    search measuring

pub check_plan-requires : goal.check_plan-requires
check_plan-requires c =
    let e = some_of _ _ _ _ c.ok_or.ensures.value c.in_ok-counts.was in
    search measuring

pub returns-in_err-check_plan : goal.returns-in_err-check_plan
returns-in_err-check_plan c =
    let e = some_of _ _ _ _ c.ok_or.ensures.value c.in_ok-counts.was in
    rw (handed_on _ _ c.from_residual-in_err-check_plan.ensures.1) (search (measuring, c.in_err-check_plan.was))

pub returns : goal.returns
returns c =
    let e = some_of _ _ _ _ c.ok_or.ensures.value c.in_ok-counts.was in
    search (measuring, c.in_ok-check_plan.was)
