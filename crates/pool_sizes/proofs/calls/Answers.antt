use Rattle.std.proofs.Common.{rules, suc}
use Rattle.plan.specs.Plans.{last_call}
use Rattle.pool_sizes.proofs.Sized.{of_plan, calls_counted}
use Rattle.pool_sizes.proofs.calls.Goals as goal

pub returns : goal.returns
returns c =
    let h = c.read.ensures in
    calls_counted c.args.plan.now _ _ c.answer.ensures (of_plan c.args.plan.now c.map.result _ (λ plan. suc (last_call plan)) (λ f s w. search rules) c.read.result h.passed h.refused c.map.ensures.cases)
