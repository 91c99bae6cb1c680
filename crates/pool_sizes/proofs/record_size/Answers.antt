use Rattle.std.proofs.Common.{rules}
use Rattle.record_laws.specs.Records.{record_size}
use Rattle.pool_sizes.proofs.Sized.{of_plan, stored_sized}
use Rattle.pool_sizes.proofs.record_size.Goals as goal

pub returns : goal.returns
returns c =
    let h = c.read.ensures in
    stored_sized c.args.plan.now _ _ c.answer.ensures (of_plan c.args.plan.now c.map.result _ (record_size) (λ f s w. search rules) c.read.result h.passed h.refused c.map.ensures.cases)
