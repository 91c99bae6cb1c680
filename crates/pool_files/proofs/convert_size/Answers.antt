use Rattle.std.proofs.Common.{rules, ap, length, ◌∙◌}
use Rattle.convert_call.specs.Converting.{converted_file}
use Rattle.pool_files.proofs.Made.{mapped, convert_sized}
use Rattle.pool_files.proofs.convert_size.Goals as goal

pub returns : goal.returns
returns c =
    let h = c.read_old.ensures in
    convert_sized _ _ c.answer.ensures c.args.plan.now
    (mapped c.read_old.result c.map.result _ _ _ c.map.ensures.cases
    (λ x q. (rw q at h.passed, λ s w. (search rules) ∙ ap (λ bs. length (converted_file bs)) (rw q at h.same)))
    (λ e q. rw q at h.refused))
