use Rattle.std.proofs.Common.{rules}
use Rattle.pool_files.proofs.Made.{mapped, import_refused, import_passed, import_long, import_sized}
use Rattle.pool_files.proofs.import_size.Goals as goal

pub returns : goal.returns
returns c =
    let a = c.args in
    let h = c.measure_text-counts.ensures in
    import_sized _ _ c.answer.ensures a.n a.t a.p a.text.now
    (mapped c.measure_text-counts.result c.map.result _ _ _ c.map.ensures.cases
    (λ x q. (import_passed a.text.now a.n a.t a.p _ h x q, λ s w. import_long a.text.now a.n a.t a.p _ h x q _ s c.version_for-version.ensures (search rules)))
    (import_refused a.text.now a.n a.t a.p _ h))
