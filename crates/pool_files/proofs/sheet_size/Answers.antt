use Rattle.std.proofs.Common.{rules}
use Rattle.pool_files.proofs.Made.{mapped, sheet_refused, sheet_passed, sheet_long, sheet_sized}
use Rattle.pool_files.proofs.sheet_size.Goals as goal

pub returns : goal.returns
returns c =
    let a = c.args in
    let h = c.measure_sheet-counts.ensures in
    sheet_sized _ _ c.answer.ensures a.n a.t a.p a.seat a.text.now
    (mapped c.measure_sheet-counts.result c.map.result _ _ _ c.map.ensures.cases
    (λ x q. (sheet_passed a.text.now a.n a.t a.p a.seat _ h x q, λ s w. sheet_long a.text.now a.n a.t a.p a.seat _ h x q _ s c.version_for-version.ensures (search rules)))
    (sheet_refused a.text.now a.n a.t a.p a.seat _ h))
