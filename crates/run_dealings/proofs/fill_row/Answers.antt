use Rattle.run_dealings.proofs.RowLaws.{entry-none, entry-next, entries-made}
use Rattle.run_dealings.proofs.fill_row.Goals as goal

pub loop-j-init : goal.loop-j-init
loop-j-init g c = λ entry is. entry-none entry _

pub loop-j-preserved : goal.loop-j-preserved
loop-j-preserved g c =
    λ entry is.
    entry-next entry _ c.loop-j.row c.loop-j.j (c.loop-j.invariant entry is) c.rule.result c.loop-j-test.true (is _ _ c.loop-j-test.true c.rule.ensures)

pub returns : goal.returns
returns g c = λ entry is. entries-made entry _ c.loop-j.row c.loop-j.j (c.loop-j.invariant entry is) c.loop-j-test.false
