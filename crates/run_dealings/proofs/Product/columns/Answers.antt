use Rattle.run_dealings.proofs.ColumnLaws.{gridding}
use Rattle.run_dealings.proofs.Product.columns.Goals as goal

pub loop-j-init : goal.loop-j-init
loop-j-init g c = search gridding

pub loop-j-preserved : goal.loop-j-preserved
loop-j-preserved g c = search gridding

pub returns-clause-sums_after : goal.returns-clause-sums_after
returns-clause-sums_after g c = search gridding
