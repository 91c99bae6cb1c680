use Rattle.run_views.proofs.ViewLaws.{rounding}
use Rattle.run_views.proofs.Member.write_first.Goals as goal

pub loop-j-preserved : goal.loop-j-preserved
loop-j-preserved c = search rounding

pub returns : goal.returns
returns c = search rounding
