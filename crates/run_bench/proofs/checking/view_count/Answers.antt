use Rattle.run_bench.proofs.RunCheckLaws.{sizing_all}
use Rattle.run_bench.proofs.checking.view_count.Goals as goal

pub loop-i-preserved : goal.loop-i-preserved
loop-i-preserved c = search sizing_all

pub returns : goal.returns
returns c = search sizing_all
