use Rattle.run_bench.proofs.RunCheckLaws.{sizing}
use Rattle.run_bench.proofs.checking.view_by.Goals as goal

pub returns : goal.returns
returns c = search sizing
