use Rattle.run_dealings.proofs.PowerLaws.{writing}
use Rattle.run_dealings.proofs.power_rows.Goals as goal

pub loop-party-preserved : goal.loop-party-preserved
loop-party-preserved c = search writing
