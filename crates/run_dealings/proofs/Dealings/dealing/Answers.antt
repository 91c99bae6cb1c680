use Rattle.run_dealings.proofs.DealingLaws.{dealing}
use Rattle.run_dealings.proofs.Dealings.dealing.Goals as goal

pub loop-j-preserved : goal.loop-j-preserved
loop-j-preserved c = search dealing
