use Rattle.charge_parts.proofs.Loops.{seeking}
use Rattle.charge_parts.proofs.greatest.Goals as goal

pub loop-i-preserved : goal.loop-i-preserved
loop-i-preserved c = search seeking
