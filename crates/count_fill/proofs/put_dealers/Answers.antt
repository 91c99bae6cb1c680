use Rattle.count_fill.proofs.OwnerLaws.{dealing}
use Rattle.count_fill.proofs.put_dealers.Goals as goal

pub loop-i-init : goal.loop-i-init
loop-i-init c = search dealing

pub loop-i-preserved : goal.loop-i-preserved
loop-i-preserved c = search dealing
