use Rattle.sharing_delta.proofs.Factors.{carrying}
use Rattle.sharing_delta.proofs.times.Goals as goal

pub loop-coefficient-preserved : goal.loop-coefficient-preserved
loop-coefficient-preserved c = search carrying
