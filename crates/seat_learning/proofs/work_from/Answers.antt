use Rattle.seat_learning.proofs.LearnLaws.{going_on}
use Rattle.seat_learning.proofs.work_from.Goals as goal

pub loop-g-preserved : goal.loop-g-preserved
loop-g-preserved c = search going_on
