use Rattle.seat_messages.proofs.PointLaws.{pointing}
use Rattle.seat_messages.proofs.points_of.Goals as goal

pub loop-i-init : goal.loop-i-init
loop-i-init c = search pointing
