use Rattle.seat_sending.proofs.DealLaws.{valuing}
use Rattle.seat_sending.proofs.send_values.Goals as goal

pub loop-j-preserved : goal.loop-j-preserved
loop-j-preserved c = search valuing
