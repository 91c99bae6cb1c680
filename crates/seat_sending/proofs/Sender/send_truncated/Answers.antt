use Rattle.seat_sending.proofs.CutLaws.{piecing}
use Rattle.seat_sending.proofs.Sender.send_truncated.Goals as goal

pub loop-j-init : goal.loop-j-init
loop-j-init c = search piecing

pub loop-j-preserved : goal.loop-j-preserved
loop-j-preserved c = search piecing
