use Rattle.seat_sending.proofs.OutLaws.{gathering}
use Rattle.seat_sending.proofs.Sender.send_outs.Goals as goal

pub loop-j-init : goal.loop-j-init
loop-j-init c = search gathering

pub loop-j-preserved : goal.loop-j-preserved
loop-j-preserved c = search gathering

pub returns : goal.returns
returns c = search gathering
