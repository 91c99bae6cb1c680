use Rattle.seat_sending.proofs.InputLaws.{inputting}
use Rattle.seat_sending.proofs.Sender.send_inputs_to.Goals as goal

pub loop-g-init : goal.loop-g-init
loop-g-init c = search inputting

pub loop-g-preserved : goal.loop-g-preserved
loop-g-preserved c = search inputting

pub returns : goal.returns
returns c = search inputting
