use Rattle.seat_sending.proofs.OutLaws.{outing}
use Rattle.seat_sending.proofs.Sender.send_outs_to.Goals as goal

pub loop-o-init : goal.loop-o-init
loop-o-init c = search outing

pub loop-o-preserved-then-party-output : goal.loop-o-preserved-then-party-output
loop-o-preserved-then-party-output c = search outing

pub loop-o-preserved : goal.loop-o-preserved
loop-o-preserved c = search outing

pub returns : goal.returns
returns c = search outing
