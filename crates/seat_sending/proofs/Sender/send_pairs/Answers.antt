use Rattle.seat_sending.proofs.TripleLaws.{pairing}
use Rattle.seat_sending.proofs.Sender.send_pairs.Goals as goal

pub loop-j-init : goal.loop-j-init
loop-j-init c = search pairing

pub loop-j-preserved : goal.loop-j-preserved
loop-j-preserved c = search pairing

pub returns : goal.returns
returns c = search pairing
