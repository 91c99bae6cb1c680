use Rattle.seat_sending.proofs.DealLaws.{beginning}
use Rattle.seat_sending.proofs.Dealt.polynomial.Goals as goal

pub loop-j-init : goal.loop-j-init
loop-j-init c = search beginning
