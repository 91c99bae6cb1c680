use Rattle.seat_call.proofs.CallLaws.{working}
use Rattle.seat_call.proofs.send.Goals as goal

pub send-requires : goal.send-requires
send-requires c = search working

pub returns : goal.returns
returns c = search working
