use Rattle.seat_sending.proofs.GateLaws.{dealing_there}
use Rattle.seat_sending.proofs.Sender.deal_at.Goals as goal

pub send-requires-clause-out_len : goal.send-requires-clause-out_len
send-requires-clause-out_len c = search dealing_there
