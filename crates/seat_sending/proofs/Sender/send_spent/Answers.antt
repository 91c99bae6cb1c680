use Rattle.seat_sending.proofs.TripleLaws.{spend_sending}
use Rattle.seat_sending.proofs.Sender.send_spent.Goals as goal

pub triple_at-at-requires : goal.triple_at-at-requires
triple_at-at-requires c = search spend_sending

pub send_pairs-requires-clause-out_len : goal.send_pairs-requires-clause-out_len
send_pairs-requires-clause-out_len c = search spend_sending

pub returns : goal.returns
returns c = search spend_sending
