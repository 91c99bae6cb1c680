use Rattle.seat_sending.proofs.GateLaws.{zero_sending}
use Rattle.seat_sending.proofs.Sender.send_zero.Goals as goal

pub deal_at-requires-clause-g_le_gates : goal.deal_at-requires-clause-g_le_gates
deal_at-requires-clause-g_le_gates c = search zero_sending

pub deal_at-requires-clause-k_bound : goal.deal_at-requires-clause-k_bound
deal_at-requires-clause-k_bound c = search zero_sending

pub deal_at-requires-clause-out_len : goal.deal_at-requires-clause-out_len
deal_at-requires-clause-out_len c = search zero_sending

pub returns : goal.returns
returns c = search zero_sending
