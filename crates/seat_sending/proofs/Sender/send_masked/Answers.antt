use Rattle.seat_sending.proofs.GateLaws.{masked_sending}
use Rattle.seat_sending.proofs.Sender.send_masked.Goals as goal

pub deal_at-requires-clause-g_le_gates : goal.deal_at-requires-clause-g_le_gates
deal_at-requires-clause-g_le_gates c = search masked_sending

pub deal_at-requires-clause-skip_bound : goal.deal_at-requires-clause-skip_bound
deal_at-requires-clause-skip_bound c = search masked_sending

pub deal_at-requires-clause-out_len : goal.deal_at-requires-clause-out_len
deal_at-requires-clause-out_len c = search masked_sending

pub returns : goal.returns
returns c = search masked_sending
