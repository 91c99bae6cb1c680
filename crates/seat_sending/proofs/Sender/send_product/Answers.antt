use Rattle.seat_sending.proofs.GateLaws.{product_sending}
use Rattle.seat_sending.proofs.Sender.send_product.Goals as goal

pub returns-then-t-self : goal.returns-then-t-self
returns-then-t-self c = search product_sending

pub deal_at-requires-clause-g_le_gates : goal.deal_at-requires-clause-g_le_gates
deal_at-requires-clause-g_le_gates c = search product_sending

pub deal_at-requires-clause-out_len : goal.deal_at-requires-clause-out_len
deal_at-requires-clause-out_len c = search product_sending

pub returns : goal.returns
returns c = search product_sending
