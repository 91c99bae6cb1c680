use Rattle.seat_sending.proofs.GateLaws.{draw_sending}
use Rattle.seat_sending.proofs.Sender.send_draw.Goals as goal

pub inputs_below-place-requires : goal.inputs_below-place-requires
inputs_below-place-requires c = search draw_sending

pub deal_at-requires-clause-g_le_gates : goal.deal_at-requires-clause-g_le_gates
deal_at-requires-clause-g_le_gates c = search draw_sending

pub deal_at-requires-clause-secret_lt_p : goal.deal_at-requires-clause-secret_lt_p
deal_at-requires-clause-secret_lt_p c = search draw_sending

pub deal_at-requires-clause-out_len : goal.deal_at-requires-clause-out_len
deal_at-requires-clause-out_len c = search draw_sending

pub returns : goal.returns
returns c = search draw_sending
