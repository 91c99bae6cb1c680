-- The calls of plan K in another order than round by round, by computation: party 3 makes its call 2 when party 2 has dealt its product, not before.
-- Assumes nothing.
use mathlib.Core.Path.{◌≡◌, refl}
use mathlib.Core.Bool.{true, false}
use mathlib.Core.List.{List, [], ◌∷◌, map, flat_map}
use Prim.Native.Nat.{ℕ}
use lib.ListN.{get_or}
use Rattle.plan.specs.File.{between}
use Rattle.numbers.specs.Tables.{tab, first_from, first_failing, count_where, total}
use Rattle.field.specs.Mod.{add, mul, sub}
use Rattle.field.specs.Prime.{invert, inv}
use Rattle.sharing_laws.specs.Poly.{eval, sum_of, scale, product, linear}
use Rattle.sharing_laws.specs.Interp.{factor, weight, weights, dot, interpolate, delta}
use Rattle.sharing_laws.specs.Sharing.{deal, opened, first_off, mixture, matched}
use Rattle.sharing_laws.specs.Basis.{sum_all, basis, fitted, entry, row, matched_zero}
use Rattle.plan.specs.Plans.{party_count, parties, point_of, dealer_count, dealer_points, kind_of, is_kind, kind_count, multiplying, operands_of, is_input_of, wires_from, input_wires, out_wires_of, out_wires, input_owners_at, first_dealings, multiply_dealings, dealings_at, coin_owners_at, input_owners, coin_owners, own_of, own_inputs, own_coins, input_at, coins_at, triple_numbers, triple_at, own_triples, multiply_steps, steps_at, steps_from, steps, step_at, last_call, input_count, own_input_count, coin_count, own_coin_count, own_out_count, received, sent_by, mail_count, written_count, per_multiply, sent_count}
use Rattle.seat_messages.specs.Messages.{set_all, from_each, wires_by_party, opened_at, spent_share, learnt, resume_at, work_gate, work_from, learn_from, spend_from, learn, spend, deal_to, nothing, product_at, send_at, call_with, call}
use Rattle.run_protocol.specs.Rounds.{fresh, no_call, call_of, mail_to, next_call, next_round, after, at_end, results, mails, view_of, view, triples_from, sent_in, sent_before, sent_all, view_count_of, view_count}
use Rattle.run_protocol.specs.Ideal.{inputs_taken, gate_value, values_from, values, granted}
use Rattle.run_protocol.specs.Shares.{wire_at, product_of, zero_pieces, masked_at, multiply_dealt, dealt_at, sharings, pieces_at, truncated_at, multiply_share, difference_at, difference_of, gate_share, triples_taken, past, past_all, start_of, share_table}
use Rattle.run_orders.specs.Orders.{nobody_called, made_by, latest, mail_so_far, ready, called, called_in, all_ready, reached}
use Rattle.run_protocol.proofs.Worked.{plan_with, like_k, K, figures, coins_k}

abbrev order : List ℕ
order = 2 ∷ 1 ∷ 1 ∷ 3 ∷ 3 ∷ 2 ∷ 2 ∷ 2 ∷ 3 ∷ 1 ∷ 3 ∷ 1 ∷ []

pub record Sums : Type 0 where
  pub order-ready : all_ready K figures coins_k order (nobody_called K []) ≡ true
  pub too_early : all_ready K figures coins_k (2 ∷ 1 ∷ 1 ∷ 3 ∷ 3 ∷ 3 ∷ []) (nobody_called K []) ≡ false
  pub order_reaches : map (λ cs. get_or cs 4 no_call) (reached K figures coins_k [] order) ≡ at_end K figures coins_k []

pub sums : Sums
unfolding tab first_from first_failing count_where add mul sub invert inv eval sum_of scale product linear factor weight weights dot interpolate delta deal opened first_off mixture matched sum_all basis fitted entry row matched_zero party_count parties point_of dealer_count dealer_points kind_of is_kind kind_count multiplying operands_of is_input_of wires_from input_wires out_wires_of out_wires input_owners_at first_dealings multiply_dealings dealings_at coin_owners_at input_owners coin_owners own_of own_inputs own_coins input_at coins_at triple_numbers triple_at own_triples multiply_steps steps_at steps_from steps step_at last_call input_count own_input_count coin_count own_coin_count own_out_count received sent_by mail_count written_count per_multiply sent_count set_all from_each wires_by_party opened_at spent_share learnt resume_at work_gate work_from learn_from spend_from learn spend deal_to nothing product_at send_at call_with call fresh no_call call_of mail_to next_call next_round after at_end results mails view_of view triples_from sent_in sent_before sent_all total view_count_of view_count inputs_taken gate_value values_from values granted wire_at product_of zero_pieces masked_at multiply_dealt dealt_at sharings pieces_at truncated_at multiply_share difference_at difference_of gate_share triples_taken past past_all start_of share_table nobody_called made_by latest mail_so_far ready called called_in all_ready reached between plan_with like_k K flat_map
sums = record { order-ready = refl; too_early = refl; order_reaches = refl }
