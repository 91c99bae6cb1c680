-- The joint matching of plan K with a spent triple, and its preparing plan, by computation.
-- Assumes nothing.
use mathlib.Core.Path.{◌≡◌, refl}
use mathlib.Core.List.{List, [], ◌∷◌, ◌++◌, flat_map}
use Prim.Native.Nat.{ℕ}
use Rattle.numbers.specs.Tables.{tab, first_from, first_failing, count_where, total}
use Rattle.field.specs.Mod.{add, mul, sub}
use Rattle.field.specs.Prime.{invert, inv}
use Rattle.sharing_laws.specs.Poly.{eval, sum_of, scale, product, linear}
use Rattle.sharing_laws.specs.Interp.{factor, weight, weights, dot, interpolate, delta}
use Rattle.sharing_laws.specs.Sharing.{deal, opened, first_off, mixture, matched}
use Rattle.sharing_laws.specs.Basis.{sum_all, basis, fitted, entry, row, matched_zero}
use Rattle.plan.specs.Plans.{party_count, parties, point_of, dealer_count, dealer_points, kind_of, is_kind, kind_count, multiplying, operands_of, is_input_of, wires_from, input_wires, out_wires_of, out_wires, input_owners_at, first_dealings, multiply_dealings, dealings_at, coin_owners_at, input_owners, coin_owners, own_of, own_inputs, own_coins, input_at, coins_at, triple_numbers, triple_at, own_triples, multiply_steps, steps_at, steps_from, steps, step_at, last_call, input_count, own_input_count, coin_count, own_coin_count, own_out_count, received, sent_by, mail_count, written_count, per_multiply, sent_count}
use Rattle.seat_messages.specs.Messages.{set_all, from_each, wires_by_party, opened_at, spent_share, learnt, resume_at, work_gate, work_from, learn_from, spend_from, learn, spend, deal_to, nothing, product_at, send_at, call_with, call}
use Rattle.run_protocol.specs.Rounds.{fresh, no_call, call_of, mail_to, next_call, next_round, after, at_end, results, mails, view_of, view, triples_from, sent_in, sent_before, sent_all, view_count_of, view_count}
use Rattle.run_protocol.specs.Ideal.{inputs_taken, gate_value, values_from, values, granted}
use Rattle.run_protocol.specs.Shares.{wire_at, product_of, zero_pieces, masked_at, multiply_dealt, dealt_at, sharings, pieces_at, truncated_at, multiply_share, difference_at, difference_of, gate_share, triples_taken, past, past_all, start_of, share_table}
use Rattle.run_protocol.specs.Preparing.{triple_gates}
use Rattle.match_privacy.specs.Matching.{is_member, matched_blocks, lowest_of, lowest, change_of, zero_matched, absorbed_by, absorbed, with_coins, matched_at, match_from, matched_with, matched_coins}
use Rattle.match_joint.specs.JointLists.{draws_of, preparing_coins, main_coins}
use Rattle.match_joint.specs.Joint.{wire_change, spent_wires, spent_changes, moved_draws, matched_draws, matched_preparing, matched_joint, joint_view}
use Rattle.run_protocol.proofs.Worked.{plan_with, like_k, KSpend, prepared, figures, draws, prep_coins}

abbrev joint_list : List ℕ
joint_list = draws ++ (prep_coins ++ (2 ∷ 3 ∷ []))

abbrev joint_matched : List ℕ
joint_matched = 9 ∷ 2 ∷ 3 ∷ 0 ∷ 5 ∷ 6 ∷ 2 ∷ 2 ∷ 3 ∷ 9 ∷ 5 ∷ 6 ∷ 9 ∷ 0 ∷ 9 ∷ 3 ∷ 8 ∷ []

pub record Sums : Type 0 where
  pub joint-matched : matched_joint prepared KSpend (3 ∷ []) figures (1 ∷ 1 ∷ []) joint_list ≡ joint_matched
  pub joint_same_view : joint_view prepared KSpend (3 ∷ []) figures joint_list ≡ joint_view prepared KSpend (3 ∷ []) (1 ∷ 1 ∷ []) joint_matched

pub sums : Sums
unfolding tab first_from first_failing count_where add mul sub invert inv eval sum_of scale product linear factor weight weights dot interpolate delta deal opened first_off mixture matched sum_all basis fitted entry row matched_zero party_count parties point_of dealer_count dealer_points kind_of is_kind kind_count multiplying operands_of is_input_of wires_from input_wires out_wires_of out_wires input_owners_at first_dealings multiply_dealings dealings_at coin_owners_at input_owners coin_owners own_of own_inputs own_coins input_at coins_at triple_numbers triple_at own_triples multiply_steps steps_at steps_from steps step_at last_call input_count own_input_count coin_count own_coin_count own_out_count received sent_by mail_count written_count per_multiply sent_count set_all from_each wires_by_party opened_at spent_share learnt resume_at work_gate work_from learn_from spend_from learn spend deal_to nothing product_at send_at call_with call fresh no_call call_of mail_to next_call next_round after at_end results mails view_of view triples_from sent_in sent_before sent_all total view_count_of view_count inputs_taken gate_value values_from values granted wire_at product_of zero_pieces masked_at multiply_dealt dealt_at sharings pieces_at truncated_at multiply_share difference_at difference_of gate_share triples_taken past past_all start_of share_table triple_gates is_member matched_blocks lowest_of lowest change_of zero_matched absorbed_by absorbed with_coins matched_at match_from matched_with matched_coins wire_change spent_wires spent_changes moved_draws draws_of preparing_coins main_coins matched_draws matched_preparing matched_joint plan_with like_k KSpend prepared flat_map
sums = record { joint-matched = refl; joint_same_view = refl }
