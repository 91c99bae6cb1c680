-- The table of the worked preparing run and its main run holds, by computation.
use mathlib.Core.Path.{refl}
use mathlib.Core.List.{[], ◌∷◌, flat_map}
use Rattle.numbers.specs.Tables.{tab, first_from, first_failing, count_where, total}
use Rattle.numbers.specs.Bytes.{number_at, bytes_from, word_at, numbers_of, numbers, bytes_of, holds_count, first_over, all_below}
use Rattle.field.specs.Mod.{add, mul, sub}
use Rattle.field.specs.Prime.{divisor_from, divisor_of, is_prime, invert, inv}
use Rattle.sharing_laws.specs.Poly.{eval, sum_of, scale, linear}
use Rattle.sharing_laws.specs.Interp.{factor, weight, weights, dot, interpolate, delta}
use Rattle.sharing_laws.specs.Sharing.{opened, first_off, mixture, matched}
use Rattle.sharing_laws.specs.Basis.{sum_all, basis, fitted, entry, row, matched_zero}
use Rattle.plan.specs.Refusals.{number_of, place_of, code_of, and_then, first_of, need, unless_found}
use Rattle.plan.specs.Plans.{party_count, parties, point_of, dealer_count, dealer_points, kind_of, is_kind, multiplying, kind_count, operands_of, is_input_of, wires_from, input_wires, out_wires_of, out_wires, input_owners_at, first_dealings, multiply_dealings, dealings_at, coin_owners_at, input_owners, coin_owners, own_of, own_inputs, own_coins, input_at, coins_at, triple_numbers, triple_at, own_triples, multiply_steps, steps_at, steps_from, steps, step_at, last_call, input_count, own_input_count, coin_count, own_coin_count, own_out_count, received, sent_by, mail_count, written_count, per_multiply, sent_count}
use Rattle.plan.specs.File.{magic, same_bytes, between, layout_for, field_at, gate_start, gate_place, out_place, point_place, gate_of, gate_from, gate_at, out_at, point_at, gate_ok, out_ok, spends_kept, gate_kept, out_kept, majority_ok, majority_kept, found_none, point_apart, point_kept, points_placed, layout_ok, points_check, majority_check, plan_checks, plan_check, plan_of}
use Rattle.plan_coalition.specs.Coalitions.{in_set, members_from, members, set_ok}
use Rattle.seat_messages.specs.Messages.{set_all, from_each, wires_by_party, opened_at, spent_share, learnt, resume_at, work_gate, work_from, learn_from, spend_from, learn, spend, deal_to, nothing, product_at, send_at, call_with, call}
use Rattle.seat_messages.specs.Calls.{on_polynomial, outs_check, opening_check, party_checks, call_checks, call_answer, unless_refused}
use Rattle.run_protocol.specs.Rounds.{fresh, no_call, call_of, mail_to, next_call, next_round, after, at_end, results, mails, view_of, view, triples_from, view_count_of, view_count}
use Rattle.run_protocol.specs.Preparing.{triple_gates, gate_numbers, prepares}
use Rattle.run_protocol.specs.Ideal.{inputs_taken, gate_value, values_from, values, granted}
use Rattle.run_protocol.specs.Shares.{wire_at, product_of, zero_pieces, masked_at, multiply_dealt, dealt_at, sharings, pieces_at, truncated_at, multiply_share, difference_at, difference_of, gate_share, triples_taken, past, past_all, start_of, share_table}
use Rattle.run_protocol.specs.Tables.{before_gate}
use Rattle.run_bench.specs.BenchCalls.{shares_at_end, broken_check, given_checks, run_checks, bench_answer, spent_after}
use Rattle.match_privacy.specs.Matching.{is_member, matched_blocks, lowest_of, lowest, change_of, zero_matched, absorbed_by, absorbed, with_coins, matched_at, match_from, matched_with, matched_coins}
use Rattle.match_joint.specs.JointLists.{draws_of, preparing_coins, main_coins}
use Rattle.match_joint.specs.Joint.{wire_change, spent_wires, spent_changes, moved_draws, matched_draws, matched_preparing, matched_joint}
use Rattle.match_agreement.specs.MatchCalls.{inputs_agree, outs_agree, pair_checks, match_answer}
use Rattle.match_prepared.specs.PreparedCalls.{in_turn, preparing_count, joint_count, joint_below, joint_over, prepared_ok, joint_checks, prepared_checks, prepared_answer}
use Rattle.demands.specs.Sums.{contents, bodies, like_k}
use Rattle.demands.specs.Triples.{spending, preparing_file, main_file, Main, Prep, preparing_view, main_view, bench_with, prepared_with, TripleSums}

pub triple_sums : TripleSums
unfolding contents bodies like_k spending preparing_file main_file Main Prep preparing_view main_view bench_with prepared_with tab first_from first_failing count_where number_at bytes_from word_at numbers_of numbers bytes_of holds_count first_over all_below add mul sub divisor_from divisor_of is_prime invert inv eval sum_of scale linear factor weight weights dot interpolate delta opened first_off mixture matched sum_all basis fitted entry row matched_zero number_of place_of code_of and_then first_of need unless_found party_count parties point_of dealer_count dealer_points kind_of is_kind kind_count operands_of is_input_of wires_from input_wires out_wires_of out_wires input_owners_at first_dealings multiply_dealings dealings_at coin_owners_at input_owners coin_owners own_of own_inputs own_coins input_at coins_at triple_numbers triple_at own_triples multiply_steps steps_at steps_from steps step_at last_call input_count own_input_count coin_count own_coin_count own_out_count received sent_by mail_count written_count per_multiply sent_count magic same_bytes between layout_for field_at gate_start gate_place out_place point_place gate_of gate_from gate_at out_at point_at gate_ok out_ok spends_kept gate_kept out_kept majority_ok majority_kept majority_check multiplying found_none point_apart point_kept points_placed points_check layout_ok plan_checks plan_check plan_of in_set members_from members set_ok set_all from_each wires_by_party opened_at spent_share learnt resume_at work_gate work_from learn_from spend_from learn spend deal_to nothing product_at send_at call_with call on_polynomial outs_check opening_check party_checks call_checks call_answer fresh no_call call_of mail_to next_call next_round after at_end results mails view_of view total view_count_of view_count inputs_taken gate_value values_from values granted wire_at product_of zero_pieces masked_at multiply_dealt dealt_at sharings pieces_at truncated_at multiply_share difference_at difference_of gate_share triples_taken past past_all start_of share_table before_gate shares_at_end broken_check given_checks run_checks bench_answer is_member matched_blocks lowest_of lowest change_of zero_matched absorbed_by absorbed with_coins matched_at match_from matched_with matched_coins flat_map unless_refused spent_after triples_from gate_numbers triple_gates prepares wire_change spent_wires spent_changes moved_draws draws_of preparing_coins main_coins matched_draws matched_preparing matched_joint inputs_agree outs_agree pair_checks match_answer in_turn preparing_count joint_count joint_below joint_over prepared_ok joint_checks prepared_checks prepared_answer
triple_sums = record {
  main_passes = refl;
  prep_passes = refl;
  prepares = refl;
  triples = refl;
  openings = refl;
  shares = refl;
  result = refl;
  calls = refl;
  sent = refl;
  unspent = refl;
  spent = refl;
  bench_spends = refl;
  matched = refl;
  same_preparing = refl;
  same_main = refl;
  answers = refl;
  breaks = refl;
  no_triples = refl;
  triple_over = refl;
  majority = refl;
  alone = refl;
  together = refl;
  other_prime = refl;
  none_spent = refl;
  preparing_first = refl;
  main_earlier = refl;
  bytes_met = (refl, refl);
  given_met = record {
    passes = refl;
    inputs = record { count = refl; small = refl };
    settings = record { count = refl; small = refl };
    triples = record {
      prep = Prep;
      draws = 1 ∷ 2 ∷ 3 ∷ 4 ∷ 5 ∷ 6 ∷ [];
      coins = 1 ∷ 2 ∷ 3 ∷ 4 ∷ 5 ∷ 6 ∷ 7 ∷ 8 ∷ 9 ∷ [];
      prepared = refl;
      draws_full = record { count = refl; small = refl };
      coins_full = record { count = refl; small = refl };
      are = refl;
    };
  };
  alike_met = record {
    passes = refl;
    set_passes = refl;
    first = record { count = refl; small = refl };
    second = record { count = refl; small = refl };
    agree = refl;
    grants = refl;
  };
}
