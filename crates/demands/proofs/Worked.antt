-- The table of sums holds, by computation.
use mathlib.Core.Path.{refl}
use mathlib.Core.List.{flat_map}
use Rattle.numbers.specs.Tables.{tab, first_from, first_failing, count_where, total}
use Rattle.numbers.specs.Bytes.{number_at, bytes_from, word_at, numbers_of, numbers, bytes_of, holds_count, first_over, all_below}
use Rattle.field.specs.Mod.{add, mul, sub}
use Rattle.field.specs.Prime.{divisor_from, divisor_of, is_prime, invert, inv}
use Rattle.sharing_laws.specs.Poly.{eval, sum_of, scale, linear}
use Rattle.sharing_laws.specs.Interp.{factor, weight, weights, dot, interpolate, delta}
use Rattle.sharing_laws.specs.Sharing.{opened, first_off, mixture, matched}
use Rattle.sharing_laws.specs.Basis.{sum_all, basis, fitted, entry, row, matched_zero}
use Rattle.plan.specs.Refusals.{number_of, place_of, code_of, and_then, first_of, need, unless_found}
use Rattle.plan.specs.Plans.{party_count, parties, point_of, dealer_count, dealer_points, kind_of, is_kind, multiplying, kind_count, operands_of, is_input_of, wires_from, input_wires, out_wires_of, out_wires, input_owners_at, first_dealings, multiply_dealings, dealings_at, coin_owners_at, input_owners, coin_owners, own_of, own_inputs, own_coins, input_at, coins_at, triple_numbers, triple_at, own_triples, multiply_steps, steps_at, steps_from, steps, step_at, last_call, input_count, own_input_count, coin_count, own_coin_count, own_out_count, received, sent_by, mail_count, written_count}
use Rattle.plan.specs.File.{magic, same_bytes, between, layout_for, field_at, gate_start, gate_place, out_place, point_place, gate_of, gate_from, gate_at, out_at, point_at, gate_ok, out_ok, spends_kept, gate_kept, out_kept, majority_ok, majority_kept, found_none, point_apart, point_kept, points_placed, layout_ok, points_check, majority_check, plan_checks, plan_check, plan_of}
use Rattle.plan_coalition.specs.Coalitions.{in_set, members_from, members, set_ok}
use Rattle.seat_messages.specs.Messages.{set_all, from_each, wires_by_party, opened_at, spent_share, learnt, resume_at, work_gate, work_from, learn_from, spend_from, learn, spend, deal_to, nothing, product_at, send_at, call_with, call}
use Rattle.seat_messages.specs.Calls.{on_polynomial, outs_check, opening_check, party_checks, call_checks, call_answer}
use Rattle.run_protocol.specs.Rounds.{fresh, no_call, call_of, mail_to, next_call, next_round, after, at_end, results, mails, view_of, view, view_count_of, view_count}
use Rattle.run_protocol.specs.Ideal.{inputs_taken, gate_value, values_from, values, granted}
use Rattle.run_protocol.specs.Shares.{wire_at, product_of, zero_pieces, masked_at, multiply_dealt, dealt_at, sharings, pieces_at, truncated_at, multiply_share, difference_at, difference_of, gate_share, triples_taken, past, past_all, start_of, share_table}
use Rattle.run_protocol.specs.Tables.{before_gate}
use Rattle.run_bench.specs.BenchCalls.{shares_at_end, broken_check, given_checks, run_checks, bench_answer}
use Rattle.match_privacy.specs.Matching.{is_member, matched_blocks, lowest_of, lowest, change_of, zero_matched, absorbed_by, absorbed, with_coins, matched_at, match_from, matched_with, matched_coins}
use Rattle.demands.specs.Sums.{inputs1, coins1, contents, bodies, like_k, K, pointed, Codes, single, addition, shares_of, bench_of, last_call_of, Sums}
use Rattle.demands.proofs.Computed.{given_alone}

pub sums : Sums
unfolding contents bodies like_k K pointed Codes single addition shares_of bench_of last_call_of tab first_from first_failing count_where number_at bytes_from word_at numbers_of numbers bytes_of holds_count first_over all_below add mul sub divisor_from divisor_of is_prime invert inv eval sum_of scale linear factor weight weights dot interpolate delta opened first_off mixture matched sum_all basis fitted entry row matched_zero number_of place_of code_of and_then first_of need unless_found party_count parties point_of dealer_count dealer_points kind_of is_kind kind_count operands_of is_input_of wires_from input_wires out_wires_of out_wires input_owners_at first_dealings multiply_dealings dealings_at coin_owners_at input_owners coin_owners own_of own_inputs own_coins input_at coins_at triple_numbers triple_at own_triples multiply_steps steps_at steps_from steps step_at last_call input_count own_input_count coin_count own_coin_count own_out_count received sent_by mail_count written_count magic same_bytes between layout_for field_at gate_start gate_place out_place point_place gate_of gate_from gate_at out_at point_at gate_ok out_ok spends_kept gate_kept out_kept majority_ok majority_kept majority_check multiplying found_none point_apart point_kept points_placed points_check layout_ok plan_checks plan_check plan_of in_set members_from members set_ok set_all from_each wires_by_party opened_at spent_share learnt resume_at work_gate work_from learn_from spend_from learn spend deal_to nothing product_at send_at call_with call on_polynomial outs_check opening_check party_checks call_checks call_answer fresh no_call call_of mail_to next_call next_round after at_end results mails view_of view total view_count_of view_count inputs_taken gate_value values_from values granted wire_at product_of zero_pieces masked_at multiply_dealt dealt_at sharings pieces_at truncated_at multiply_share difference_at difference_of gate_share triples_taken past past_all start_of share_table before_gate shares_at_end broken_check given_checks run_checks bench_answer is_member matched_blocks lowest_of lowest change_of zero_matched absorbed_by absorbed with_coins matched_at match_from matched_with matched_coins flat_map
sums = record {
  p1 = refl;
  p2-weights = refl;
  p2_products = refl;
  p2_value = refl;
  p3_shares = refl;
  p3_result = refl;
  p4 = refl;
  p5_coins = refl;
  p5_first_view = refl;
  p5-view = refl;
  p6_first = refl;
  p6_passes = refl;
  p7_not_above = refl;
  p7_nine = refl;
  p7_largest = refl;
  p7_even_larger = refl;
  p8_passes = refl;
  p8_refused = refl;
  p9_passes = refl;
  p9_result = refl;
  p10 = refl;
  r3_threshold = refl;
  r3_majority = refl;
  r3_passes = refl;
  r3_shares = refl;
  r3_result = refl;
  r3-delta = refl;
  r3_coins = refl;
  r3_other_coins = refl;
  r3-view = refl;
  r4_passes = refl;
  r4-weights = refl;
  r4_shares = refl;
  r4_result = refl;
  r4-view = refl;
  r4-delta = refl;
  r4_coins = refl;
  r4-matched = refl;
  r4-zero = refl;
  r4_prime = refl;
  r4_twice = refl;
  r9_right = refl;
  r9_seat = refl;
  r9_first = refl;
  bytes_met = refl;
  given_met = given_alone (like_k 3 1 11 0) inputs1 coins1 refl refl (record { count = refl; small = refl }) (record { count = refl; small = refl });
  alike_met = record {
    passes = refl;
    set_passes = refl;
    first = record { count = refl; small = refl };
    second = record { count = refl; small = refl };
    agree = refl;
    grants = refl;
  };
}
