-- The program's text for plan K, P1's numbers and set 4, by computation; and for the same bytes with version 3, of which two are left over
-- after three numbers of four bytes. Plan K with a triple, whole and a number short.
use mathlib.Core.Path.{◌≡◌, refl}
use mathlib.Core.List.{List, [], ◌∷◌, flat_map}
use Prim.Native.Nat.{ℕ}
use lib.ListN.{take}
use Rattle.numbers.specs.Tables.{tab, first_from, first_failing, count_where, total}
use Rattle.numbers.specs.Bytes.{number_at, bytes_from, word_at, numbers_of, numbers, bytes_of, holds_count, first_over, all_below}
use Rattle.field.specs.Mod.{add, mul, sub}
use Rattle.field.specs.Prime.{is_prime, divisor_from, divisor_of, inv, invert}
use Rattle.sharing_laws.specs.Poly.{eval}
use Rattle.sharing_laws.specs.Interp.{factor, weight, weights, dot, interpolate}
use Rattle.sharing_laws.specs.Sharing.{opened, first_off}
use Rattle.plan.specs.Refusals.{number_of, place_of, and_then, first_of, need, unless_found}
use Rattle.plan.specs.Plans.{party_count, parties, dealer_count, dealer_points, kind_of, is_kind, multiplying, kind_count, operands_of, is_input_of, wires_from, input_wires, out_wires_of, out_wires, input_owners_at, first_dealings, multiply_dealings, dealings_at, coin_owners_at, input_owners, coin_owners, own_of, own_inputs, own_coins, input_at, coins_at, triple_numbers, triple_at, own_triples, multiply_steps, steps_at, steps_from, steps, step_at, last_call, input_count, own_input_count, coin_count, own_coin_count, own_out_count, received, per_multiply, sent_count}
use Rattle.plan.specs.File.{magic, same_bytes, between, layout_for, field_at, gate_start, gate_place, out_place, point_place, gate_of, gate_from, gate_at, out_at, point_at, gate_ok, out_ok, spends_kept, gate_kept, out_kept, majority_ok, majority_kept, found_none, point_apart, point_kept, points_placed, layout_ok, points_check, majority_check, plan_checks, plan_check, plan_of}
use Rattle.plan_coalition.specs.Coalitions.{in_set, members_from, members, set_ok}
use Rattle.seat_messages.specs.Calls.{on_polynomial}
use Rattle.seat_messages.specs.Messages.{spent_share, set_all, from_each, wires_by_party, opened_at, learnt, resume_at, work_gate, work_from, learn_from, spend_from, learn, spend, deal_to, nothing, product_at, send_at, call_with, call}
use Rattle.run_protocol.specs.Rounds.{fresh, no_call, call_of, mail_to, next_call, next_round, after, at_end, results, view_count_of, view_count}
use Rattle.run_bench.specs.BenchCalls.{shares_at_end, broken_check, given_checks, run_checks, bench_answer}
use Rattle.bench_text.specs.Decimals.{digits, decimal, field, line}
use Rattle.bench_lines.specs.Report.{plan_word, view_word, round_word, out_word, sent_word, refused_word, plan_line, view_line, round_line, member_lines, out_lines_from, run_lines, answer_lines, plan_part, set_part, list_part, input_width, lent, figures_part, rest_part, coin_bytes, coins_part, triples_part, unreadable, bench_of, report}

input_k : ℕ → List ℕ
input_k version = 45 ∷ 0 ∷ 80 ∷ 79 ∷ 79 ∷ 76 ∷ version ∷ 3 ∷ 1 ∷ 0 ∷ 11 ∷ 0 ∷ 18 ∷ 0 ∷ 4 ∷ 0 ∷ 42 ∷ 0 ∷ 1 ∷ 0 ∷ 1 ∷ 0 ∷ 1 ∷ 0 ∷ 0 ∷ 0 ∷ 1 ∷ 0 ∷ 2 ∷ 0 ∷ 0 ∷ 0 ∷ 5 ∷ 0 ∷ 0 ∷ 0 ∷ 1 ∷ 0 ∷ 2 ∷ 0 ∷ 2 ∷ 0 ∷ 0 ∷ 0 ∷ 3 ∷ 3 ∷ 0 ∷ 4 ∷ 0 ∷ 4 ∷ 0 ∷ 5 ∷ 0 ∷ 2 ∷ 0 ∷ 3 ∷ 0 ∷ 1 ∷ 0 ∷ 5 ∷ 0 ∷ 7 ∷ 0 ∷ []

text_k : List ℕ
text_k = 112 ∷ 108 ∷ 97 ∷ 110 ∷ 32 ∷ 51 ∷ 32 ∷ 49 ∷ 32 ∷ 49 ∷ 49 ∷ 32 ∷ 52 ∷ 32 ∷ 49 ∷ 10 ∷ 118 ∷ 105 ∷ 101 ∷ 119 ∷ 32 ∷ 51 ∷ 32 ∷ 55 ∷ 10 ∷ 114 ∷ 111 ∷ 117 ∷ 110 ∷ 100 ∷ 32 ∷ 48 ∷ 32 ∷ 49 ∷ 48 ∷ 32 ∷ 51 ∷ 10 ∷ 114 ∷ 111 ∷ 117 ∷ 110 ∷ 100 ∷ 32 ∷ 49 ∷ 32 ∷ 55 ∷ 32 ∷ 52 ∷ 32 ∷ 55 ∷ 10 ∷ 114 ∷ 111 ∷ 117 ∷ 110 ∷ 100 ∷ 32 ∷ 50 ∷ 32 ∷ 49 ∷ 48 ∷ 32 ∷ 55 ∷ 32 ∷ 52 ∷ 10 ∷ 111 ∷ 117 ∷ 116 ∷ 32 ∷ 48 ∷ 32 ∷ 51 ∷ 32 ∷ 50 ∷ 10 ∷ 115 ∷ 101 ∷ 110 ∷ 116 ∷ 32 ∷ 49 ∷ 56 ∷ 10 ∷ []

report-K : report (input_k 1) ≡ text_k
unfolding input_k text_k tab first_from first_failing count_where number_at bytes_from word_at numbers_of numbers bytes_of holds_count first_over all_below add mul sub is_prime divisor_from divisor_of inv invert eval factor weight weights dot interpolate opened number_of place_of and_then first_of need unless_found party_count parties dealer_count dealer_points kind_of is_kind kind_count operands_of is_input_of wires_from input_wires out_wires_of out_wires input_owners_at first_dealings multiply_dealings dealings_at coin_owners_at input_owners coin_owners own_of own_inputs own_coins input_at coins_at triple_numbers own_triples multiply_steps steps_at steps_from steps step_at last_call input_count own_input_count coin_count own_coin_count own_out_count received per_multiply sent_count magic same_bytes between layout_for field_at gate_start gate_place out_place point_place gate_of gate_from gate_at out_at point_at gate_ok out_ok spends_kept gate_kept out_kept majority_ok majority_kept majority_check multiplying found_none point_apart point_kept points_placed points_check layout_ok plan_checks plan_check plan_of in_set members_from members set_ok set_all from_each wires_by_party opened_at learnt resume_at work_gate work_from learn_from spend_from learn spend deal_to nothing product_at send_at call_with call fresh no_call call_of mail_to next_call next_round after at_end results total view_count_of view_count shares_at_end broken_check given_checks run_checks bench_answer on_polynomial first_off digits decimal field line plan_word view_word round_word out_word sent_word refused_word plan_line view_line round_line member_lines out_lines_from run_lines answer_lines plan_part set_part list_part input_width lent figures_part rest_part coin_bytes coins_part triples_part unreadable bench_of report flat_map
report-K = refl

refused_text : List ℕ
refused_text = 114 ∷ 101 ∷ 102 ∷ 117 ∷ 115 ∷ 101 ∷ 100 ∷ 32 ∷ 49 ∷ 32 ∷ 48 ∷ 10 ∷ []

report_left_over : report (input_k 3) ≡ refused_text
unfolding input_k refused_text word_at digits decimal field line refused_word plan_part list_part input_width unreadable report flat_map between
report_left_over = refl

-- plan K with kind 7 for its multiply: figures 4 5, coins 2 3, and the triples of a preparing run; and the same with a number less
input_spent : List ℕ
input_spent = 45 ∷ 0 ∷ 80 ∷ 79 ∷ 79 ∷ 76 ∷ 1 ∷ 3 ∷ 1 ∷ 0 ∷ 11 ∷ 0 ∷ 18 ∷ 0 ∷ 4 ∷ 0 ∷ 42 ∷ 0 ∷ 1 ∷ 0 ∷ 1 ∷ 0 ∷ 1 ∷ 0 ∷ 0 ∷ 0 ∷ 1 ∷ 0 ∷ 2 ∷ 0 ∷ 0 ∷ 0 ∷ 7 ∷ 0 ∷ 0 ∷ 0 ∷ 1 ∷ 0 ∷ 2 ∷ 0 ∷ 2 ∷ 0 ∷ 0 ∷ 0 ∷ 3 ∷ 3 ∷ 0 ∷ 4 ∷ 0 ∷ 4 ∷ 0 ∷ 5 ∷ 0 ∷ 2 ∷ 0 ∷ 3 ∷ 0 ∷ 1 ∷ 0 ∷ 8 ∷ 0 ∷ 8 ∷ 0 ∷ 7 ∷ 0 ∷ 1 ∷ 0 ∷ 3 ∷ 0 ∷ 2 ∷ 0 ∷ 5 ∷ 0 ∷ 9 ∷ 0 ∷ []

text_spent : List ℕ
text_spent = 112 ∷ 108 ∷ 97 ∷ 110 ∷ 32 ∷ 51 ∷ 32 ∷ 49 ∷ 32 ∷ 49 ∷ 49 ∷ 32 ∷ 52 ∷ 32 ∷ 49 ∷ 10 ∷ 118 ∷ 105 ∷ 101 ∷ 119 ∷ 32 ∷ 51 ∷ 10 ∷ 114 ∷ 111 ∷ 117 ∷ 110 ∷ 100 ∷ 32 ∷ 48 ∷ 32 ∷ 49 ∷ 48 ∷ 32 ∷ 51 ∷ 10 ∷ 114 ∷ 111 ∷ 117 ∷ 110 ∷ 100 ∷ 32 ∷ 49 ∷ 32 ∷ 53 ∷ 32 ∷ 48 ∷ 32 ∷ 49 ∷ 32 ∷ 49 ∷ 48 ∷ 32 ∷ 56 ∷ 32 ∷ 57 ∷ 10 ∷ 114 ∷ 111 ∷ 117 ∷ 110 ∷ 100 ∷ 32 ∷ 50 ∷ 32 ∷ 54 ∷ 32 ∷ 49 ∷ 48 ∷ 32 ∷ 51 ∷ 10 ∷ 111 ∷ 117 ∷ 116 ∷ 32 ∷ 48 ∷ 32 ∷ 51 ∷ 32 ∷ 50 ∷ 10 ∷ 115 ∷ 101 ∷ 110 ∷ 116 ∷ 32 ∷ 50 ∷ 55 ∷ 10 ∷ []

report_spent : report input_spent ≡ text_spent
unfolding input_spent text_spent tab first_from first_failing count_where number_at bytes_from word_at numbers_of numbers bytes_of holds_count first_over all_below add mul sub is_prime divisor_from divisor_of inv invert eval factor weight weights dot interpolate opened number_of place_of and_then first_of need unless_found party_count parties dealer_count dealer_points kind_of is_kind kind_count operands_of is_input_of wires_from input_wires out_wires_of out_wires input_owners_at first_dealings multiply_dealings dealings_at coin_owners_at input_owners coin_owners own_of own_inputs own_coins input_at coins_at triple_numbers own_triples multiply_steps steps_at steps_from steps step_at last_call input_count own_input_count coin_count own_coin_count own_out_count received per_multiply sent_count magic same_bytes between layout_for field_at gate_start gate_place out_place point_place gate_of gate_from gate_at out_at point_at gate_ok out_ok spends_kept gate_kept out_kept majority_ok majority_kept majority_check multiplying found_none point_apart point_kept points_placed points_check layout_ok plan_checks plan_check plan_of in_set members_from members set_ok set_all from_each wires_by_party opened_at learnt resume_at work_gate work_from learn_from spend_from learn spend deal_to nothing product_at send_at call_with call fresh no_call call_of mail_to next_call next_round after at_end results total view_count_of view_count shares_at_end broken_check given_checks run_checks bench_answer on_polynomial first_off digits decimal field line plan_word view_word round_word out_word sent_word refused_word plan_line view_line round_line member_lines out_lines_from run_lines answer_lines plan_part set_part list_part input_width lent figures_part rest_part coin_bytes coins_part triples_part unreadable bench_of report flat_map triple_at spent_share
report_spent = refl

text_short : List ℕ
text_short = 114 ∷ 101 ∷ 102 ∷ 117 ∷ 115 ∷ 101 ∷ 100 ∷ 32 ∷ 50 ∷ 57 ∷ 32 ∷ 48 ∷ 10 ∷ []

report_short : report (take 73 input_spent) ≡ text_short
unfolding input_spent text_short tab first_from first_failing count_where number_at bytes_from word_at numbers_of numbers bytes_of holds_count first_over all_below add mul sub is_prime divisor_from divisor_of inv invert eval factor weight weights dot interpolate opened number_of place_of and_then first_of need unless_found party_count parties dealer_count dealer_points kind_of is_kind kind_count operands_of is_input_of wires_from input_wires out_wires_of out_wires input_owners_at first_dealings multiply_dealings dealings_at coin_owners_at input_owners coin_owners own_of own_inputs own_coins input_at coins_at triple_numbers own_triples multiply_steps steps_at steps_from steps step_at last_call input_count own_input_count coin_count own_coin_count own_out_count received per_multiply sent_count magic same_bytes between layout_for field_at gate_start gate_place out_place point_place gate_of gate_from gate_at out_at point_at gate_ok out_ok spends_kept gate_kept out_kept majority_ok majority_kept majority_check multiplying found_none point_apart point_kept points_placed points_check layout_ok plan_checks plan_check plan_of in_set members_from members set_ok set_all from_each wires_by_party opened_at learnt resume_at work_gate work_from learn_from spend_from learn spend deal_to nothing product_at send_at call_with call fresh no_call call_of mail_to next_call next_round after at_end results total view_count_of view_count shares_at_end broken_check given_checks run_checks bench_answer on_polynomial first_off digits decimal field line plan_word view_word round_word out_word sent_word refused_word plan_line view_line round_line member_lines out_lines_from run_lines answer_lines plan_part set_part list_part input_width lent figures_part rest_part coin_bytes coins_part triples_part unreadable bench_of report flat_map triple_at spent_share
report_short = refl
