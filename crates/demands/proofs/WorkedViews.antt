-- The table of counted views holds, by computation.
use mathlib.Core.Path.{refl}
use mathlib.Core.List.{flat_map}
use Rattle.numbers.specs.Tables.{tab, first_from, first_failing, count_where, total}
use Rattle.numbers.specs.Bytes.{number_at, bytes_from, word_at, numbers_of, numbers, bytes_of, holds_count, first_over}
use Rattle.field.specs.Mod.{add, mul, sub}
use Rattle.field.specs.Prime.{divisor_from, divisor_of, is_prime, invert, inv}
use Rattle.sharing_laws.specs.Poly.{eval}
use Rattle.sharing_laws.specs.Interp.{factor, weight, weights, dot, interpolate}
use Rattle.sharing_laws.specs.Sharing.{opened}
use Rattle.plan.specs.Refusals.{number_of, place_of, code_of, and_then, first_of, need, unless_found}
use Rattle.plan.specs.Plans.{party_count, parties, point_of, dealer_count, dealer_points, kind_of, is_kind, multiplying, kind_count, operands_of, is_input_of, wires_from, input_wires, out_wires_of, out_wires, input_owners_at, first_dealings, multiply_dealings, dealings_at, coin_owners_at, input_owners, coin_owners, own_of, own_inputs, own_coins, input_at, coins_at, triple_numbers, own_triples, multiply_steps, steps_at, steps_from, steps, step_at, last_call, input_count, own_input_count, coin_count, own_coin_count, own_out_count, received}
use Rattle.plan.specs.File.{magic, same_bytes, between, layout_for, field_at, gate_start, gate_place, out_place, point_place, gate_of, gate_from, gate_at, out_at, point_at, gate_ok, out_ok, spends_kept, gate_kept, out_kept, majority_ok, majority_kept, found_none, point_apart, point_kept, points_placed, layout_ok, points_check, majority_check, plan_checks, plan_check, plan_of}
use Rattle.seat_messages.specs.Messages.{set_all, from_each, wires_by_party, opened_at, learnt, resume_at, work_gate, work_from, learn_from, spend_from, learn, spend, deal_to, nothing, product_at, send_at, call_with, call}
use Rattle.seat_messages.specs.Calls.{unless_refused}
use Rattle.run_protocol.specs.Rounds.{fresh, no_call, call_of, mail_to, next_call, next_round, after, at_end, results, mails, view_of, view, view_count_of, view_count}
use Rattle.seat_admission.specs.Parts.{list_checks}
use Rattle.plan_coalition.specs.Coalitions.{in_set, members_from, members, set_ok}
use Rattle.count_rows.specs.Tables.{is_before}
use Rattle.count_laws.specs.Settings.{member_coins, other_coins, setting_count, coins_from, setting_coins, views_of}
use Rattle.count_laws.specs.Rows.{counted, rows_of, row_numbers, listed}
use Rattle.count_laws.specs.CountCalls.{row_width, view_list, count_size, settings_ok, member_checks, counting_checks, count_checks, count_answer, count_after, count_size_answer}
use Rattle.demands.specs.Sums.{contents, bodies, like_k, single}
use Rattle.demands.specs.Views.{tiny, count_for, ViewSums}

pub view_sums : ViewSums
unfolding contents bodies like_k single tiny count_for tab first_from first_failing count_where number_at bytes_from word_at numbers_of numbers bytes_of holds_count first_over add mul sub divisor_from divisor_of is_prime invert inv eval factor weight weights dot interpolate opened number_of place_of code_of and_then first_of need unless_found party_count parties point_of dealer_count dealer_points kind_of is_kind kind_count operands_of is_input_of wires_from input_wires out_wires_of out_wires input_owners_at first_dealings multiply_dealings dealings_at coin_owners_at input_owners coin_owners own_of own_inputs own_coins input_at coins_at triple_numbers own_triples multiply_steps steps_at steps_from steps step_at last_call input_count own_input_count coin_count own_coin_count own_out_count received magic same_bytes between layout_for field_at gate_start gate_place out_place point_place gate_of gate_from gate_at out_at point_at gate_ok out_ok spends_kept gate_kept out_kept majority_ok majority_kept majority_check multiplying found_none point_apart point_kept points_placed points_check layout_ok plan_checks plan_check plan_of set_all from_each wires_by_party opened_at learnt resume_at work_gate work_from learn_from spend_from learn spend deal_to nothing product_at send_at call_with call fresh no_call call_of mail_to next_call next_round after at_end results mails view_of view total view_count_of view_count flat_map list_checks unless_refused in_set members_from members set_ok is_before member_coins other_coins setting_count coins_from setting_coins views_of counted rows_of row_numbers listed row_width view_list count_size settings_ok member_checks counting_checks count_checks count_answer count_after count_size_answer
view_sums = record {
  after = refl;
  counts = refl;
  nobody = refl;
  alone = refl;
  both = refl;
  figures = refl;
  figure = refl;
  coins_of_all = refl;
  coin = refl;
  room = refl;
  most = refl;
  most_bytes = refl;
  too_many = refl;
  too_many_first = refl;
}
