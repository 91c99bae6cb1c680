-- The table of the line charge holds, by computation.
use mathlib.Core.Path.{refl}
use mathlib.Core.List.{flat_map}
use Rattle.numbers.specs.Tables.{tab, first_from, first_failing, count_where, total}
use Rattle.numbers.specs.Bytes.{number_at, bytes_from, word_at, bytes_of}
use Rattle.field.specs.Prime.{divisor_from, divisor_of, is_prime}
use Rattle.plan.specs.Refusals.{number_of, place_of, code_of, and_then, first_of, need, unless_found}
use Rattle.plan.specs.Plans.{party_count, parties, dealer_count, kind_of, is_kind, multiplying, kind_count, operands_of, is_input_of, wires_from, input_wires, out_wires_of, out_wires, multiply_steps, steps_at, steps_from, steps, step_at, last_call, own_out_count, sent_by, written_count, per_multiply, sent_count}
use Rattle.plan.specs.File.{magic, same_bytes, between, layout_for, field_at, gate_start, gate_place, out_place, point_place, gate_of, gate_from, gate_at, out_at, point_at, gate_ok, out_ok, spends_kept, gate_kept, out_kept, majority_ok, majority_kept, found_none, point_apart, point_kept, points_placed, layout_ok, points_check, majority_check, plan_checks, plan_check, plan_of}
use Rattle.seat_messages.specs.Calls.{unless_refused}
use Rattle.charge_laws.specs.Charges.{elements_by, elements, bill_for, floor_at, remainder_at, left_over, greater_at, greatest_from, greatest, give_to, give, shares_first, parts_of, bill_of, charge_of}
use Rattle.charge_call.specs.ChargeCalls.{price_checks, charge_answer, charge_after}
use Rattle.demands.specs.Sums.{contents, bodies, like_k}
use Rattle.demands.specs.Charges.{ChargeSums}

pub charge_sums : ChargeSums
unfolding contents bodies like_k tab first_from first_failing count_where bytes_from number_at word_at bytes_of divisor_from divisor_of is_prime number_of place_of code_of and_then first_of need unless_found party_count parties dealer_count kind_of is_kind kind_count operands_of is_input_of wires_from input_wires out_wires_of out_wires multiply_steps steps_at steps_from steps step_at last_call own_out_count sent_by written_count per_multiply sent_count magic same_bytes between layout_for field_at gate_start gate_place out_place point_place gate_of gate_from gate_at out_at point_at gate_ok out_ok spends_kept gate_kept out_kept majority_ok majority_kept majority_check multiplying found_none point_apart point_kept points_placed points_check layout_ok plan_checks plan_check plan_of unless_refused total elements_by elements bill_for floor_at remainder_at left_over greater_at greatest_from greatest give_to give shares_first parts_of bill_of charge_of price_checks charge_answer charge_after flat_map
charge_sums = record {
  sends = refl;
  highest = refl;
  highest_bill = refl;
  at_277 = refl;
  bill_277 = refl;
  at_278 = refl;
  bill_278 = refl;
  free = refl;
  one = refl;
  five_send = refl;
  five = refl;
  bytes = refl;
  passes = refl;
  free_passes = refl;
  dear = refl;
  dear_first = refl;
  short = refl;
  plan_first = refl;
}
