-- The table of the run record holds, by computation.
use mathlib.Core.Path.{refl}
use mathlib.Core.List.{flat_map}
use Rattle.numbers.specs.Tables.{tab, first_from, first_failing, count_where, total}
use Rattle.numbers.specs.Bytes.{number_at, bytes_from, word_at, numbers_of, numbers, bytes_of, holds_count, first_over}
use Rattle.field.specs.Mod.{add, mul, sub}
use Rattle.field.specs.Prime.{divisor_from, divisor_of, is_prime, invert, inv}
use Rattle.sharing_laws.specs.Poly.{eval}
use Rattle.sharing_laws.specs.Interp.{factor, weight, weights, dot, interpolate}
use Rattle.sharing_laws.specs.Sharing.{opened, first_off}
use Rattle.plan.specs.Refusals.{number_of, place_of, code_of, and_then, first_of, need, unless_found}
use Rattle.plan.specs.Plans.{party_count, parties, point_of, dealer_count, dealer_points, kind_of, is_kind, multiplying, kind_count, operands_of, is_input_of, wires_from, input_wires, out_wires_of, out_wires, input_owners_at, first_dealings, multiply_dealings, dealings_at, coin_owners_at, input_owners, coin_owners, own_of, own_inputs, own_coins, input_at, coins_at, triple_numbers, own_triples, multiply_steps, steps_at, steps_from, steps, step_at, last_call, input_count, own_input_count, coin_count, own_coin_count, own_out_count, received}
use Rattle.plan.specs.File.{magic, same_bytes, between, layout_for, field_at, gate_start, gate_place, out_place, point_place, gate_of, gate_from, gate_at, out_at, point_at, gate_ok, out_ok, spends_kept, gate_kept, out_kept, majority_ok, majority_kept, found_none, point_apart, point_kept, points_placed, layout_ok, points_check, majority_check, plan_checks, plan_check, plan_of}
use Rattle.seat_messages.specs.Messages.{set_all, from_each, wires_by_party, opened_at, learnt, resume_at, work_gate, work_from, learn_from, spend_from, learn, spend, deal_to, nothing, product_at, send_at, call_with, call}
use Rattle.seat_messages.specs.Calls.{on_polynomial, unless_refused}
use Rattle.run_protocol.specs.Rounds.{fresh, no_call, call_of, mail_to, next_call, next_round, after, at_end, results, mails, view_of, view, view_count_of, view_count}
use Rattle.run_bench.specs.BenchCalls.{shares_at_end, broken_check, given_checks}
use Rattle.record_laws.specs.Records.{body_size, bodies_before, body_start, record_size, content_of, contents_of, record_of, record_checks, record_answer, record_after, content_kept, record_ok, bench_read_checks, bench_read_answer, body_of, plant_read_checks, plant_read_answer, plant_read_after}
use Rattle.demands.specs.Sums.{contents, bodies, like_k}
use Rattle.demands.specs.Records.{stored_k, changed, write_for, read_all, read_one, RecordSums}

pub record_sums : RecordSums
unfolding contents bodies like_k stored_k changed write_for read_all read_one tab first_from first_failing count_where number_at bytes_from word_at numbers_of numbers bytes_of holds_count first_over add mul sub divisor_from divisor_of is_prime invert inv eval factor weight weights dot interpolate opened first_off number_of place_of code_of and_then first_of need unless_found party_count parties point_of dealer_count dealer_points kind_of is_kind kind_count operands_of is_input_of wires_from input_wires out_wires_of out_wires input_owners_at first_dealings multiply_dealings dealings_at coin_owners_at input_owners coin_owners own_of own_inputs own_coins input_at coins_at triple_numbers own_triples multiply_steps steps_at steps_from steps step_at last_call input_count own_input_count coin_count own_coin_count own_out_count received magic same_bytes between layout_for field_at gate_start gate_place out_place point_place gate_of gate_from gate_at out_at point_at gate_ok out_ok spends_kept gate_kept out_kept majority_ok majority_kept majority_check multiplying found_none point_apart point_kept points_placed points_check layout_ok plan_checks plan_check plan_of set_all from_each wires_by_party opened_at learnt resume_at work_gate work_from learn_from spend_from learn spend deal_to nothing product_at send_at call_with call fresh no_call call_of mail_to next_call next_round after at_end results mails view_of view total view_count_of view_count flat_map on_polynomial shares_at_end broken_check given_checks body_size bodies_before body_start record_size content_of contents_of record_of record_checks record_answer record_after content_kept record_ok bench_read_checks bench_read_answer body_of plant_read_checks plant_read_answer plant_read_after unless_refused
record_sums = record {
  size = refl;
  written = refl;
  shown = refl;
  writes = refl;
  short = refl;
  few_coins = refl;
  all = refl;
  one = refl;
  room_of_record = refl;
  room_of_next = refl;
  party_0 = refl;
  party_above = refl;
  early = refl;
  late = refl;
  other_plan = refl;
  overlap = refl;
  gap = refl;
  other_order = refl;
  longer_by_1 = refl;
  shorter_by_4 = refl;
  longer_by_65536 = refl;
  far_offset = refl;
  far-length = refl;
  before_9 = refl;
  as-stored = refl;
}
