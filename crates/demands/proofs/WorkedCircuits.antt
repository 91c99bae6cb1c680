-- The table of the imported circuits holds, by computation.
use mathlib.Core.Path.{refl}
use mathlib.Core.List.{flat_map}
use Rattle.numbers.specs.Tables.{tab, first_from, first_failing, count_where}
use Rattle.numbers.specs.Bytes.{number_at, bytes_from, word_at, all_below}
use Rattle.field.specs.Mod.{add, mul}
use Rattle.field.specs.Prime.{divisor_from, divisor_of, is_prime}
use Rattle.plan.specs.Refusals.{number_of, place_of, code_of, and_then, first_of, need, unless_found}
use Rattle.plan.specs.Plans.{party_count, kind_of, is_kind, multiplying, operands_of, input_owners_at, out_wires_of, out_wires}
use Rattle.plan.specs.File.{magic, same_bytes, between, layout_for, field_at, gate_start, gate_place, out_place, point_place, gate_of, gate_from, gate_at, out_at, point_at, gate_ok, out_ok, spends_kept, gate_kept, out_kept, majority_ok, majority_kept, found_none, point_apart, point_kept, points_placed, layout_ok, points_check, majority_check, plan_checks, plan_check, plan_of}
use Rattle.plan_file.specs.Bodies.{plan_with, bytes_each, open_from, gate_bytes, gates_bytes, out_bytes, points_bytes, place_in, out_start, started, counted, contents, file_as, version_for, file_of_plan}
use Rattle.run_protocol.specs.Ideal.{inputs_taken, gate_value, values_from, values, granted}
use Rattle.text_decimals.specs.Reading.{is_digit}
use Rattle.import_lines.specs.Lines.{onto_first, parted, filled, fields_of, lines_of, every, value_after, decimal_of, unpadded, is_number}
use Rattle.import_lines.specs.Places.{sum_of}
use Rattle.import_text.specs.Circuits.{xor_word, and_word, inv_word, gate_in, circuit_in, contents_line, values_line, reads_line, gate_line, format_ok, circuit_of}
use Rattle.import_circuit.specs.Wires.{input_marks, is_set, can_set, gate_fits, set_by, marked, gates_fit, last_marks, circuit_ok}
use Rattle.import_circuit.specs.Bits.{bits_by, bits_after, circuit_bits}
use Rattle.import_circuit.specs.Making.{input_gates, first_holders, gate_size, xor_gates, made_by, held_by, gates_from, held_after, circuit_gates, outs_of, circuit_outs, circuit_bodies}
use Rattle.import_check.specs.Surveying.{text_ok}
use Rattle.import_call.specs.Importing.{import_bodies, import_file, text_checks, import_checks, import_answer}
use Rattle.plan_codes.specs.Values.{value_of}
use Rattle.pool_files.specs.FileSizes.{import_size}
use Rattle.demands.specs.Circuits.{ascii, example, example_gates, inverter, answer_for, CircuitSums}

pub circuit_sums : CircuitSums
unfolding tab first_from first_failing count_where bytes_from number_at word_at all_below add mul divisor_from divisor_of is_prime number_of place_of code_of and_then first_of need unless_found out_wires_of out_wires magic same_bytes between layout_for field_at gate_start gate_place out_place point_place gate_of gate_from gate_at out_at point_at gate_ok out_ok spends_kept gate_kept out_kept majority_ok majority_kept majority_check multiplying is_kind found_none point_apart point_kept points_placed points_check layout_ok plan_checks plan_check plan_of party_count kind_of operands_of input_owners_at plan_with bytes_each open_from gate_bytes gates_bytes out_bytes points_bytes place_in out_start started counted contents file_as version_for file_of_plan inputs_taken gate_value values_from values granted is_digit onto_first parted filled fields_of lines_of every value_after decimal_of unpadded is_number sum_of xor_word and_word inv_word gate_in circuit_in contents_line values_line reads_line gate_line format_ok circuit_of input_marks is_set can_set gate_fits set_by marked gates_fit last_marks circuit_ok bits_by bits_after circuit_bits input_gates first_holders gate_size xor_gates made_by held_by gates_from held_after circuit_gates outs_of circuit_outs circuit_bodies text_ok import_bodies import_file text_checks import_checks import_answer value_of import_size flat_map ascii example example_gates inverter answer_for
circuit_sums = record {
  gates = refl;
  outs = refl;
  answer = refl;
  room = refl;
  size = refl;
  bits = refl;
  granted_bits = refl;
  figures = (refl, refl);
  smallest = refl;
  smallest_bits = refl;
  smallest-granted = refl;
  more-values = refl;
  set_twice = refl;
  left_unset = refl;
  not_yet_set = refl;
  leading-zero = refl;
  tab_no_blank = refl;
  too_large = refl;
  too_many_outs = refl;
  parties_of_257 = refl;
  threshold = refl;
  majority = refl;
  no_majority = refl;
  modulus = refl;
  third = refl;
  third_longer = refl;
  no_outs = refl;
  no_wires = refl;
}
