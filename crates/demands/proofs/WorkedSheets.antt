-- The table of the formula sheets holds, by computation.
use mathlib.Core.Path.{refl}
use mathlib.Core.List.{flat_map}
use Rattle.numbers.specs.Tables.{tab, first_from, first_failing, count_where}
use Rattle.numbers.specs.Bytes.{number_at, bytes_from, word_at, bytes_of, all_below}
use Rattle.field.specs.Mod.{add, mul, sub}
use Rattle.field.specs.Prime.{divisor_from, divisor_of, is_prime}
use Rattle.plan.specs.Refusals.{number_of, place_of, code_of, and_then, first_of, need, unless_found}
use Rattle.plan.specs.Plans.{party_count, kind_of, is_kind, multiplying, operands_of, input_owners_at, out_wires_of, out_wires}
use Rattle.plan.specs.File.{magic, same_bytes, between, layout_for, field_at, gate_start, gate_place, out_place, point_place, gate_of, gate_from, gate_at, out_at, point_at, gate_ok, out_ok, spends_kept, gate_kept, out_kept, majority_ok, majority_kept, found_none, point_apart, point_kept, points_placed, layout_ok, points_check, majority_check, plan_checks, plan_check, plan_of}
use Rattle.plan_file.specs.Bodies.{plan_with, bytes_each, open_from, gate_bytes, gates_bytes, out_bytes, points_bytes, place_in, out_start, started, counted, contents, file_as, version_for, file_of_plan}
use Rattle.run_protocol.specs.Ideal.{inputs_taken, gate_value, values_from, values, granted}
use Rattle.text_decimals.specs.Reading.{blanks_from, blanks_end, digits_from, digits_at, is_digit, zero_at, decimal_at}
use Rattle.sheet_text.specs.Trees.{party_of, name_index, with_name, names_from, names_of, formula_value, ending, emit_number, emit_plus, emit_times, emit_minus, right_after, emit, input_gates}
use Rattle.sheet_text.specs.Sheets.{number_from, name_from, closed, is_letter, atom_by, joined, times_link, terms_link, linked, go_on, product_by, sum_by, inner_at, atom_at, product_at, sum_at, whole, sheet_at}
use Rattle.sheet_text.specs.Making.{tree_of, sheet_tree, sheet_ok, tree_made, bodies_with, tree_bodies}
use Rattle.sheet_call.specs.Compiling.{sheet_bodies, sheet_file, text_checks, sheet_checks, sheet_answer}
use Rattle.plan_codes.specs.Values.{value_of}
use Rattle.pool_files.specs.FileSizes.{sheet_size}
use Rattle.demands.specs.Circuits.{ascii}
use Rattle.demands.specs.Sheets.{formula, formula_gates, differences, difference_gates, sheet_for, SheetSums}

pub sheet_sums : SheetSums
unfolding tab first_from first_failing count_where bytes_from number_at word_at bytes_of all_below add mul sub divisor_from divisor_of is_prime number_of place_of code_of and_then first_of need unless_found out_wires_of out_wires magic same_bytes between layout_for field_at gate_start gate_place out_place point_place gate_of gate_from gate_at out_at point_at gate_ok out_ok spends_kept gate_kept out_kept majority_ok majority_kept majority_check multiplying is_kind found_none point_apart point_kept points_placed points_check layout_ok plan_checks plan_check plan_of party_count kind_of operands_of input_owners_at plan_with bytes_each open_from gate_bytes gates_bytes out_bytes points_bytes place_in out_start started counted contents file_as version_for file_of_plan inputs_taken gate_value values_from values granted blanks_from blanks_end digits_from digits_at is_digit zero_at decimal_at party_of name_index with_name names_from names_of formula_value ending emit_number emit_plus emit_times emit_minus right_after emit input_gates number_from name_from closed is_letter atom_by joined times_link terms_link linked go_on product_by sum_by inner_at atom_at product_at sum_at whole sheet_at tree_of sheet_tree sheet_ok tree_made bodies_with tree_bodies sheet_bodies sheet_file text_checks sheet_checks sheet_answer value_of sheet_size flat_map ascii formula formula_gates differences difference_gates sheet_for
sheet_sums = record {
  gates = refl;
  outs = refl;
  answer = refl;
  room = refl;
  size = refl;
  value = refl;
  granted_value = refl;
  to_the_left = refl;
  left_value = refl;
  sixteen_deep = refl;
  seventeen_deep = refl;
  blanks = refl;
  largest_number = refl;
  number_of_p = refl;
  last_party = refl;
  party_above = refl;
  no_left_side = refl;
  number_with-zero = refl;
  party_with-zero = refl;
  party_0 = refl;
  upper_case = refl;
  name_then_letter = refl;
  blank_in_name = refl;
  two-numbers = refl;
  empty_brackets = refl;
  empty_sheet = refl;
  nameless = refl;
  line_feed = refl;
  result_party_0 = refl;
  result_party_4 = refl;
  result_party_257 = refl;
  parties_of_257 = refl;
  threshold = refl;
  majority = refl;
  no_majority = refl;
  modulus = refl;
  third = refl;
  third_longer = refl;
}
