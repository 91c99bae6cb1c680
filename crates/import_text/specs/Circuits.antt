-- A circuit in Bristol Fashion, as its lines have it: gates, wires; input values, each one's wires; output values likewise;
-- then a gate's counts of wires read and set, these wires, its operation.
use Rattle.std.specs.Prelude.{ℕ, suc, ◌+◌, Bool, cond, ◌&&◌, ◌||◌, List, [], ◌∷◌, map, eqb, leb, length, get_or, take, drop}
use Rattle.plan.specs.File.{same_bytes}
use Rattle.import_lines.specs.Lines.{lines_of, every, decimal_of, is_number}
use Rattle.import_text.specs.declared.LogicGate.{LogicGate}
use Rattle.import_text.specs.declared.LogicGate.TheVariants.{Xor, And, Inv}

pub record Circuit : Type 0 where
  pub wires : ℕ
  -- each input value's wires, and each output value's
  pub inputs : List ℕ
  pub outputs : List ℕ
  pub gates : List LogicGate

-- ---- what the lines say
-- line i, and field i of a line as a number
abbrev pub line_at : List (List (List ℕ)) → ℕ → List (List ℕ)
line_at lines i = get_or lines i []

abbrev pub number_in : List (List ℕ) → ℕ → ℕ
number_in fields i = decimal_of (get_or fields i [])

unfoldable pub xor_word : List ℕ
xor_word = 88 ∷ 79 ∷ 82 ∷ []

unfoldable pub and_word : List ℕ
and_word = 65 ∷ 78 ∷ 68 ∷ []

unfoldable pub inv_word : List ℕ
inv_word = 73 ∷ 78 ∷ 86 ∷ []

unfoldable pub gate_in : List (List ℕ) → LogicGate
gate_in fields =
    cond (same_bytes (get_or fields 5 []) xor_word) (Xor (number_in fields 2) (number_in fields 3) (number_in fields 4))
    (cond (same_bytes (get_or fields 5 []) and_word) (And (number_in fields 2) (number_in fields 3) (number_in fields 4))
    (Inv (number_in fields 2) (number_in fields 3)))

unfoldable pub circuit_in : List (List (List ℕ)) → Circuit
circuit_in lines =
    record {
      wires = number_in (line_at lines 0) 1;
      inputs = map decimal_of (drop 1 (line_at lines 1));
      outputs = map decimal_of (drop 1 (line_at lines 2));
      gates = map gate_in (drop 3 lines);
    }

-- ---- the format
-- two numbers
unfoldable pub contents_line : List (List ℕ) → Bool
contents_line fields = eqb (length fields) 2 && every is_number fields

-- how many numbers follow, then these
unfoldable pub values_line : List (List ℕ) → Bool
values_line fields = every is_number fields && eqb (length fields) (suc (number_in fields 0))

-- r wires are read and one is set: these counts, r + 1 wires, an operation
unfoldable pub reads_line : ℕ → List (List ℕ) → Bool
reads_line r fields =
    eqb (length fields) (r + 4) && (every is_number (take (r + 3) fields) && (eqb (number_in fields 0) r && eqb (number_in fields 1) 1))

-- XOR and AND read two wires, INV reads one
unfoldable pub gate_line : List (List ℕ) → Bool
gate_line fields =
    (reads_line 2 fields && (same_bytes (get_or fields 5 []) xor_word || same_bytes (get_or fields 5 []) and_word))
    || (reads_line 1 fields && same_bytes (get_or fields 4 []) inv_word)

-- three lines, then as many as there are gates
unfoldable pub format_ok : List (List (List ℕ)) → Bool
format_ok lines =
    leb 3 (length lines)
    && (contents_line (line_at lines 0)
    && (values_line (line_at lines 1)
    && (values_line (line_at lines 2)
    && (eqb (length lines) (3 + number_in (line_at lines 0) 0) && every gate_line (drop 3 lines)))))

-- the circuit of a text
unfoldable pub circuit_of : List ℕ → Circuit
circuit_of text = circuit_in (lines_of text)
