-- The wires of a circuit: inputs are wires 0 up, outputs the last. Refusal 23 beside the format: more input values than
-- seats, a wire that is read and not yet set, set twice or left unset.
use Rattle.std.specs.Prelude.{ℕ, Bool, true, cond, ◌&&◌, List, [], ◌∷◌, eqb, leb, ltb, length, get_or, set}
use Rattle.numbers.specs.Tables.{tab}
use Rattle.import_lines.specs.Lines.{every}
use Rattle.import_lines.specs.Places.{sum_of}
use Rattle.import_text.specs.declared.LogicGate.{LogicGate}
use Rattle.import_text.specs.declared.LogicGate.TheVariants.{Xor, And, Inv}
use Rattle.import_text.specs.Circuits.{Circuit}

-- all wires of the input values, and of the output values
abbrev pub input_wires : Circuit → ℕ
input_wires c = sum_of c.inputs

abbrev pub output_wires : Circuit → ℕ
output_wires c = sum_of c.outputs

-- a mark for each wire: 1 where it is set, else 0
unfoldable pub input_marks : Circuit → List ℕ
input_marks c = tab (λ w. cond (ltb w (input_wires c)) 1 0) c.wires

unfoldable pub is_set : List ℕ → ℕ → Bool
is_set marks w = eqb (get_or marks w 0) 1

unfoldable pub can_set : List ℕ → ℕ → Bool
can_set marks w = ltb w (length marks) && eqb (get_or marks w 0) 0

-- a gate reads wires that are set, and sets one that isn't
unfoldable pub gate_fits : List ℕ → LogicGate → Bool
gate_fits marks (Xor a b c) = is_set marks a && (is_set marks b && can_set marks c)
gate_fits marks (And a b c) = is_set marks a && (is_set marks b && can_set marks c)
gate_fits marks (Inv a c) = is_set marks a && can_set marks c

-- the wire that a gate sets
unfoldable pub set_by : LogicGate → ℕ
set_by (Xor a b c) = c
set_by (And a b c) = c
set_by (Inv a c) = c

unfoldable pub marked : List ℕ → LogicGate → List ℕ
marked marks g = set marks (set_by g) 1

unfoldable pub gates_fit : List ℕ → List LogicGate → Bool
gates_fit marks [] = true
gates_fit marks (g ∷ gs) = gate_fits marks g && gates_fit (marked marks g) gs

unfoldable pub last_marks : List ℕ → List LogicGate → List ℕ
last_marks marks [] = marks
last_marks marks (g ∷ gs) = last_marks (marked marks g) gs

unfoldable pub circuit_ok : ℕ → Circuit → Bool
circuit_ok n c =
    leb (length c.inputs) n
    && (leb (input_wires c) c.wires
    && (leb (output_wires c) c.wires
    && (gates_fit (input_marks c) c.gates && every (eqb 1) (last_marks (input_marks c) c.gates))))
