-- The second pass over a circuit's text, as the code reads it: the numbers and the gates that stand from a place on, up to a line that breaks
-- the format (after the first pass there is none).
use Rattle.std.specs.Prelude.{Some, ℕ, zero, suc, ◌<◌, ◌≤◌, ◌≡◌, true, List, [], ◌∷◌, ◌++◌, length}
use Rattle.numbers.specs.Tables.{tab}
use Rattle.plan.specs.declared.Gate.{Gate}
use Rattle.import_lines.specs.Lines.{lines_of}
use Rattle.import_lines.specs.Places.{line_start, number_at, with_number, sum_of}
use Rattle.import_text.specs.declared.LogicGate.{LogicGate}
use Rattle.import_text.specs.declared.Head.{Head}
use Rattle.import_text.specs.Circuits.{format_ok, circuit_of}
use Rattle.import_text.specs.Scanning.{gate_at, with_gate, head_at}
use Rattle.import_circuit.specs.Wires.{output_wires, circuit_ok}
use Rattle.import_circuit.specs.Making.{input_gates, gates_from, circuit_gates}

unfoldable pub numbers_in : ℕ → List ℕ → ℕ → List ℕ
numbers_in zero s at = []
numbers_in (suc k) s at = with_number [] (λ v e. v ∷ numbers_in k s e) (number_at s at)

unfoldable pub gates_in : ℕ → List ℕ → ℕ → List LogicGate
gates_in zero s at = []
gates_in (suc k) s at = with_gate [] (λ x e. x ∷ gates_in k s e) (gate_at s (line_start s at))

-- all gates, by what the lines before the gates say
unfoldable pub all_gates : List ℕ → Head → ℕ → ℕ → List Gate
all_gates s h p wires =
    input_gates 1 (numbers_in h.values s h.first) ++ gates_from p h.inputs (tab (λ w. w) wires) (gates_in h.gates s h.at)

-- ---- what the functions ask
-- small numbers, and the input values' wires are as many as their sum
pub record Putting (s : List ℕ) (h : Head) (p : ℕ) : Type 0 where
  pub gates : h.gates < 65536
  pub values : h.values < 65536
  pub inputs : h.inputs ≤ 65536
  pub sum : sum_of (numbers_in h.values s h.first) ≡ h.inputs
  pub prime : 2 ≤ p

-- a text that the first pass and the checks of its plan let through: so many gates
pub record Importable (s : List ℕ) (n t p gates : ℕ) : Type 0 where
  pub format : format_ok (lines_of s) ≡ true
  pub rules : circuit_ok n (circuit_of s) ≡ true
  pub count : gates ≡ length (circuit_gates p (circuit_of s))
  pub few : gates ≤ 1024
  pub outs : output_wires (circuit_of s) ≤ 64
  pub parties : n ≤ 15
  pub threshold : t < 256
  pub prime : 2 ≤ p
  pub small : p < 2147483648

pub record Filing (s : List ℕ) (h : Head) (n t p gates room : ℕ) : Type 0 where
  pub is : head_at s ≡ Some h
  pub text : Importable s n t p gates
  pub gates_small : h.gates < 65536
  pub values_small : h.values < 65536
  pub wires : room ≡ h.wires
