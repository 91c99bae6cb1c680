-- The plan's gates and outs that a circuit makes. Input gates come first, then the text's gates in order: XOR is a multiply,
-- its scale by p − 2, an add of a and b, and an add of that sum and the scaled product (a + b − 2ab), AND a multiply, INV a scale by p − 1
-- and an offset of 1. Input value k, counted from 1, belongs to seat k, and every output bit goes to seat 1 in wire order.
use Rattle.std.specs.Prelude.{ℕ, suc, ◌+◌, ◌-◌, List, [], ◌∷◌, ◌++◌, get_or, set, replicate}
use Rattle.numbers.specs.Tables.{tab}
use Rattle.plan.specs.declared.Gate.{Gate}
use Rattle.plan.specs.declared.Gate.TheVariants.{Input, Add, Scale, Offset, Multiply}
use Rattle.plan.specs.declared.Output.{Output}
use Rattle.plan_file.specs.Bodies.{Bodies}
use Rattle.import_text.specs.declared.LogicGate.{LogicGate}
use Rattle.import_text.specs.declared.LogicGate.TheVariants.{Xor, And, Inv}
use Rattle.import_text.specs.Circuits.{Circuit}
use Rattle.import_circuit.specs.Wires.{input_wires, output_wires, set_by}

-- the input gates of these values, the first of which belongs to party k
unfoldable pub input_gates : ℕ → List ℕ → List Gate
input_gates k [] = []
input_gates k (w ∷ ws) = replicate w (Input k) ++ input_gates (suc k) ws

-- for each wire of the circuit the plan's wire that holds it; an input's is its own
unfoldable pub first_holders : Circuit → List ℕ
first_holders c = tab (λ w. w) c.wires

-- the plan's gates that a gate takes
unfoldable pub gate_size : LogicGate → ℕ
gate_size (Xor a b c) = 4
gate_size (And a b c) = 1
gate_size (Inv a c) = 2

unfoldable pub size_of : List LogicGate → ℕ
size_of [] = 0
size_of (x ∷ xs) = gate_size x + size_of xs

-- a XOR of the plan's wires a and b, from gate g on
unfoldable pub xor_gates : ℕ → ℕ → ℕ → ℕ → List Gate
xor_gates p g a b = Multiply a b ∷ Scale g (p - 2) ∷ Add a b ∷ Add (g + 2) (g + 1) ∷ []

-- a gate's own, the first of which is gate g
unfoldable pub made_by : ℕ → ℕ → List ℕ → LogicGate → List Gate
made_by p g held (Xor a b c) = xor_gates p g (get_or held a 0) (get_or held b 0)
made_by p g held (And a b c) = Multiply (get_or held a 0) (get_or held b 0) ∷ []
made_by p g held (Inv a c) = Scale (get_or held a 0) (p - 1) ∷ Offset g 1 ∷ []

-- the last of them makes the wire that holds what the gate sets
unfoldable pub held_by : ℕ → List ℕ → LogicGate → List ℕ
held_by g held x = set held (set_by x) (g + gate_size x - 1)

unfoldable pub gates_from : ℕ → ℕ → List ℕ → List LogicGate → List Gate
gates_from p g held [] = []
gates_from p g held (x ∷ xs) = made_by p g held x ++ gates_from p (g + gate_size x) (held_by g held x) xs

unfoldable pub held_after : ℕ → List ℕ → List LogicGate → List ℕ
held_after g held [] = held
held_after g held (x ∷ xs) = held_after (g + gate_size x) (held_by g held x) xs

unfoldable pub circuit_gates : ℕ → Circuit → List Gate
circuit_gates p c = input_gates 1 c.inputs ++ gates_from p (input_wires c) (first_holders c) c.gates

-- the outs of so many wires, the first of which is wire w
unfoldable pub outs_of : List ℕ → ℕ → ℕ → List Output
outs_of held w k = tab (λ i. record { party = 1; wire = get_or held (w + i) 0 }) k

unfoldable pub circuit_outs : Circuit → List Output
circuit_outs c = outs_of (held_after (input_wires c) (first_holders c) c.gates) (c.wires - output_wires c) (output_wires c)

unfoldable pub circuit_bodies : ℕ → Circuit → Bodies
circuit_bodies p c = record { gates = circuit_gates p c; outs = circuit_outs c }
