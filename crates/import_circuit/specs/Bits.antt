-- The circuit's own bits, wire by wire: no plan and no field.
use Rattle.std.specs.Prelude.{ℕ, ◌+◌, ◌-◌, ◌*◌, ◌%◌, List, [], ◌∷◌, ◌++◌, drop, get_or, set, replicate}
use Rattle.import_text.specs.declared.LogicGate.{LogicGate}
use Rattle.import_text.specs.declared.LogicGate.TheVariants.{Xor, And, Inv}
use Rattle.import_text.specs.Circuits.{Circuit}
use Rattle.import_circuit.specs.Wires.{input_wires, output_wires}

unfoldable pub bits_by : List ℕ → LogicGate → List ℕ
bits_by bits (Xor a b c) = set bits c ((get_or bits a 0 + get_or bits b 0) % 2)
bits_by bits (And a b c) = set bits c (get_or bits a 0 * get_or bits b 0)
bits_by bits (Inv a c) = set bits c (1 - get_or bits a 0)

unfoldable pub bits_after : List ℕ → List LogicGate → List ℕ
bits_after bits [] = bits
bits_after bits (g ∷ gs) = bits_after (bits_by bits g) gs

-- the output bits in wire order, of a list with one bit for each input wire
unfoldable pub circuit_bits : Circuit → List ℕ → List ℕ
circuit_bits c bits = drop (c.wires - output_wires c) (bits_after (bits ++ replicate (c.wires - input_wires c) 0) c.gates)
