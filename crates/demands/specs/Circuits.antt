-- What is claimed of an imported circuit: "For figures of 0 and 1 the plan's results equal the circuit's bits." And the
-- worked example, as one table.
use Rattle.std.specs.Prelude.{Ok, ℕ, suc, ◌*◌, ◌≡◌, true, List, [], ◌∷◌, length, get_or, take, drop}
use Prim.Native.Char.{code}
use Prim.Native.String.{String}
use Prim.Native.String as string
use Rattle.numbers.specs.Bytes.{width, bytes_of, all_below}
use Rattle.plan.specs.declared.Gate.{Gate}
use Rattle.plan.specs.declared.Gate.TheVariants.{Input, Add, Scale, Multiply}
use Rattle.plan.specs.Refusals.{code_of}
use Rattle.plan.specs.Plans.{last_call, own_inputs, written_count}
use Rattle.plan.specs.File.{plan_check, plan_of}
use Rattle.run_protocol.specs.Ideal.{granted}
use Rattle.run_protocol.specs.Settings.{Inputs, Coins}
use Rattle.import_lines.specs.Places.{sum_of}
use Rattle.import_text.specs.Circuits.{Circuit, circuit_of}
use Rattle.import_circuit.specs.Wires.{input_wires}
use Rattle.import_circuit.specs.Bits.{circuit_bits}
use Rattle.import_call.specs.Importing.{import_bodies, import_file, import_answer, import_after}
use Rattle.pool_files.specs.FileSizes.{import_size}
use Rattle.demands.specs.Apart as apart

-- ---- the plan that was written for a circuit, with figures that are a bit for each input wire
pub record SameBits (c : Circuit) (bytes xs : List ℕ) : Type 0 where
  pub passes : plan_check bytes ≡ Ok tt
  pub file : all_below 256 bytes ≡ true
  pub inputs : Inputs (plan_of bytes) xs
  -- input value k, counted from 0, is what party k + 1 puts in
  pub own : (k : ℕ) → own_inputs (plan_of bytes) (suc k) xs ≡ take (get_or c.inputs k 0) (drop (sum_of (take k c.inputs)) xs)
  -- what the plan grants to party 1 is the circuit's output bits in wire order, and to any other nothing
  pub granted_bits : granted (plan_of bytes) xs 1 ≡ circuit_bits c xs
  pub granted-none : (i : ℕ) → (i ≡ 1 → ⊥) → granted (plan_of bytes) xs i ≡ []
  -- and in every run of parties apart, which spends no triple, these bits are what party 1's last call writes
  pub results :
      (coins : List ℕ) (lent : ℕ → ℕ → List ℕ) → Coins (plan_of bytes) coins
      → ((i k : ℕ) → length (lent i k) ≡ width * written_count (plan_of bytes) i k)
      → (apart.answer_of 1 (apart.run bytes xs coins [] lent (last_call (plan_of bytes)))).out ≡ bytes_of (circuit_bits c xs)

-- for every text that imports, and every list of figures of 0 and 1 with its count
abbrev pub Imported : Type 0
Imported =
    (n t p : ℕ) (text out xs : List ℕ) → import_answer n t p text (length out) ≡ Ok tt
    → length xs ≡ input_wires (circuit_of text) → all_below 2 xs ≡ true
    → SameBits (circuit_of text) (import_after n t p text out) xs

-- ---- the worked example: two values of two bits
-- a quoted text as its bytes; every character is ASCII
unfoldable pub ascii : String → List ℕ
ascii string.[] = []
ascii (string.◌∷◌ c s) = code c ∷ ascii s

unfoldable pub example : List ℕ
example = ascii "3 7\n2 2 2\n1 1\n\n2 1 0 2 4 XOR\n2 1 1 3 5 AND\n2 1 4 5 6 XOR\n"

abbrev pub example_bits : List ℕ
example_bits = 1 ∷ 1 ∷ 0 ∷ 1 ∷ []

unfoldable pub example_gates : List Gate
example_gates =
    Input 1 ∷ Input 1 ∷ Input 2 ∷ Input 2
    ∷ Multiply 0 2 ∷ Scale 4 9 ∷ Add 0 2 ∷ Add 6 5
    ∷ Multiply 1 3
    ∷ Multiply 7 8 ∷ Scale 9 9 ∷ Add 7 8 ∷ Add 11 10
    ∷ []

-- an INV of one bit
unfoldable pub inverter : List ℕ
inverter = ascii "1 2\n1 1\n1 1\n1 1 0 1 INV"

-- the answer for a text, n, t, p and a buffer of so many bytes
unfoldable pub answer_for : ℕ → ℕ → ℕ → String → ℕ → ℕ
answer_for n t p text room = code_of (import_answer n t p (ascii text) room)

pub record CircuitSums : Type 0 where
  pub gates : (import_bodies 11 example).gates ≡ example_gates
  pub outs : (import_bodies 11 example).outs ≡ record { party = 1; wire = 12 } ∷ []
  pub answer : code_of (import_answer 3 1 11 example 99) ≡ 0
  pub room : code_of (import_answer 3 1 11 example 98) ≡ 19
  pub size : import_size 3 1 11 example ≡ 256 * 99
  pub bits : circuit_bits (circuit_of example) example_bits ≡ 0 ∷ []
  pub granted_bits : granted (plan_of (import_file 3 1 11 example)) example_bits 1 ≡ 0 ∷ []
  pub figures : (length example_bits ≡ input_wires (circuit_of example)) × (all_below 2 example_bits ≡ true)
  -- p = 2, which leaves one party
  pub smallest : code_of (import_answer 1 0 2 inverter 39) ≡ 0
  pub smallest_bits : circuit_bits (circuit_of inverter) (0 ∷ []) ≡ 1 ∷ []
  pub smallest-granted : granted (plan_of (import_file 1 0 2 inverter)) (0 ∷ []) 1 ≡ 1 ∷ []
  -- refusals
  pub more-values : code_of (import_answer 1 0 11 example 99) ≡ 23
  pub set_twice : answer_for 3 1 11 "2 3\n1 1\n1 1\n1 1 0 2 INV\n1 1 0 2 INV\n" 0 ≡ 23
  pub left_unset : answer_for 3 1 11 "1 3\n1 1\n1 1\n1 1 0 2 INV\n" 0 ≡ 23
  pub not_yet_set : answer_for 3 1 11 "2 3\n1 1\n1 1\n1 1 1 2 INV\n1 1 0 1 INV\n" 0 ≡ 23
  pub leading-zero : answer_for 3 1 11 "1 02\n1 1\n1 1\n1 1 0 1 INV\n" 0 ≡ 23
  pub tab_no_blank : answer_for 3 1 11 "1 2\n1 1\n1 1\n1 1 0 1\tINV\n" 0 ≡ 23
  pub too_large : answer_for 3 1 11 "0 65536\n1 1\n1 1\n" 0 ≡ 23
  pub too_many_outs : answer_for 3 1 11 "0 65\n1 65\n1 65\n" 0 ≡ 24
  pub parties_of_257 : code_of (import_answer 257 0 11 example 99) ≡ 3
  pub threshold : code_of (import_answer 3 3 11 example 99) ≡ 4
  -- XOR and AND multiply, INV does not
  pub majority : code_of (import_answer 3 2 11 example 99) ≡ 25
  pub no_majority : code_of (import_answer 2 1 11 inverter 39) ≡ 0
  pub modulus : code_of (import_answer 3 1 65536 example 99) ≡ 5
  -- above 65,535 the file has version 3
  pub third : code_of (import_answer 3 1 65537 inverter 77) ≡ 0
  pub third_longer : code_of (import_answer 3 1 65537 inverter 39) ≡ 19
  -- no output is a plan without outs, no wire is none
  pub no_outs : answer_for 3 1 11 "0 1\n1 1\n0\n" 24 ≡ 0
  pub no_wires : answer_for 3 1 11 "0 0\n0\n0\n" 18 ≡ 6
