-- A formula as a tree: its names, its own value, and the gates that it makes.
use Rattle.std.specs.Prelude.{ℕ, suc, ◌+◌, ◌-◌, ◌/◌, cond, List, [], ◌∷◌, ◌++◌, map, eqb, length, get_or}
use Rattle.field.specs.Mod.{add, mul, sub}
use Rattle.plan.specs.declared.Gate.{Gate}
use Rattle.plan.specs.declared.Gate.TheVariants.{Input, Add, Scale, Offset, Multiply}

-- a name is one number: 256 times its party, and its letter's byte
pub data Tree : Type 0 where
  Number : ℕ → Tree
  Name : ℕ → Tree
  Plus : Tree → Tree → Tree
  Minus : Tree → Tree → Tree
  Times : Tree → Tree → Tree

unfoldable pub party_of : ℕ → ℕ
party_of name = name / 256

-- ---- names, in order of first use
-- the place of a name in a list; past its end where it isn't there
unfoldable pub name_index : ℕ → List ℕ → ℕ
name_index x [] = 0
name_index x (y ∷ ys) = cond (eqb y x) 0 (suc (name_index x ys))

-- a list with a name at its end, unless it has it
unfoldable pub with_name : ℕ → List ℕ → List ℕ
with_name x [] = x ∷ []
with_name x (y ∷ ys) = y ∷ cond (eqb y x) ys (with_name x ys)

-- the names seen, then a tree's new ones: left sides before right
unfoldable pub names_from : List ℕ → Tree → List ℕ
names_from seen (Number v) = seen
names_from seen (Name x) = with_name x seen
names_from seen (Plus l r) = names_from (names_from seen l) r
names_from seen (Minus l r) = names_from (names_from seen l) r
names_from seen (Times l r) = names_from (names_from seen l) r

unfoldable pub names_of : Tree → List ℕ
names_of x = names_from [] x

-- ---- the formula's own value, modulo p; xs has a figure for each name
unfoldable pub formula_value : ℕ → List ℕ → List ℕ → Tree → ℕ
formula_value p names xs (Number v) = v
formula_value p names xs (Name x) = get_or xs (name_index x names) 0
formula_value p names xs (Plus l r) = add p (formula_value p names xs l) (formula_value p names xs r)
formula_value p names xs (Minus l r) = sub p (formula_value p names xs l) (formula_value p names xs r)
formula_value p names xs (Times l r) = mul p (formula_value p names xs l) (formula_value p names xs r)

-- ---- gates
-- the gates so far, and the wire that holds the value
pub record Emitted : Type 0 where
  pub gates : List Gate
  pub wire : ℕ

-- a gate at the end, whose wire holds the value
unfoldable pub ending : List Gate → Gate → Emitted
ending gs g = record { gates = gs ++ (g ∷ []); wire = length gs }

-- a number is the first input scaled by 0, then offset
unfoldable pub emit_number : List Gate → ℕ → Emitted
emit_number gs v = ending (gs ++ (Scale 0 0 ∷ [])) (Offset (length gs) v)

-- a left side, a right side made after it, and the gate that joins them
unfoldable pub emit_plus : Emitted → Emitted → Emitted
emit_plus l r = ending r.gates (Add l.wire r.wire)

unfoldable pub emit_times : Emitted → Emitted → Emitted
emit_times l r = ending r.gates (Multiply l.wire r.wire)

-- a minus is a scale by p - 1, then an add
unfoldable pub emit_minus : ℕ → Emitted → Emitted → Emitted
emit_minus p l r = ending (r.gates ++ (Scale r.wire (p - 1) ∷ [])) (Add l.wire (length r.gates))

-- the right side goes on where the left side's gates end
unfoldable pub right_after : (Emitted → Emitted → Emitted) → (List Gate → Emitted) → Emitted → Emitted
right_after join right l = join l (right l.gates)

unfoldable pub emit : ℕ → List ℕ → Tree → List Gate → Emitted
emit p names (Number v) gs = emit_number gs v
emit p names (Name x) gs = record { gates = gs; wire = name_index x names }
emit p names (Plus l r) gs = right_after emit_plus (λ hs. emit p names r hs) (emit p names l gs)
emit p names (Minus l r) gs = right_after (emit_minus p) (λ hs. emit p names r hs) (emit p names l gs)
emit p names (Times l r) gs = right_after emit_times (λ hs. emit p names r hs) (emit p names l gs)

-- input gates come first
unfoldable pub input_gates : List ℕ → List Gate
input_gates names = map (λ x. Input (party_of x)) names

-- how many gates a tree makes beside the inputs
unfoldable pub gate_count : Tree → ℕ
gate_count (Number v) = 2
gate_count (Name x) = 0
gate_count (Plus l r) = gate_count l + gate_count r + 1
gate_count (Minus l r) = gate_count l + gate_count r + 2
gate_count (Times l r) = gate_count l + gate_count r + 1
