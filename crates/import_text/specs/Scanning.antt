-- A circuit's text as the code reads it, from a place on. proofs/Texts.antt joins this to Circuits.antt.
use Rattle.std.specs.Prelude.{Option, Some, None, ℕ, zero, suc, ◌*◌, ◌<◌, ◌≤◌, ◌≡◌, cond, List, [], ◌∷◌, eqb, leb, length}
use Rattle.import_text.specs.declared.Head.{Head}
use Rattle.import_lines.specs.declared.Values.{Values}
use Rattle.import_lines.specs.Places.{line_start, line_over, number_at, word_past, with_number, values_at}
use Rattle.import_text.specs.declared.LogicGate.{LogicGate}
use Rattle.import_text.specs.declared.LogicGate.TheVariants.{Xor, And, Inv}

-- ---- a gate's line
unfoldable pub ended : LogicGate → Option ℕ → Option (LogicGate × ℕ)
ended g (Some e) = Some (g, e)
ended g None = None

-- the operation of a gate with two wires read: XOR (88 79 82), else AND (65 78 68)
unfoldable pub first_ended : LogicGate → Option ℕ → Option (LogicGate × ℕ) → Option (LogicGate × ℕ)
first_ended g (Some e) other = Some (g, e)
first_ended g None other = other

unfoldable pub two_named : ℕ → ℕ → ℕ → List ℕ → ℕ → Option (LogicGate × ℕ)
two_named a b c s at = first_ended (Xor a b c) (word_past (88 ∷ 79 ∷ 82 ∷ []) s at) (ended (And a b c) (word_past (65 ∷ 78 ∷ 68 ∷ []) s at))

-- with one wire read: INV (73 78 86)
unfoldable pub one_named : ℕ → ℕ → List ℕ → ℕ → Option (LogicGate × ℕ)
one_named a c s at = ended (Inv a c) (word_past (73 ∷ 78 ∷ 86 ∷ []) s at)

unfoldable pub two_wires : List ℕ → ℕ → Option (LogicGate × ℕ)
two_wires s at =
    with_number None (λ a e. with_number None (λ b f. with_number None (λ c i. two_named a b c s i) (number_at s f)) (number_at s e))
    (number_at s at)

unfoldable pub one_wire : List ℕ → ℕ → Option (LogicGate × ℕ)
one_wire s at = with_number None (λ a e. with_number None (λ c f. one_named a c s f) (number_at s e)) (number_at s at)

-- the wires, after the counts r and w
unfoldable pub wires_at : ℕ → ℕ → List ℕ → ℕ → Option (LogicGate × ℕ)
wires_at r w s at = cond (eqb w 1) (cond (eqb r 2) (two_wires s at) (cond (eqb r 1) (one_wire s at) None)) None

unfoldable pub gate_at : List ℕ → ℕ → Option (LogicGate × ℕ)
gate_at s at = with_number None (λ r e. with_number None (λ w f. wires_at r w s f) (number_at s e)) (number_at s at)

-- ---- as many gates' lines, and then nothing more
pub data GatesRead : Type 0 where
  Read : List LogicGate → GatesRead
  Wrong : GatesRead

unfoldable pub gate_then : LogicGate → GatesRead → GatesRead
gate_then g (Read gs) = Read (g ∷ gs)
gate_then g Wrong = Wrong

unfoldable pub with_gate : {A : Type 0} → A → (LogicGate → ℕ → A) → Option (LogicGate × ℕ) → A
with_gate other f (Some (g, e)) = f g e
with_gate other f None = other

unfoldable pub gates_at : ℕ → List ℕ → ℕ → GatesRead
gates_at zero s at = cond (leb (length s) (line_start s at)) (Read []) Wrong
gates_at (suc k) s at = with_gate Wrong (λ g e. gate_then g (gates_at k s e)) (gate_at s (line_start s at))

-- ---- the lines before them
unfoldable pub with_values : {A : Type 0} → A → (ℕ → ℕ → ℕ → ℕ → A) → Option Values → A
with_values other f (Some v) = f v.count v.first v.total v.past
with_values other f None = other

unfoldable pub values_head : ℕ → ℕ → List ℕ → ℕ → Option Head
values_head gates wires s at =
    with_values None
    (λ k first x e. with_values None
    (λ l next y f. Some (record { gates = gates; wires = wires; values = k; first = first; inputs = x; outputs = y; at = f }))
    (values_at s (line_start s e)))
    (values_at s (line_start s at))

unfoldable pub head_at : List ℕ → Option Head
head_at s =
    with_number None
    (λ gates e. with_number None (λ wires f. cond (line_over s f) (values_head gates wires s f) None) (number_at s e))
    (number_at s (line_start s 0))

-- ---- what the code says beside the value: its numbers are small
unfoldable pub SmallHead : Option Head → Type 0
SmallHead (Some h) =
    record {
      gates : h.gates < 65536;
      wires : h.wires < 65536;
      values : h.values < 65536;
      inputs : h.inputs ≤ 65535 * 65535;
      outputs : h.outputs ≤ 65535 * 65535;
    }
SmallHead None = Unit

pub record HeadIs (d r : Option Head) : Type 0 where
  pub eq : r ≡ d
  pub small : SmallHead r
