-- Marks, and the loop over the gates' lines.
--     marking     what closes the needs of the functions over marks
--     sizing      those of the loop
-- Assumes nothing.
use Rattle.std.proofs.Common.{Option, Some, None}
use Prim.Native.Nat.{ℕ, suc, ◌+◌, ◌-◌, ◌*◌, ◌<◌, ◌≤◌}
use mathlib.Core.Path.{◌≡◌, refl, sym, ap, ◌∙◌}
use mathlib.Core.Logic.{◌⊎◌, inl, inr}
use mathlib.Core.Bool.{Bool, true, false, cond, ◌&&◌}
use mathlib.Core.List.{List}
use native.Mathlib.Omega.{arith}
use borrow.Author.Rules.{rules}
use borrow.Author.Tests.{ltb-true, not-true, not-false, lt-ltb, le-ltb, le-leb, lt-leb}
use lib.Dec.{eqb, ltb}
use lib.ListN.{length, get_or, set, length-set}
use Rattle.numbers.proofs.Fills.{Filled, fill_none, fill_next, filled}
use Rattle.numbers.proofs.Truth.{both_true}
use Rattle.numbers.proofs.Ways.{byte-none}
use Rattle.import_lines.specs.Places.{line_start}
use Rattle.import_text.specs.declared.LogicGate.{LogicGate}
use Rattle.import_text.specs.declared.LogicGate.TheVariants.{Xor, And, Inv}
use Rattle.import_text.specs.Scanning.{gate_at, with_gate}
use Rattle.import_circuit.specs.Wires.{is_set, can_set, gate_fits, set_by, marked}
use Rattle.import_circuit.specs.Making.{gate_size}
use Rattle.import_circuit.proofs.Wires.{fits-set}
use Rattle.import_check.specs.Surveying.{marks_of, sized_from}

-- ---- marks
module _ (marks : List ℕ) (w : ℕ) where
  pub set_past : length marks ≤ w → false ≡ is_set marks w
  unfolding is_set
  set_past l = rw (← byte-none marks w l)

  pub set_at : w < length marks → eqb (get_or marks w 0) 1 ≡ is_set marks w
  unfolding is_set
  set_at l = refl

  pub can-past : length marks ≤ w → false ≡ can_set marks w
  unfolding can_set
  can-past l = rw (le-ltb w (length marks) l)

  pub can_at : w < length marks → eqb (get_or marks w 0) 0 ≡ can_set marks w
  unfolding can_set
  can_at l = rw (lt-ltb w (length marks) l)

module _ (marks : List ℕ) (x : LogicGate) where
  -- INV
  module _ (a c : ℕ) (e : x ≡ Inv a c) (t : Bool) (et : t ≡ is_set marks a) where
    pub inv_not : t ≡ false → t ≡ gate_fits marks x
    unfolding gate_fits
    inv_not q = rw (e, ← et, q)

    pub inv_on : (r : Bool) → t ≡ true → r ≡ can_set marks c → r ≡ gate_fits marks x
    unfolding gate_fits
    inv_on r q f = rw (e, ← et, q) f

  -- XOR and AND, with whether both wires that it reads are set
  module _ (a b c : ℕ) (e : x ≡ Xor a b c ⊎ x ≡ And a b c) (v : Bool) (ev : v ≡ (is_set marks a && is_set marks b)) where
    two : gate_fits marks x ≡ (v && can_set marks c)
    two = rw ev (by e)
      where
        join : (s : Bool) → (s && (is_set marks b && can_set marks c)) ≡ ((s && is_set marks b) && can_set marks c)
        join true = refl
        join false = refl

        by : x ≡ Xor a b c ⊎ x ≡ And a b c → gate_fits marks x ≡ ((is_set marks a && is_set marks b) && can_set marks c)
        by (inl q) = unfold gate_fits in rw q (join (is_set marks a))
        by (inr q) = unfold gate_fits in rw q (join (is_set marks a))

    pub two_not : v ≡ false → v ≡ gate_fits marks x
    two_not q = q ∙ sym (two ∙ rw q)

    pub two_on : (r : Bool) → v ≡ true → r ≡ can_set marks c → r ≡ gate_fits marks x
    two_on r q f = f ∙ sym (two ∙ rw q)

module _ (marks : List ℕ) (a b : ℕ) (t v : Bool) (et : t ≡ is_set marks a) where
  pub both_then : (y : Bool) → t ≡ true → y ≡ is_set marks b → v ≡ y → v ≡ (is_set marks a && is_set marks b)
  both_then y q ey f = f ∙ ey ∙ rw (← et, q)

  pub both_else : t ≡ false → v ≡ t → v ≡ (is_set marks a && is_set marks b)
  both_else q f = f ∙ q ∙ rw (← et, q)

pub marks-filled : (inputs : ℕ) (d₀ d : List ℕ) (i : ℕ) → length d ≤ i → Filled (λ w. cond (ltb w inputs) 1 0) d₀ d i → d ≡ marks_of inputs (length d₀)
unfolding marks_of
marks-filled inputs d₀ d i l h = filled (λ w. cond (ltb w inputs) 1 0) d₀ d i l h

-- As it is: answers name this set, since the check leaves their goals open by `using` alone.
pub ruleset marking = (rules, not-true, not-false, set_past, set_at, can-past, can_at, inv_not, inv_on, fill_none, fill_next, marks-filled)

-- the wire that a fitting gate sets is there
pub fit_inside : (marks : List ℕ) (g : LogicGate) (t : Bool) (w : ℕ) → t ≡ gate_fits marks g → t ≡ true → w ≡ set_by g → w < length marks
unfolding can_set
fit_inside marks g t w et ht ew = rw ew (ltb-true (set_by g) (length marks) (both_true _ _ (fits-set marks g (sym et ∙ ht))).0)

-- ---- the loop
pub record Sizing (s : List ℕ) (at gates : ℕ) (marks₀ : List ℕ) (e size k : ℕ) (marks : List ℕ) : Type 0 where
  pub within : k ≤ gates
  pub small : size ≤ 4 * k
  pub long : length marks ≡ length marks₀
  pub rest : sized_from (gates - k) s e marks size ≡ sized_from gates s at marks₀ 0

pub size_begin : (s : List ℕ) (at gates : ℕ) (marks : List ℕ) → Sizing s at gates marks at 0 0 marks
size_begin s at gates marks = let z : gates - 0 ≡ gates = omega arith in record { within = omega arith; small = omega arith; long = refl; rest = rw z }

module _ (s : List ℕ) (at gates : ℕ) (marks₀ : List ℕ) (e size k : ℕ) (marks : List ℕ) (h : Sizing s at gates marks₀ e size k marks) (from : ℕ) (ef : from ≡ line_start s e) where
  module _ (l : k < gates) (r : Option (LogicGate × ℕ)) (er : r ≡ gate_at s from) where
    one : gates - k ≡ suc (gates - (k + 1))
    one = omega arith

    pub size_none : (y : Option ℕ) → r ≡ None → y ≡ None → y ≡ sized_from gates s at marks₀ 0
    unfolding sized_from with_gate
    size_none y q n = rw (← h.rest, one, ← ef, ← er, q) n

    module _ (g : LogicGate) (next : ℕ) (qr : r ≡ Some (g, next)) (t : Bool) (et : t ≡ gate_fits marks g) where
      pub size-not : t ≡ false → None ≡ sized_from gates s at marks₀ 0
      unfolding sized_from with_gate
      size-not q = rw (← h.rest, one, ← ef, ← er, qr, ← et, q)

      pub size-on : (w z : ℕ) (new : List ℕ) → t ≡ true → w ≡ set_by g → new ≡ set marks w 1 → z ≡ gate_size g → z ≤ 4 → Sizing s at gates marks₀ next (size + z) (k + 1) new
      unfolding sized_from with_gate marked
      size-on w z new q ew en ez lz = record {
        within = omega arith;
        small = omega (arith, h.small);
        long = ap length en ∙ length-set marks w 1 ∙ h.long;
        rest = rw (en, ew, ez, ← h.rest, one, ← ef, ← er, qr, ← et, q);
      }

  module _ (l : gates ≤ k) where
    none : gates - k ≡ 0
    none = omega arith

    pub size_is : length s ≤ from → Some size ≡ sized_from gates s at marks₀ 0
    unfolding sized_from
    size_is q = rw (← h.rest, none, ← ef, le-leb (length s) from q)

    pub size-more : from < length s → None ≡ sized_from gates s at marks₀ 0
    unfolding sized_from
    size-more q = rw (← h.rest, none, ← ef, lt-leb (length s) from q)

-- As it is: answers name this set, since the check leaves their goals open by `using` alone.
pub ruleset sizing = (rules, not-true, not-false, fit_inside, size_begin, size_none, size-not, size-on, size_is, size-more)
