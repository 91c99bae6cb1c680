-- Reading a plan: what the test of each search is.
--     Keeping, gates           the loop over the gates, and what closes its needs
--     outs, lacking            what closes the needs of the searches among gates and outs
--     letters                  what an equality of slices says of the letters
--     reads                    what closes the needs of the functions that read a plan, at a check's answer
-- Assumes nothing.
use mathlib.Core.Path.{◌≡◌, refl, ap, ◌∙◌}
use Rattle.std.proofs.Common.{Option, Some, None, Ok, Err}
use mathlib.Core.Bool.{Bool, true, false, cond, not, ◌&&◌}
use mathlib.Core.List.{List, [], ◌∷◌}
use Prim.Native.Nat.{ℕ, suc, ◌+◌, ◌*◌, ◌<◌, ◌≤◌}
use native.Mathlib.Numerals.{add-one}
use native.Mathlib.Omega.{arith}
use mir.Syntax.{w64}
use mir.Val.{bool_byte, Fits}
use borrow.Author.Rules.{rules}
use borrow.Author.Tests.{not-true, not-false, le-ltb, le-leb, lt-leb}
use lib.Dec.{eqb, leb}
use lib.ListN.{length, get_or, take, drop}
use lib.Pointwise.{pointwise}
use Rattle.numbers.specs.Tables.{tab, first_failing, count_where}
use Rattle.numbers.proofs.Tables.{tab-snoc}
use Rattle.numbers.proofs.Counts.{count_where_snoc}
use Rattle.numbers.proofs.Searches.{Seeking, begin, found, passed, nothing}
use Rattle.field.specs.declared.Field.{Field}
use Rattle.plan.specs.declared.Gate.{Gate}
use Rattle.plan.specs.declared.Output.{Output}
use Rattle.plan.specs.declared.Header.{Header}
use Rattle.plan.specs.declared.Refusal.{Refusal}
use Rattle.plan.specs.Refusals.{Checked, first_of}
use Rattle.plan.specs.Planned.{HeaderOf, Planned}
use Rattle.plan.specs.Plans.{is_kind, multiplying}
use Rattle.plan.specs.File.{magic, same_bytes, field_above, plan_checks, plan_check, field_at, gate_at, out_at, gate_ok, out_ok, majority_ok, spends_kept, gate_kept, out_kept, majority_kept}
use Rattle.plan.proofs.Planned.{planned}
use Rattle.plan_reading.proofs.Ways as ways

-- ---- the gates: a loop over them that counts those that spend a triple
pub record Keeping (bs : List ℕ) (count k g : ℕ) : Type 0 where
  pub seeking : Seeking (gate_kept bs) count g
  pub spent : k ≡ count_where (is_kind 7) (tab (gate_at bs) g)
  pub few : k ≤ 341

pub keeping-begun : (bs : List ℕ) (count : ℕ) → Keeping bs count 0 0
unfolding tab count_where
keeping-begun bs count = record { seeking = begin (gate_kept bs) count; spent = refl; few = omega arith }

module _ (bs : List ℕ) (count spent g : ℕ) (w : Keeping bs count spent g) where
  module _ (ec : count ≡ field_at bs 2) where
    pub gates-kept : count ≤ g → None ≡ first_failing (gate_kept bs) (field_at bs 2)
    gates-kept l = rw (← ec) (nothing (gate_kept bs) count g w.seeking l)

  module _ (l : g < count) (ds : List ℕ) (ed : ds ≡ bs) (gate : Gate) (ea : gate ≡ gate_at ds g) (s : Bool) (es : s ≡ is_kind 7 gate) (one : ℕ) (e1 : one ≡ bool_byte s) where
    pub spent-fits : Fits w64 (spent + one)
    spent-fits = record { fits = omega (arith, w.few, at_most s e1) }
      where
        at_most : (b : Bool) → one ≡ bool_byte b → one ≤ 1
        at_most true e = omega arith
        at_most false e = omega arith

    eg : gate ≡ gate_at bs g
    eg = rw ed at ea

    spent-next : spent + one ≡ count_where (is_kind 7) (tab (gate_at bs) (suc g))
    spent-next =
        rw (tab-snoc (gate_at bs) g, count_where_snoc (is_kind 7) (tab (gate_at bs) g) (gate_at bs g), ← w.spent, ← eg, ← es) (ap (λ (k : ℕ). spent + k) (e1 ∙ as_one s))
      where
        as_one : (b : Bool) → bool_byte b ≡ cond b 1 0
        as_one true = refl
        as_one false = refl

    module _ (n p : ℕ) (t : Bool) (en : n ≡ get_or bs 5 0) (ep : p ≡ field_at bs 0) (et : t ≡ gate_ok n p g gate) where
      kept-is : gate_kept bs g ≡ (t && leb (spent + one) 341)
      unfolding gate_kept spends_kept
      kept-is = rw (← en, ← ep, ← eg, ← et, ← spent-next)

      module _ (ec : count ≡ field_at bs 2) where
        pub gate-breaks : t ≡ false → Some g ≡ first_failing (gate_kept bs) (field_at bs 2)
        gate-breaks f = rw (← ec) (found (gate_kept bs) count g w.seeking l (kept-is ∙ rw f))

        pub gate-many : t ≡ true → 341 < spent + one → Some g ≡ first_failing (gate_kept bs) (field_at bs 2)
        gate-many f m = rw (← ec) (found (gate_kept bs) count g w.seeking l (kept-is ∙ rw (f, lt-leb (spent + one) 341 m)))

      pub gate-kept : t ≡ true → spent + one ≤ 341 → Keeping bs count (spent + one) (g + 1)
      gate-kept f m =
          record {
            seeking = passed (gate_kept bs) count g w.seeking l (kept-is ∙ rw (f, le-leb (spent + one) 341 m));
            spent = rw add-one spent-next;
            few = m;
          }

pub ruleset gates = (rules, not-true, not-false, keeping-begun, gates-kept, spent-fits, gate-breaks, gate-many, gate-kept)

module _ (bs : List ℕ) (i : ℕ) (t : Bool) (n : ℕ) (en : n ≡ get_or bs 5 0) where
  pub out-kept_by : (gates : ℕ) (out : Output) → gates ≡ field_at bs 2 → out ≡ out_at bs i → t ≡ out_ok n gates out → t ≡ out_kept bs i
  unfolding out_kept
  out-kept_by gates out eg e k = rw (← en, ← eg, ← e) k

  pub lacking_by : (d : ℕ) (gate : Gate) (m : Bool) → d ≡ get_or bs 6 0 → n ≤ 2 * d → gate ≡ gate_at bs i → m ≡ multiplying gate → t ≡ not m → t ≡ majority_kept bs i
  unfolding majority_kept majority_ok
  lacking_by d gate m ed far e k q = rw (← en, ← ed, ← e, ← k, le-ltb (2 * d) n far) (q ∙ pick m)
    where
      pick : (m : Bool) → not m ≡ cond m false true
      pick true = refl
      pick false = refl

pub ruleset outs = (rules, out-kept_by)

pub ruleset lacking = (rules, lacking_by)

-- ---- the letters POOL
same_pairs : (xs ys : List ℕ) → pointwise eqb xs ys ≡ same_bytes xs ys
unfolding same_bytes
same_pairs [] [] = refl
same_pairs [] (y ∷ ys) = refl
same_pairs (x ∷ xs) [] = refl
same_pairs (x ∷ xs) (y ∷ ys) = ap (λ (t : Bool). eqb x y && t) (same_pairs xs ys)

module _ (s : List ℕ) where
  pub begun : (t : Bool) → 18 ≤ length s → t ≡ pointwise eqb (take 4 s) (80 ∷ 79 ∷ 79 ∷ 76 ∷ []) → t ≡ (leb 18 (length s) && same_bytes (take 4 s) magic)
  unfolding magic
  begun t l e = rw (le-leb 18 (length s) l) (e ∙ same_pairs (take 4 s) (80 ∷ 79 ∷ 79 ∷ 76 ∷ []))

  pub begun_short : length s < 18 → false ≡ (leb 18 (length s) && same_bytes (take 4 s) magic)
  begun_short l = rw (lt-leb 18 (length s) l)

pub ruleset letters = (rules, begun, begun_short)

-- ---- the whole reading
module _ (s : List ℕ) (p : ℕ) (ep : p ≡ field_at s 0) (n : ℕ) (en : n ≡ get_or s 5 0) (m : Option Field) (em : ways.modulus_in m ≡ field_above n p) (f : Field) (hf : m ≡ Some f) (c : Checked) (ec : c ≡ first_of (drop 5 (plan_checks s))) where
  pub reading-refused : (r : Refusal) → c ≡ Err r → first_of (drop 4 (plan_checks s)) ≡ Err r
  reading-refused r h = ways.reading-on s p ep n en m em f hf c ec ∙ h

  pub reading-passed : c ≡ Ok tt → first_of (drop 4 (plan_checks s)) ≡ Ok tt
  reading-passed h = ways.reading-on s p ep n en m em f hf c ec ∙ h

module _ (s : List ℕ) (c : Checked) (ec : c ≡ first_of (take 4 (plan_checks s))) (hc : c ≡ Ok tt) where
  pub read-refused : (r : Refusal) → first_of (drop 4 (plan_checks s)) ≡ Err r → plan_check s ≡ Err r
  read-refused r e = ways.read-further s c ec hc (Err r) e

  pub read-passed : (h : Header) → HeaderOf s h → first_of (drop 4 (plan_checks s)) ≡ Ok tt → Planned s h
  read-passed h k e = planned s h (ways.read-further s c ec hc (Ok tt) e) k

pub ruleset reads = (rules, ways.reading-no-field, ways.reading-header, ways.read-contents, reading-refused, reading-passed, read-refused, read-passed)
