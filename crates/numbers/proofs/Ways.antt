-- What each way through the code says of its definition.
--     coding       what closes the needs of every function
-- Assumes nothing.
use Rattle.std.proofs.Common.{Option, Some, None}
use mathlib.Core.Path.{◌≡◌, refl, sym, ap, ◌∙◌}
use mathlib.Core.Bool.{Bool, true, false, cond, ◌&&◌}
use mathlib.Core.List.{List, ◌++◌}
use Prim.Native.Nat.{ℕ, suc, ◌+◌, ◌-◌, ◌*◌, ◌/◌, ◌%◌, ◌<◌, ◌≤◌}
use native.Mathlib.Omega.{arith}
use borrow.Author.Rules.{rules}
use borrow.Author.Tests.{eqb-true, eqb-false, eq-eqb, ne_eqb, le-leb}
use lib.Dec.{eqb, leb, ltb}
use borrow.Rule.Slice.PartMut.{put_mid}
use Rattle.std.proofs.lemmas.Slice.{put_mid-paste}
use Rattle.std.specs.Int.{to_le_bytes}
use mir.Syntax.{w8, w64}
use mir.Val.{Fits}
use lib.Seq.{sets, sets-eq, take_all}
use lib.ListN.{length, get_or, take, drop, length-drop, drop_of_length-le, get_or-eq_default}
use Rattle.numbers.specs.Tables.{first_failing}
use Rattle.numbers.specs.Bytes.{width, limit, number_at, bytes_from, word_at, numbers, holds_count, stored, first_over, all_below}
use Rattle.numbers.proofs.Bytes.{numbers-length, numbers-nil, numbers-drop, get_or-numbers, get_or-numbers-past, word-past, stored_in, stored_past, length-bytes_from, low_bytes, fits_below, numbers_below}
use Rattle.numbers.proofs.Below.{at-all_below, all_below-drop, all_below_more, all_below_at_first, all_below_end, nothing-first_over}

-- ---- reads
pub byte-none : (s : List ℕ) (at : ℕ) → length s ≤ at → 0 ≡ get_or s at 0
byte-none s at l = sym (get_or-eq_default s 0 l)

pub word_some : (s : List ℕ) (at x y : ℕ) → x ≡ get_or s at 0 → y ≡ get_or s (at + 1) 0 → x + 256 * y ≡ word_at s at
unfolding word_at
word_some s at x y e f = rw (e, f)

pub word_none : (s : List ℕ) (at : ℕ) → length s ≤ at → 0 ≡ word_at s at
word_none s at l = sym (word-past s at l)

pub number-some :
    (s : List ℕ) (i a b c d : ℕ) → i < length s / width → a ≡ get_or s (width * i) 0 → b ≡ get_or s (width * i + 1) 0 → c ≡ get_or s (width * i + 2) 0 → d ≡ get_or s (width * i + 3) 0
    → a + 256 * b + 65536 * c + 16777216 * d ≡ get_or (numbers s) i 0
unfolding number_at
number-some s i a b c d l ea eb ec ed =
    let at : ℕ → ℕ = λ k. get_or s k 0 in
    let x : width * i + 1 ≡ suc (width * i) = omega arith in
    let y : width * i + 2 ≡ suc (suc (width * i)) = omega arith in
    let z : width * i + 3 ≡ suc (suc (suc (width * i))) = omega arith in
    let sum : a + 256 * b + 65536 * c + 16777216 * d ≡ number_at width s (width * i) = omega (arith, eb ∙ ap at x, ec ∙ ap at y, ed ∙ ap at z) in
    sum ∙ sym (get_or-numbers s i l)

pub number-none : (s : List ℕ) (i : ℕ) → length s / width ≤ i → 0 ≡ get_or (numbers s) i 0
number-none s i l = sym (get_or-numbers-past s i l)

-- ---- the rest of a list
pub rest_some : (s : List ℕ) (i : ℕ) → numbers (take (length s - width * i) (drop (width * i) s)) ≡ drop i (numbers s)
rest_some s i = ap numbers (take_all (length s - width * i) (drop (width * i) s) (omega (arith, length-drop (width * i) s))) ∙ numbers-drop s i

pub rest_none : (s : List ℕ) (i : ℕ) → length s / width ≤ i → numbers (take (length s - length s) (drop (length s) s)) ≡ drop i (numbers s)
rest_none s i l =
    let z : length s - length s ≡ 0 = omega arith in
    rw z numbers-nil ∙ sym (drop_of_length-le (numbers s) {i = i} (rw numbers-length l))

-- ---- a write
pub write_some : (s ys : List ℕ) (i v k : ℕ) → i < length s / width → k ≡ width → ys ≡ take 4 (to_le_bytes w64 v) → put_mid (width * i) k s ys ≡ stored s i v
unfolding bytes_from
write_some s ys i v k l ek ey =
    let bytes : List ℕ = bytes_from width v in
    let long : length bytes ≡ width = length-bytes_from width v in
    let one : put_mid (width * i) k s ys ≡ take (width * i) s ++ take width bytes ++ drop (width * i + width) s
    = put_mid-paste (width * i) k s ys bytes width (ey ∙ low_bytes width v (omega arith)) (sym ek) (sym long) in
    let some : sets s (width * i) bytes ≡ take (width * i) s ++ bytes ++ drop (width * i + length bytes) s = sets-eq bytes s (width * i) (omega arith) in
    one ∙ rw (take_all width bytes (omega arith), ← long) (sym some) ∙ stored_in s i v (omega arith)

pub write-none : (s : List ℕ) (i v : ℕ) → length s / width ≤ i → s ≡ stored s i v
write-none s i v l = stored_past s i v (omega arith)

-- ---- a count
pub count_left : (s : List ℕ) (k : ℕ) → (length s % width ≡ 0 → ⊥) → false ≡ holds_count k s
unfolding holds_count
count_left s k h = sym (ne_eqb (length s) (width * k) (λ e. h (omega arith)))

same_test : (a b c d : ℕ) → (a ≡ b → c ≡ d) → (c ≡ d → a ≡ b) → (t : Bool) → eqb a b ≡ t → eqb a b ≡ eqb c d
same_test a b c d there back true e = e ∙ sym (eq-eqb c d (there (eqb-true a b e)))
same_test a b c d there back false e = e ∙ sym (ne_eqb c d (λ q. eqb-false a b e (back q)))

pub count-whole : (s : List ℕ) (k : ℕ) → length s % width ≡ 0 → eqb (length s / width) k ≡ holds_count k s
unfolding holds_count
count-whole s k h = same_test (length s / width) k (length s) (width * k) (λ e. omega arith) (λ e. omega arith) (eqb (length s / width) k) refl

-- ---- the search for a number that isn't below p
-- number i is below p
abbrev pub is_below : List ℕ → ℕ → ℕ → Bool
is_below s p i = ltb (get_or (numbers s) i 0) p

pub over_is : (s : List ℕ) (p : ℕ) (r : Option ℕ) → r ≡ first_failing (is_below s p) (length s / width) → r ≡ first_over p (numbers s)
unfolding first_over
over_is s p r e = rw numbers-length e

-- ---- whether all from a place on are below p
-- every number is below the limit
pub all_fit : (s : List ℕ) (from p : ℕ) → ((i : ℕ) → Fits w8 (get_or s i 0)) → limit ≤ p → leb limit p ≡ all_below p (drop from (numbers s))
all_fit s from p f l =
    le-leb limit p l ∙ sym (all_below-drop p from (numbers s) (all_below_more limit p (numbers s) l (at-all_below limit (numbers s) (numbers_below s (fits_below s f)))))

both_assoc : (all t y : Bool) → ((all && t) && y) ≡ (all && cond t y false)
both_assoc true true y = refl
both_assoc true false y = refl
both_assoc false t y = refl

both_true : (all : Bool) → (all && true) ≡ all
both_true true = refl
both_true false = refl

pub also_yes : (all t : Bool) → all ≡ true → t ≡ (all && t)
also_yes true t h = refl
also_yes false t h = let z : ◌≡◌ {A = ℕ} 0 1 = cc in absurd (omega arith)

pub also_no : (all t : Bool) → all ≡ false → false ≡ (all && t)
also_no true t h = let z : ◌≡◌ {A = ℕ} 0 1 = cc in absurd (omega arith)
also_no false t h = refl

-- the invariant of the loop at i: what was found, and what is left to compare
pub record Comparing (s : List ℕ) (from p : ℕ) (all : Bool) (i : ℕ) : Type 0 where
  pub rest : (all && all_below p (drop i (numbers s))) ≡ all_below p (drop from (numbers s))

pub compare_begin : (s : List ℕ) (from p : ℕ) → Comparing s from p true from
compare_begin s from p = record { rest = refl }

module _ (s : List ℕ) (from p : ℕ) (all : Bool) (i : ℕ) (h : Comparing s from p all i) where
  pub compare_next : (x : ℕ) (b : Bool) → i < length s / width → x ≡ get_or (numbers s) i 0 → b ≡ (all && ltb x p) → Comparing s from p b (i + 1)
  compare_next x b l e f =
      record {
        rest =
            ap (λ (t : Bool). t && all_below p (drop (i + 1) (numbers s))) (f ∙ ap (λ (y : ℕ). all && ltb y p) e)
            ∙ both_assoc all (ltb (get_or (numbers s) i 0) p) (all_below p (drop (i + 1) (numbers s)))
            ∙ ap (λ (t : Bool). all && t) (sym (all_below_at_first p (numbers s) i (rw numbers-length l)))
            ∙ h.rest;
      }

  pub compare_end : length s / width ≤ i → all ≡ all_below p (drop from (numbers s))
  compare_end l = sym (both_true all) ∙ ap (λ (t : Bool). all && t) (all_below_end p (numbers s) i (rw numbers-length l)) ∙ h.rest

pub over_none : (s : List ℕ) (p : ℕ) (t : Bool) → t ≡ all_below p (drop 0 (numbers s)) → t ≡ true → None ≡ first_over p (numbers s)
over_none s p t e h = sym (nothing-first_over p (numbers s) (sym e ∙ h))

pub ruleset coding = (rules, byte-none, word_some, word_none, number-some, number-none, rest_some, rest_none, write_some, write-none, count_left, count-whole, all_fit, also_yes, also_no, compare_begin, compare_next, compare_end, over_none)
