-- Blanks and decimal numbers: what the loops keep, and where the readers stop.
--     inside_of     a byte that isn't 0 stands in the text
-- Assumes nothing.
use Rattle.std.proofs.Common.{Option, Some, None}
use Prim.Native.Nat.{ℕ, zero, suc, ◌+◌, ◌-◌, ◌*◌, ◌<◌, ◌≤◌, max}
use mathlib.Core.Path.{◌≡◌, refl, sym, ap, ◌∙◌}
use mathlib.Core.Bool.{Bool, true, false, cond}
use mathlib.Core.List.{List}
use native.Mathlib.Omega.{arith}
use native.Mathlib.Numerals.{add-one}
use borrow.Author.Rules.{rules}
use borrow.Author.Tests.{le-leb, lt-leb, eq-eqb, ne_eqb, le-ltb, eqb-false, ltb-true, ltb-false, leb-true, leb-false}
use lib.Dec.{eqb, leb, ltb}
use lib.ListN.{length, get_or}
use Rattle.numbers.proofs.Truth.{both_true}
use Rattle.numbers.proofs.Ways.{byte-none}
use Rattle.text_decimals.specs.Reading.{blanks_from, blanks_end, digits_from, digits_at, is_digit, zero_at, decimal_at, Within, Ahead, Placed}

-- ---- blanks: a loop that stands at i
pub record Skipping (s : List ℕ) (at i : ℕ) : Type 0 where
  pub from : at ≤ i
  pub upto : i ≤ at + (length s - at)
  pub rest : blanks_from (length s - i) s i ≡ blanks_end s at

pub skip_begin : (s : List ℕ) (at : ℕ) → Skipping s at at
unfolding blanks_end
skip_begin s at = record { from = omega arith; upto = omega arith; rest = refl }

module _ (s : List ℕ) (at i : ℕ) (h : Skipping s at i) where
  one : i < length s → length s - i ≡ suc (length s - (i + 1))
  one l = omega arith

  pub skip_stop : i < length s → (get_or s i 0 ≡ 32 → ⊥) → Within s at (blanks_end s at) i
  unfolding blanks_from
  skip_stop l n = record { eq = rw (← h.rest, one l, ne_eqb (get_or s i 0) 32 n); from = h.from; upto = h.upto }

  pub skip_on : i < length s → get_or s i 0 ≡ 32 → Skipping s at (i + 1)
  unfolding blanks_from
  skip_on l e = record { from = omega (arith, h.from); upto = omega (arith, h.from); rest = rw (← h.rest, one l, eq-eqb (get_or s i 0) 32 e, add-one) }

  pub skip_end : (r : ℕ) → length s ≤ i → r ≡ max at (length s) → Within s at (blanks_end s at) r
  unfolding blanks_from
  skip_end r l q =
      let e : r ≡ i = omega (arith, h.from, h.upto) in
      let z : length s - i ≡ 0 = omega arith in
      rw e (record { eq = rw (← h.rest, z); from = h.from; upto = h.upto })

-- ---- digits: a loop that stands at i with the value v
pub record Counting (limit : ℕ) (s : List ℕ) (at i v : ℕ) : Type 0 where
  pub small : v < 4294967296
  pub rest : digits_from (length s - i) limit s i v ≡ digits_at limit s at

pub count_begin : (limit : ℕ) (s : List ℕ) (at : ℕ) → Counting limit s at at 0
unfolding digits_at
count_begin limit s at = record { small = omega arith; rest = refl }

-- a byte that is a digit or not
pub digit_range : (b : ℕ) → is_digit b ≡ true → (48 ≤ b) × (b ≤ 57)
unfolding is_digit
digit_range b e = let h = both_true (leb 48 b) (leb b 57) e in (leb-true 48 b h.0, leb-true b 57 h.1)

pub digit_no : (b : ℕ) → b < 48 → false ≡ is_digit b
unfolding is_digit
digit_no b l = rw (lt-leb 48 b l)

pub digit-is : (b : ℕ) (r : Bool) → 48 ≤ b → r ≡ leb b 57 → r ≡ is_digit b
unfolding is_digit
digit-is b r l e = rw (le-leb 48 b l) e

no_digit : {A : Type 0} (b : ℕ) (x y : A) → is_digit b ≡ false → cond (ltb b 48) x (cond (ltb 57 b) x y) ≡ x
unfolding is_digit
no_digit b x y e = by (ltb b 48) (ltb 57 b) refl refl
  where
    by : (l h : Bool) → ltb b 48 ≡ l → ltb 57 b ≡ h → cond l x (cond h x y) ≡ x
    by true h p q = refl
    by false true p q = refl
    by false false p q = clash (rw (le-leb 48 b (ltb-false b 48 p), le-leb b 57 (ltb-false 57 b q)) at e)
      where
        clash : true ≡ false → cond false x (cond false x y) ≡ x
        clash c = cc

module _ (limit : ℕ) (s : List ℕ) (at i v b : ℕ) (h : Counting limit s at i v) (is : b ≡ get_or s i 0) where
  step : i < length s → length s - i ≡ suc (length s - (i + 1))
  step l = omega arith

  pub count_stop : (d : Bool) → d ≡ is_digit b → i < length s → d ≡ false → Some (v, i) ≡ digits_at limit s at
  unfolding digits_from
  count_stop d q l e = rw (← h.rest, step l, ← is) (sym (no_digit b _ _ (sym q ∙ e)))

  pub count_over : (d : Bool) → d ≡ is_digit b → i < length s → d ≡ true → limit ≤ 10 * v + (b - 48) → None ≡ digits_at limit s at
  unfolding digits_from
  count_over d q l e o =
      let r = digit_range b (sym q ∙ e) in
      rw (← h.rest, step l, ← is, le-ltb b 48 r.0, le-ltb 57 b r.1, le-leb limit (10 * v + (b - 48)) o)

  pub count_on : (d : Bool) → d ≡ is_digit b → limit ≤ 4294967296 → i < length s → d ≡ true → 10 * v + (b - 48) < limit → Counting limit s at (i + 1) (10 * v + (b - 48))
  unfolding digits_from
  count_on d q m l e o =
      let r = digit_range b (sym q ∙ e) in
      record {
        small = omega arith;
        rest = rw (← h.rest, step l, ← is, le-ltb b 48 r.0, le-ltb 57 b r.1, lt-leb limit (10 * v + (b - 48)) o, add-one);
      }

  -- what the step computes
  pub count_from : (d : Bool) → d ≡ is_digit b → d ≡ true → 48 ≤ b
  count_from d q e = (digit_range b (sym q ∙ e)).0

pub count_end : (limit : ℕ) (s : List ℕ) (at i v : ℕ) → Counting limit s at i v → i ≡ length s → Some (v, length s) ≡ digits_at limit s at
unfolding digits_from
count_end limit s at i v h e = let z : length s - i ≡ 0 = omega arith in rw (← h.rest, z, e)

-- ---- where the digits end
ahead_from : (s : List ℕ) (limit a b : ℕ) (r : Option (ℕ × ℕ)) → a ≤ b → b ≤ length s → Ahead s b limit r → Ahead s a limit r
unfolding Ahead
ahead_from s limit a b (Some (v, e)) l m h = record { from = omega (arith, h.from); upto = omega (arith, h.upto); small = h.small }
ahead_from s limit a b None l m h = tt

-- after a digit
split_later : (s : List ℕ) (limit at v w : ℕ) (r : Option (ℕ × ℕ)) (x y z : Bool) → at < length s → v < limit
    → (z ≡ false → Ahead s (suc at) limit r)
    → Ahead s at limit (cond x (Some (v, (suc at))) (cond y (Some (v, (suc at))) (cond z None r)))
unfolding Ahead
split_later s limit at v w r true y z l h f = record { from = omega arith; upto = omega arith; small = h }
split_later s limit at v w r false true z l h f = record { from = omega arith; upto = omega arith; small = h }
split_later s limit at v w r false false true l h f = tt
split_later s limit at v w r false false false l h f = ahead_from s limit at (suc at) r (omega arith) (omega arith) (f refl)

later : (m limit : ℕ) (s : List ℕ) (at v : ℕ) → m + suc at ≤ length s → v < limit → Ahead s at limit (digits_from m limit s (suc at) v)
unfolding digits_from Ahead
later zero limit s at v l h = record { from = omega arith; upto = omega arith; small = h }
later (suc m) limit s at v l h =
    let w : ℕ = 10 * v + (get_or s (suc at) 0 - 48) in
    split_later s limit at v w (digits_from m limit s (suc (suc at)) w) (ltb (get_or s (suc at) 0) 48) (ltb 57 (get_or s (suc at) 0)) (leb limit w)
    (omega arith) h (λ e. later m limit s (suc at) w (omega arith) (leb-false limit w e))

-- ---- a byte that isn't 0 stands in the text
pub inside_of : (s : List ℕ) (at b : ℕ) → b ≡ get_or s at 0 → 0 < b → at < length s
inside_of s at b e d = by (ltb at (length s)) refl
  where
    by : (x : Bool) → ltb at (length s) ≡ x → at < length s
    by true h = ltb-true at (length s) h
    by false h = absurd (omega (arith, e, byte-none s at (ltb-false at (length s) h)))

-- ---- a 0
zero_split : (s : List ℕ) (limit at : ℕ) (x y : Bool) → at < length s → eqb limit 0 ≡ y → Ahead s at limit (cond x None (cond y None (Some (0, (suc at)))))
unfolding Ahead
zero_split s limit at true y l e = tt
zero_split s limit at false true l e = tt
zero_split s limit at false false l e =
    record { from = omega arith; upto = omega arith; small = positive limit (eqb-false limit 0 e) }
  where
    positive : (k : ℕ) → (k ≡ 0 → ⊥) → 0 < k
    positive zero n = absurd (n refl)
    positive (suc k) n = omega arith

-- ---- the number at a place
module _ (s : List ℕ) (at limit b : ℕ) (is : b ≡ get_or s at 0) where
  zero_ahead : (r : Option (ℕ × ℕ)) → b ≡ 48 → r ≡ zero_at limit s at → Placed s at limit (decimal_at limit s at) r
  unfolding decimal_at zero_at is_digit
  zero_ahead r e q =
      let k : get_or s at 0 ≡ 48 = sym is ∙ e in
      record {
        eq = rw k q;
        ahead = rw q (zero_split s limit at (is_digit (get_or s (suc at) 0)) (eqb limit 0) (inside_of s at b is (omega arith)) refl);
      }

  pub zero_unlimited : b ≡ 48 → limit ≡ 0 → Placed s at limit (decimal_at limit s at) None
  unfolding zero_at
  zero_unlimited e z = zero_ahead None e (rw (eq-eqb limit 0 z) (sym (neither (is_digit (get_or s (suc at) 0)))))
    where
      neither : (x : Bool) → cond {A = Option (ℕ × ℕ)} x None None ≡ None
      neither true = refl
      neither false = refl

  -- the byte after the 0
  module _ (c : ℕ) (d : Bool) (e : b ≡ 48) (next : c ≡ get_or s (at + 1) 0) (i : d ≡ is_digit c) where
    pub zero_more : d ≡ true → Placed s at limit (decimal_at limit s at) None
    unfolding zero_at
    zero_more t = zero_ahead None e (rw (← add-one at, ← next, ← i, t))

    pub zero_is : d ≡ false → (limit ≡ 0 → ⊥) → Placed s at limit (decimal_at limit s at) (Some (0, at + 1))
    unfolding zero_at
    zero_is t z = zero_ahead (Some (0, at + 1)) e (rw (← add-one at, ← next, ← i, t, ne_eqb limit 0 z))

  module _ (d : Bool) (q : d ≡ is_digit b) where
    pub number_inside : d ≡ true → at < length s
    number_inside t = inside_of s at b is (omega (arith, (digit_range b (sym q ∙ t)).0))

    digits_ahead : d ≡ true → (c : ℕ) → get_or s at 0 ≡ c → 48 ≤ c → c ≤ 57 → Ahead s at limit (digits_at limit s at)
    unfolding digits_at digits_from Ahead
    digits_ahead t c q l u =
        let l' : length s - at ≡ suc (length s - (at + 1)) = omega (arith, number_inside t) in
        rw (l', q, le-ltb c 48 l, le-ltb 57 c u) (over (leb limit (10 * 0 + (c - 48))) refl)
      where
        over : (z : Bool) → leb limit (10 * 0 + (c - 48)) ≡ z
            → Ahead s at limit (cond z None (digits_from (length s - (at + 1)) limit s (suc at) (10 * 0 + (c - 48))))
        over true e = tt
        over false e = later (length s - (at + 1)) limit s at (10 * 0 + (c - 48)) (omega (arith, number_inside t)) (leb-false limit (10 * 0 + (c - 48)) e)

    pub number_digits : (r : Option (ℕ × ℕ)) → (b ≡ 48 → ⊥) → d ≡ true → r ≡ digits_at limit s at → Placed s at limit (decimal_at limit s at) r
    unfolding decimal_at
    number_digits r n t e =
        let g = digit_range b (sym q ∙ t) in
        let k : eqb (get_or s at 0) 48 ≡ false = ne_eqb (get_or s at 0) 48 (λ m. n (is ∙ m)) in
        let y : is_digit (get_or s at 0) ≡ true = rw is at (sym q ∙ t) in
        record {
          eq = rw (y, k) e;
          ahead = rw e (digits_ahead t b (sym is) g.0 g.1);
        }

    pub number_none : d ≡ false → Placed s at limit (decimal_at limit s at) None
    unfolding decimal_at Ahead
    number_none t = let e : is_digit (get_or s at 0) ≡ false = ap is_digit (sym is) ∙ (sym q ∙ t) in record { eq = rw e; ahead = tt }

pub ruleset reading = (rules, skip_begin, skip_stop, skip_on, skip_end, count_begin, count_stop, count_over, count_on, count_from, count_end)

-- As it is: answers name this set, since the check leaves their goals open by `using` alone.
pub ruleset placing = (rules, zero_unlimited, zero_more, zero_is, number_inside, number_digits, number_none)
