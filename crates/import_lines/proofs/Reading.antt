-- What each way through the readers says of their definitions.
--     reading     what closes the needs of the functions
-- Assumes nothing.
use Rattle.std.specs.List.{starts_with}
use Rattle.std.proofs.Common.{Option, Some, None}
use Prim.Native.Nat.{ℕ, suc, ◌+◌, ◌-◌, ◌*◌, ◌<◌, ◌≤◌, max}
use mathlib.Core.Path.{◌≡◌, refl, sym, ap, ◌∙◌}
use mathlib.Core.Bool.{Bool, true, false, cond, ◌&&◌}
use mathlib.Core.List.{List}
use native.Mathlib.Omega.{arith}
use native.Mathlib.Numerals.{add-one}
use borrow.Author.Rules.{rules}
use borrow.Author.Tests.{not-true, not-false, le-leb, lt-leb, eq-eqb, ne_eqb}
use lib.Dec.{eqb, leb}
use lib.ListN.{length, get_or, take, drop, length-drop}
use lib.Seq.{take_all}
use mir.Syntax.{w64}
use mir.Val.{Fits}
use Rattle.text_decimals.specs.Reading.{blanks_end, decimal_at, Within, Ahead, Placed}
use Rattle.import_lines.specs.declared.Values.{Values}
use Rattle.import_lines.specs.Places.{is_gap, line_from, line_start, line_over, field_over, whole_field, number_at, word_past, with_number, NumbersRead, following, numbers_at, sum_of, summed, values_at, SmallNumeral, NumberRead, SmallValues, ValuesRead}

-- ---- lines
pub gap-blank : (b : ℕ) → b ≡ 32 → true ≡ is_gap b
unfolding is_gap
gap-blank b e = rw (eq-eqb b 32 e)

pub gap_other : (b : ℕ) → (b ≡ 32 → ⊥) → eqb b 10 ≡ is_gap b
unfolding is_gap
gap_other b n = rw (ne_eqb b 32 n)

pub record Skipping (s : List ℕ) (at i : ℕ) : Type 0 where
  pub from : at ≤ i
  pub upto : i ≤ at + (length s - at)
  pub rest : line_from (length s - i) s i ≡ line_start s at

pub skip_begin : (s : List ℕ) (at : ℕ) → Skipping s at at
unfolding line_start
skip_begin s at = record { from = omega arith; upto = omega arith; rest = refl }

module _ (s : List ℕ) (at i : ℕ) (h : Skipping s at i) where
  pub skip_end : (r : ℕ) → length s ≤ i → r ≡ max at (length s) → r ≡ line_start s at
  unfolding line_from
  skip_end r l q =
      let z : length s - i ≡ 0 = omega arith in
      let e : r ≡ i = omega (arith, h.from, h.upto) in
      rw (← h.rest, z) e

  module _ (g : Bool) (l : i < length s) (eg : g ≡ is_gap (get_or s i 0)) where
    one : length s - i ≡ suc (length s - (i + 1))
    one = omega arith

    pub skip_stop : g ≡ false → i ≡ line_start s at
    unfolding line_from
    skip_stop e = rw (← h.rest, one, ← eg, e)

    pub skip_on : g ≡ true → Skipping s at (i + 1)
    unfolding line_from
    skip_on e = record { from = omega (arith, h.from); upto = omega (arith, h.from); rest = rw (← h.rest, one, ← eg, e, add-one) }

pub over_end : (s : List ℕ) (at : ℕ) → length s ≤ at → true ≡ line_over s at
unfolding line_over
over_end s at l = rw (le-leb (length s) at l)

pub over_feed : (s : List ℕ) (at : ℕ) → at < length s → eqb (get_or s at 0) 10 ≡ line_over s at
unfolding line_over
over_feed s at l = rw (lt-leb (length s) at l)

-- ---- fields
module _ (s : List ℕ) (at b : ℕ) (eb : b ≡ get_or s at 0) where
  pub field-blank : b ≡ 32 → true ≡ field_over s at
  unfolding field_over
  field-blank e = rw (← eb, eq-eqb b 32 e)

  pub field-line : (r : Bool) → (b ≡ 32 → ⊥) → r ≡ line_over s at → r ≡ field_over s at
  unfolding field_over
  field-line r n e = rw (← eb, ne_eqb b 32 n) e

module _ (s : List ℕ) (at : ℕ) (d : Option (ℕ × ℕ)) (h : Placed s at 65536 (decimal_at 65536 s at) d) where
  pub number-none : (r : Option (ℕ × ℕ)) → d ≡ None → r ≡ None → NumberRead (number_at s at) r
  unfolding number_at whole_field SmallNumeral
  number-none r e q = rw q (record { eq = rw (← h.eq, e); small = tt })

  module _ (v e : ℕ) (ed : d ≡ Some (v, e)) (t : Bool) (et : t ≡ field_over s e) where
    pub number_cut : t ≡ false → NumberRead (number_at s at) None
    unfolding number_at whole_field SmallNumeral
    number_cut f = record { eq = rw (← h.eq, ed, ← et, f); small = tt }

    below : v < 65536
    unfolding Ahead
    below = (rw ed at h.ahead).small

    pub number_is : (r : ℕ) → t ≡ true → Within s e (blanks_end s e) r → NumberRead (number_at s at) (Some (v, r))
    unfolding number_at whole_field SmallNumeral
    number_is r f w = record { eq = rw (← h.eq, ed, ← et, f, w.eq); small = below }

-- a number's bound
pub number_below : (d r : Option (ℕ × ℕ)) (v e : ℕ) → NumberRead d r → r ≡ Some (v, e) → v < 65536
unfolding SmallNumeral
number_below d r v e h q = rw q at h.small

pub ruleset reading = (rules, not-true, not-false, gap-blank, gap_other, skip_begin, skip_end, skip_stop, skip_on, over_end, over_feed, field-blank, field-line)

pub ruleset fields = (rules, not-true, not-false, number-none, number_cut, number_is)

-- ---- words
module _ (w s : List ℕ) (at : ℕ) where
  pub word_beyond : length s < at → None ≡ word_past w s at
  unfolding word_past
  word_beyond l = rw (lt-leb (at + length w) (length s) (omega arith))

  module _ (t : Bool) (within : at ≤ length s) (starts : t ≡ starts_with eqb (take (length s - at) (drop at s)) w) where
    et : t ≡ starts_with eqb (drop at s) w
    et = starts ∙ ap (λ (l : List ℕ). starts_with eqb l w) (take_all (length s - at) (drop at s) (omega (arith, length-drop at s)))

    pub word_other : t ≡ false → None ≡ word_past w s at
    unfolding word_past
    word_other e = rw (← et, e) (by (leb (at + length w) (length s)))
      where
        by : (l : Bool) → None ≡ cond (l && false) (Some (at + length w)) None
        by true = refl
        by false = refl

    module _ (ht : t ≡ true) (n : ℕ) (en : length w ≡ n) (long : length w ≤ length (take (length s - at) (drop at s))) (r : ℕ) (er : Within s (at + n) (blanks_end s (at + n)) r) (o : Bool) (eo : o ≡ line_over s r) where
      fits : at + n ≤ length s
      fits = omega (arith, long, ap length (take_all (length s - at) (drop at s) (omega (arith, length-drop at s))), length-drop at s)

      pub word_more : o ≡ false → None ≡ word_past w s at
      unfolding word_past
      word_more e = rw (← et, en, le-leb (at + n) (length s) fits, ht, ← er.eq, ← eo, e)

      pub word_is : o ≡ true → Some (at + n) ≡ word_past w s at
      unfolding word_past
      word_is e = rw (← et, en, le-leb (at + n) (length s) fits, ht, ← er.eq, ← eo, e)

pub ruleset wording = (rules, not-true, not-false, word_beyond, word_other, word_more, word_is)

-- ---- sums
following_sum : (k at x v : ℕ) (r : NumbersRead) → summed k at x (following v r) ≡ summed k at (x + v) r
unfolding summed following sum_of
following_sum k at x v (NumbersRead.Read vs e) = let q : x + (v + sum_of vs) ≡ x + v + sum_of vs = omega arith in rw q
following_sum k at x v NumbersRead.Wrong = refl

pub record Summing (s : List ℕ) (at count x e k : ℕ) : Type 0 where
  pub within : k ≤ count
  pub small : x ≤ 65535 * k
  pub rest : summed count at x (numbers_at (count - k) s e) ≡ summed count at 0 (numbers_at count s at)

pub sum_begin : (s : List ℕ) (at count : ℕ) → Summing s at count 0 at 0
sum_begin s at count = let q : count - 0 ≡ count = omega arith in record { within = omega arith; small = omega arith; rest = rw q }

module _ (s : List ℕ) (at count x e k : ℕ) (h : Summing s at count x e k) where
  module _ (l : k < count) (d : Option (ℕ × ℕ)) (hd : NumberRead (number_at s e) d) where
    step : count - k ≡ suc (count - (k + 1))
    step = omega arith

    pub sum-none : (r : Option Values) → d ≡ None → r ≡ None → ValuesRead (summed count at 0 (numbers_at count s at)) r
    unfolding numbers_at with_number summed SmallValues
    sum-none r q e = rw e (record { eq = sym (sym h.rest ∙ rw (step, ← hd.eq, q)); small = tt })

    module _ (v f : ℕ) (q : d ≡ Some (v, f)) where
      sum-small : x + v ≤ 65535 * (k + 1)
      sum-small = omega (arith, number_below (number_at s e) d v f hd q, h.small)

      pub sum_fits : count < 65536 → Fits w64 (x + v)
      sum_fits c = record { fits = omega (arith, sum-small) }

      pub sum-on : Summing s at count (x + v) f (k + 1)
      unfolding numbers_at with_number
      sum-on = record {
        within = omega arith;
        small = sum-small;
        rest = sym (following_sum count at x v (numbers_at (count - (k + 1)) s f)) ∙ rw (← h.rest, step, ← hd.eq, q);
      }

  module _ (l : count ≤ k) (c : count < 65536) (o : Bool) (eo : o ≡ line_over s e) where
    none : count - k ≡ 0
    none = omega arith

    pub sum_more : o ≡ false → ValuesRead (summed count at 0 (numbers_at count s at)) None
    unfolding numbers_at summed SmallValues
    sum_more q = record { eq = sym (sym h.rest ∙ rw (none, ← eo, q)); small = tt }

    pub sum_is : o ≡ true → ValuesRead (summed count at 0 (numbers_at count s at)) (Some (record { count = count; first = at; total = x; past = e }))
    unfolding numbers_at summed sum_of SmallValues
    sum_is q =
        let z : x + 0 ≡ x = omega arith in
        record { eq = sym (sym h.rest ∙ rw (none, ← eo, q, z)); small = record { few = c; small = omega (arith, h.small, h.within) } }

module _ (s : List ℕ) (at : ℕ) (d : Option (ℕ × ℕ)) (hd : NumberRead (number_at s at) d) where
  pub values-none : (r : Option Values) → d ≡ None → r ≡ None → ValuesRead (values_at s at) r
  unfolding values_at with_number SmallValues
  values-none r q e = rw e (record { eq = rw (← hd.eq, q); small = tt })

  module _ (k e : ℕ) (q : d ≡ Some (k, e)) where
    pub values_few : k < 65536
    values_few = number_below (number_at s at) d k e hd q

    pub values-are : (r : Option Values) → ValuesRead (summed k e 0 (numbers_at k s e)) r → ValuesRead (values_at s at) r
    unfolding values_at with_number
    values-are r h = record { eq = h.eq ∙ rw (← hd.eq, q); small = h.small }

pub ruleset summing = (rules, not-true, not-false, number_below, sum_begin, sum-none, sum_fits, sum-on, sum_more, sum_is, values-none, values_few, values-are)
