-- Laws of counts: how many entries of a list pass a test.
--     count_where-append, count_where_snoc, count_where-take-suc      of lists in parts
--     count_where-le-length                                         a bound
--     Counted, counting                                            a loop that counts
-- Assumes nothing.
use mathlib.Core.Path.{◌≡◌, refl, sym, ap, ◌∙◌}
use mathlib.Core.Bool.{Bool, true, false, cond}
use mathlib.Core.List.{List, [], ◌∷◌, ◌++◌}
use Prim.Native.Nat.{ℕ, suc, ◌+◌, ◌^◌, ◌<◌, ◌≤◌}
use native.Mathlib.Numerals.{add-one}
use native.Mathlib.Omega.{arith}
use borrow.Author.Rules.{rules}
use lib.ListN.{length, get_or, take}
use lib.Seq.{take-suc, take_all}
use mir.Syntax.{w64}
use mir.Val.{Fits}
use Rattle.numbers.specs.Tables.{count_where}

module _ {A : Type 0} (f : A → Bool) where
  one_more : (t : Bool) (m n : ℕ) → cond t (suc (m + n)) (m + n) ≡ cond t (suc m) m + n
  one_more true m n = omega arith
  one_more false m n = refl

  pub count_where-append : (xs ys : List A) → count_where f (xs ++ ys) ≡ count_where f xs + count_where f ys
  unfolding count_where
  count_where-append [] ys = omega arith
  count_where-append (x ∷ xs) ys = rw (count_where-append xs ys) (one_more (f x) (count_where f xs) (count_where f ys))

  pub count_where_snoc : (xs : List A) (x : A) → count_where f (xs ++ (x ∷ [])) ≡ count_where f xs + cond (f x) 1 0
  unfolding count_where
  count_where_snoc xs x = count_where-append xs (x ∷ [])

  -- a turn of a loop that counts
  pub count_where-take-suc : (xs : List A) (i : ℕ) (d : A) → i < length xs → count_where f (take (i + 1) xs) ≡ count_where f (take i xs) + cond (f (get_or xs i d)) 1 0
  count_where-take-suc xs i d l = rw (add-one, take-suc xs i d l) (count_where_snoc (take i xs) (get_or xs i d))

  pub count_where-take-zero : (xs : List A) → count_where f (take 0 xs) ≡ 0
  unfolding count_where
  count_where-take-zero xs = refl

  pub count_where-take_all : (xs : List A) (i : ℕ) → length xs ≤ i → count_where f (take i xs) ≡ count_where f xs
  count_where-take_all xs i l = ap (count_where f) (take_all i xs l)

  least : (t : Bool) (m n : ℕ) → m ≤ n → cond t (suc m) m ≤ suc n
  least true m n l = omega arith
  least false m n l = omega arith

  pub count_where-le-length : (xs : List A) → count_where f xs ≤ length xs
  unfolding count_where
  count_where-le-length [] = omega arith
  count_where-le-length (x ∷ xs) = least (f x) (count_where f xs) (length xs) (count_where-le-length xs)

-- ---- a loop that counts
-- its invariant at i: k of the first i entries of xs pass
pub record Counted {A : Type 0} (f : A → Bool) (xs : List A) (k i : ℕ) : Type 0 where
  pub within : i ≤ length xs
  pub small : k ≤ i
  pub is : k ≡ count_where f (take i xs)

module _ {A : Type 0} (f : A → Bool) (xs : List A) where
  pub count_none : Counted f xs 0 0
  count_none = record { within = omega arith; small = omega arith; is = sym (count_where-take-zero f xs) }

  one_at_most : (t : Bool) → cond t 1 0 ≤ 1
  one_at_most true = omega arith
  one_at_most false = omega arith

  module _ (k i : ℕ) (h : Counted f xs k i) where
    pub count_next : (b : ℕ) (d : A) → i < length xs → b ≡ cond (f (get_or xs i d)) 1 0 → Counted f xs (k + b) (i + 1)
    count_next b d l e = record {
      within = omega arith;
      small = omega (arith, h.small, one_at_most (f (get_or xs i d)));
      is = rw (h.is, e) (sym (count_where-take-suc f xs i d l));
    }

    pub count_fits : (b : ℕ) (d : A) → i < length xs → length xs < 2 ^ 64 → b ≡ cond (f (get_or xs i d)) 1 0 → Fits w64 (k + b)
    count_fits b d l m e = record { fits = omega (arith, h.small, one_at_most (f (get_or xs i d))) }

    pub count-pass : (d : A) → i < length xs → f (get_or xs i d) ≡ true → Counted f xs (k + 1) (i + 1)
    count-pass d l e = count_next 1 d l (rw e)

    pub count-skip : (d : A) → i < length xs → f (get_or xs i d) ≡ false → Counted f xs k (i + 1)
    count-skip d l e = let z : k + 0 ≡ k = omega arith in rw z at (count_next 0 d l (rw e))

    pub counted : length xs ≤ i → k ≡ count_where f xs
    counted l = h.is ∙ count_where-take_all f xs i l

-- what closes each need of such a loop
pub ruleset counting = (rules, count_none, count_fits, count_next, count-pass, count-skip, counted)
