-- Lists whose numbers are below p.
--     all_below_at, at-all_below                          all are below p exactly where each is
--     all_below-append, -take, -drop, -set, -tab, -more  of other lists and bounds
--     append_below, map_below, flat_map_below            lists in parts
--     input_below                                       a number of a list wherever one reads it
--     all_below_at_first, -next, -over, -end             what a loop over the numbers learns
--     first_over-nothing, nothing-first_over              none is found exactly where all are below p
--     first_over_at, at-first_over                        the one that is found
-- Assumes nothing.
use Rattle.std.proofs.Common.{Some, None}
use mathlib.Core.Path.{◌≡◌, refl, ◌∙◌}
use mathlib.Core.Bool.{Bool, true, false, cond, ◌&&◌}
use mathlib.Core.List.{List, [], ◌∷◌, ◌++◌, map, flat_map}
use Prim.Native.Nat.{ℕ, zero, suc, ◌+◌, ◌<◌, ◌≤◌}
use native.Mathlib.Decide.{dec_le}
use native.Mathlib.Numerals.{add-one}
use native.Mathlib.Omega.{arith}
use borrow.Author.Tests.{ltb-true, ltb-false, lt-ltb, le-ltb}
use lib.Dec.{ltb}
use lib.ListN.{length, get_or, take, drop, set, drop_of_length-le, get_or-eq_default}
use lib.Seq.{drop-cons}
use Rattle.numbers.specs.Tables.{tab}
use Rattle.numbers.specs.Bytes.{first_over, all_below}
use Rattle.numbers.proofs.Searches.{First, nothing_passes, passes-nothing, first_failing_lem, failing_first}
use Rattle.numbers.proofs.Bytes.{EachBelow}

both : (a b : Bool) → cond a b false ≡ true → (a ≡ true) × (b ≡ true)
both true b h = (refl, h)
both false b h = let z : ◌≡◌ {A = ℕ} 0 1 = cc in absurd (omega arith)

pub all_below_at : (p : ℕ) (xs : List ℕ) (i : ℕ) → all_below p xs ≡ true → i < length xs → get_or xs i 0 < p
unfolding all_below
all_below_at p [] i h l = absurd (omega arith)
all_below_at p (x ∷ xs) zero h l = ltb-true x p (both (ltb x p) (all_below p xs) h).0
all_below_at p (x ∷ xs) (suc i) h l = all_below_at p xs i (both (ltb x p) (all_below p xs) h).1 (omega arith)

pub at-all_below : (p : ℕ) (xs : List ℕ) → EachBelow p xs → all_below p xs ≡ true
unfolding all_below
at-all_below p [] h = refl
at-all_below p (x ∷ xs) h = rw (lt-ltb x p (h 0 (omega arith)), at-all_below p xs (λ i l. h (suc i) (omega arith)))

and-cond : (a b c : Bool) → cond a (b && c) false ≡ (cond a b false && c)
and-cond true b c = refl
and-cond false b c = refl

pub all_below-append : (p : ℕ) (xs ys : List ℕ) → all_below p (xs ++ ys) ≡ (all_below p xs && all_below p ys)
unfolding all_below
all_below-append p [] ys = refl
all_below-append p (x ∷ xs) ys = rw (all_below-append p xs ys) (and-cond (ltb x p) (all_below p xs) (all_below p ys))

pub all_below-take : (p n : ℕ) (xs : List ℕ) → all_below p xs ≡ true → all_below p (take n xs) ≡ true
unfolding all_below
all_below-take p zero xs h = refl
all_below-take p (suc n) [] h = refl
all_below-take p (suc n) (x ∷ xs) h =
    let w : (ltb x p ≡ true) × (all_below p xs ≡ true) = both (ltb x p) (all_below p xs) h in
    rw (w.0, all_below-take p n xs w.1)

pub all_below-drop : (p n : ℕ) (xs : List ℕ) → all_below p xs ≡ true → all_below p (drop n xs) ≡ true
unfolding all_below
all_below-drop p zero xs h = h
all_below-drop p (suc n) [] h = refl
all_below-drop p (suc n) (x ∷ xs) h = all_below-drop p n xs (both (ltb x p) (all_below p xs) h).1

pub all_below-set : (p i v : ℕ) (xs : List ℕ) → all_below p xs ≡ true → v < p → all_below p (set xs i v) ≡ true
unfolding all_below
all_below-set p i v [] h l = refl
all_below-set p zero v (x ∷ xs) h l = rw (lt-ltb v p l) (both (ltb x p) (all_below p xs) h).1
all_below-set p (suc i) v (x ∷ xs) h l =
    let w : (ltb x p ≡ true) × (all_below p xs ≡ true) = both (ltb x p) (all_below p xs) h in
    rw (w.0, all_below-set p i v xs w.1 l)

pub all_below-tab : (p : ℕ) (f : ℕ → ℕ) (n : ℕ) → ((i : ℕ) → i < n → f i < p) → all_below p (tab f n) ≡ true
unfolding all_below tab
all_below-tab p f zero h = refl
all_below-tab p f (suc n) h = rw (lt-ltb (f 0) p (h 0 (omega arith)), all_below-tab p (λ k. f (suc k)) n (λ i l. h (suc i) (omega arith)))

-- ---- lists in parts
pub append_below : (p : ℕ) (xs ys : List ℕ) → all_below p xs ≡ true → all_below p ys ≡ true → all_below p (xs ++ ys) ≡ true
append_below p xs ys hx hy = all_below-append p xs ys ∙ rw (hx, hy)

module _ {A : Type 0} (p : ℕ) where
  pub map_below : (f : A → ℕ) (l : List A) → ((a : A) → f a < p) → all_below p (map f l) ≡ true
  unfolding all_below
  map_below f [] h = refl
  map_below f (a ∷ l) h = rw (lt-ltb (f a) p (h a), map_below f l h)

  pub flat_map_below : (f : A → List ℕ) (l : List A) → ((a : A) → all_below p (f a) ≡ true) → all_below p (flat_map f l) ≡ true
  unfolding flat_map all_below
  flat_map_below f [] h = refl
  flat_map_below f (a ∷ l) h = append_below p (f a) (flat_map f l) (h a) (flat_map_below f l h)

-- a number below p is below it wherever one reads it
pub input_below : (p : ℕ) (xs : List ℕ) → 0 < p → all_below p xs ≡ true → (k : ℕ) → get_or xs k 0 < p
input_below p xs above small k = at (dec_le (length xs) k)
  where
    at : Dec (length xs ≤ k) → get_or xs k 0 < p
    at (yes past) = rw (get_or-eq_default xs 0 past) above
    at (no within) = all_below_at p xs k small (omega arith)

-- a greater bound
pub all_below_more : (p q : ℕ) (xs : List ℕ) → p ≤ q → all_below p xs ≡ true → all_below q xs ≡ true
all_below_more p q xs l h = at-all_below q xs (λ i m. omega (arith, all_below_at p xs i h m))

-- ---- what a loop over the numbers from i on learns at i
module _ (p : ℕ) (xs : List ℕ) (i : ℕ) where
  pub all_below_at_first : i < length xs → all_below p (drop i xs) ≡ cond (ltb (get_or xs i 0) p) (all_below p (drop (i + 1) xs)) false
  unfolding all_below
  all_below_at_first l = rw (add-one, drop-cons xs i 0 l)

  pub all_below_next : i < length xs → get_or xs i 0 < p → all_below p (drop (i + 1) xs) ≡ all_below p (drop i xs)
  unfolding all_below
  all_below_next l h = rw (add-one, drop-cons xs i 0 l, lt-ltb (get_or xs i 0) p h)

  pub all_below_over : i < length xs → p ≤ get_or xs i 0 → false ≡ all_below p (drop i xs)
  unfolding all_below
  all_below_over l h = rw (drop-cons xs i 0 l, le-ltb (get_or xs i 0) p h)

  pub all_below_end : length xs ≤ i → true ≡ all_below p (drop i xs)
  unfolding all_below
  all_below_end l = rw (drop_of_length-le xs l)

-- ---- the first number that isn't below p
pub first_over-nothing : (p : ℕ) (xs : List ℕ) → first_over p xs ≡ None → all_below p xs ≡ true
unfolding first_over
first_over-nothing p xs h = at-all_below p xs (λ i l. ltb-true (get_or xs i 0) p (nothing_passes (λ k. ltb (get_or xs k 0) p) (length xs) h i l))

pub nothing-first_over : (p : ℕ) (xs : List ℕ) → all_below p xs ≡ true → first_over p xs ≡ None
unfolding first_over
nothing-first_over p xs h = passes-nothing (λ k. ltb (get_or xs k 0) p) (length xs) (λ i l. lt-ltb (get_or xs i 0) p (all_below_at p xs i h l))

-- number i is the first that isn't below p
pub record FirstOver (p : ℕ) (xs : List ℕ) (i : ℕ) : Type 0 where
  pub within : i < length xs
  pub over : p ≤ get_or xs i 0
  pub before : (k : ℕ) → k < i → get_or xs k 0 < p

pub first_over_at : (p : ℕ) (xs : List ℕ) (i : ℕ) → first_over p xs ≡ Some i → FirstOver p xs i
unfolding first_over
first_over_at p xs i h =
    let w : First (λ k. ltb (get_or xs k 0) p) (length xs) i = first_failing_lem (λ k. ltb (get_or xs k 0) p) (length xs) i h in
    record { within = w.within; over = ltb-false (get_or xs i 0) p w.fails; before = λ k l. ltb-true (get_or xs k 0) p (w.before k l) }

pub at-first_over : (p : ℕ) (xs : List ℕ) (i : ℕ) → FirstOver p xs i → first_over p xs ≡ Some i
unfolding first_over
at-first_over p xs i w =
    failing_first (λ k. ltb (get_or xs k 0) p) (length xs) i
    (record { within = w.within; fails = le-ltb (get_or xs i 0) p w.over; before = λ k l. lt-ltb (get_or xs k 0) p (w.before k l) })
