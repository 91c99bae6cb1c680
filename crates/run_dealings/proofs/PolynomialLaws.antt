-- The polynomials of dealings: the dealt value and its coins, read from the list of all coins.
--     shared_at, length_shared      the polynomial of one dealing
--     coefficients                     one coefficient
--     padding                          the loop over the coefficients
--     Sharing, sharing                 the loop over the dealings
-- Assumes nothing.
use mathlib.Core.Path.{◌≡◌, refl, sym, ap, ap₂, ◌∙◌}
use mathlib.Core.Bool.{Bool, true, false}
use mathlib.Core.List.{List, [], ◌∷◌, ◌++◌, flat_map}
use Prim.Native.Nat.{ℕ, zero, suc, ◌+◌, ◌-◌, ◌*◌, ◌/◌, ◌^◌, ◌<◌, ◌≤◌}
use native.Mathlib.Omega.{arith}
use borrow.Author.Rules.{rules}
use borrow.Author.Tests.{ltb-true, ltb-false, lt-ltb, le-ltb}
use lib.Dec.{ltb}
use lib.ListN.{length, take, drop, get_or, replicate, length-append, length-take, length-replicate, get_or-eq_default}
use lib.Seq.{get_or-take, get_or-drop, drop-drop}
use mir.Syntax.{w64}
use mir.Val.{Fits}
use Rattle.numbers.specs.Tables.{tab}
use Rattle.numbers.specs.Bytes.{width, numbers, all_below}
use Rattle.numbers.proofs.Tables.{length-tab, get_or-tab, tab-cons, tab-replicate, row_room}
use Rattle.numbers.proofs.Fills.{Filled, filling, filled}
use Rattle.sharing_laws.specs.Poly.{padded}
use Rattle.sharing_laws.specs.Sharing.{rows_of}
use Rattle.sharing_openings.proofs.Rows.{Written, none_written, room, piece_long, written_next, written_done}
use Rattle.run_dealings.specs.Rows.{terms, shared_by}
use Rattle.run_dealings.proofs.PowerLaws.{rows-flat}

-- ---- the polynomials of dealings
module _ (t step : ℕ) (vs cs : List ℕ) where
  pub length_shared : length (shared_by t step vs cs) ≡ length vs
  unfolding shared_by
  length_shared = length-tab (λ d. get_or vs d 0 ∷ take t (drop (step * d) cs)) (length vs)

  pub shared_at : (i : ℕ) → i < length vs → get_or (shared_by t step vs cs) i [] ≡ get_or vs i 0 ∷ take t (drop (step * i) cs)
  unfolding shared_by
  shared_at i l = get_or-tab (λ d. get_or vs d 0 ∷ take t (drop (step * d) cs)) (length vs) i [] l

  -- each has a value and at most t coins
  shared_by_lem : (i : ℕ) (b : Bool) → ltb i (length vs) ≡ b → length (get_or (shared_by t step vs cs) i []) ≤ t + 1
  shared_by_lem i true e = rw (shared_at i (ltb-true i (length vs) e)) (omega (arith, length-take t (drop (step * i) cs)))
  shared_by_lem i false e = rw (get_or-eq_default (shared_by t step vs cs) [] {n = i} (omega (arith, length_shared, ltb-false i (length vs) e))) (omega arith)

  pub shared_short : (i : ℕ) → length (get_or (shared_by t step vs cs) i []) ≤ t + 1
  shared_short i = shared_by_lem i (ltb i (length vs)) refl

-- ---- lists of elements
pub below-cons : (p x : ℕ) (xs : List ℕ) → x < p → all_below p xs ≡ true → all_below p (x ∷ xs) ≡ true
unfolding all_below
below-cons p x xs l h = rw (lt-ltb x p l, h)

-- ---- one coefficient
module _ (v at t i : ℕ) where
  pub coefficient_first : (f : List ℕ) → i ≡ 0 → v ≡ get_or (v ∷ f) i 0
  coefficient_first f e = rw e

  module _ (ne : i ≡ 0 → ⊥) where
    one_more : i ≡ suc (i - 1)
    one_more = omega arith

    pub coefficient-none : (cs : List ℕ) → t < i → 0 ≡ get_or (v ∷ take t (drop at cs)) i 0
    coefficient-none cs l = sym (get_or-eq_default (v ∷ take t (drop at cs)) 0 {n = i} (omega (arith, length-take t (drop at cs))))

    module _ (coins : List ℕ) (fits : at + t ≤ length coins / width) (le : i ≤ t) where
      pub coin_within : at + (i - 1) < length coins / width
      coin_within = omega arith

      pub coin_fits : length coins < 2 ^ 64 → Fits w64 (at + (i - 1))
      coin_fits f = record { fits = omega arith }

      pub coefficient-coin : (r : ℕ) → r ≡ get_or (numbers coins) (at + (i - 1)) 0 → r ≡ get_or (v ∷ take t (drop at (numbers coins))) i 0
      coefficient-coin r e =
          e ∙ sym (ap (λ (n : ℕ). get_or (v ∷ take t (drop at (numbers coins))) n 0) one_more
          ∙ get_or-take t (drop at (numbers coins)) (i - 1) 0 (omega arith)
          ∙ get_or-drop at (numbers coins) (i - 1) 0)

pub ruleset coefficients = (rules, coefficient_first, coefficient-none, coin_within, coin_fits, coefficient-coin)

-- ---- the loop over the coefficients
pub padded-tab : (n : ℕ) (f : List ℕ) → length f ≤ n → tab (λ i. get_or f i 0) n ≡ padded n f
unfolding padded
padded-tab n [] l = let e : n - 0 ≡ n = omega arith in rw e (tab-replicate 0 n)
padded-tab zero (a ∷ f) l = absurd (omega arith)
padded-tab (suc n) (a ∷ f) l =
    let e : suc n - suc (length f) ≡ n - length f = omega arith in
    tab-cons (λ i. get_or (a ∷ f) i 0) n ∙ ap (λ (r : List ℕ). a ∷ r) (padded-tab n f (omega arith)) ∙ ap (λ (m : ℕ). a ∷ (f ++ replicate m 0)) (sym e)

pub all-padded : (v t : ℕ) (cs d₀ d : List ℕ) (i : ℕ) → t < length d₀ → length d ≤ i → Filled (λ k. get_or (v ∷ take t cs) k 0) d₀ d i → d ≡ padded (length d₀) (v ∷ take t cs)
all-padded v t cs d₀ d i l m h = filled _ d₀ d i m h ∙ padded-tab (length d₀) (v ∷ take t cs) (omega (arith, length-take t cs))

-- As it is: answers name this set, since the check leaves their goals open by `using` alone.
pub ruleset padding = (filling, all-padded)

pub length-padded : (n : ℕ) (f : List ℕ) → length f ≤ n → length (padded n f) ≡ n
unfolding padded
length-padded n f l = length-append f (replicate (n - length f) 0) ∙ omega (arith, length-replicate {A = ℕ} (n - length f) 0)

-- ---- the loop over the dealings: d polynomials stand, and `place` is past their coins
-- polynomial i, with k coefficients
abbrev pub polynomial_at : ℕ → ℕ → ℕ → List ℕ → List ℕ → ℕ → List ℕ
polynomial_at t step k vs cs i = padded k (get_or (shared_by t step vs cs) i [])

pub record Sharing (t step k : ℕ) (vs coins : List ℕ) (at : ℕ) (d₀ d : List ℕ) (i : ℕ) : Type 0 where
  pub written : Written (polynomial_at t step k vs (drop at (numbers coins))) k (length vs) d₀ d i

module _ (t step k : ℕ) (vs coins : List ℕ) (at : ℕ) where
  pub share-none : (d : List ℕ) → length d ≡ k * length vs → Sharing t step k vs coins at d d 0
  share-none d e = record { written = none_written _ k (length vs) d e }

  module _ (d₀ d : List ℕ) (i : ℕ) (h : Sharing t step k vs coins at d₀ d i) where
    module _ (l : i < length vs) where
      pub share-room : k * i + k ≤ length d
      share-room = room h.written l

      pub share-end-fits : length d₀ * 8 < 2 ^ 63 → Fits w64 (k * i + k)
      share-end-fits f = record { fits = omega (arith, share-room, h.written.long) }

      pub share-start-fits : length d₀ * 8 < 2 ^ 63 → Fits w64 (k * i * 8)
      share-start-fits f = record { fits = omega (arith, share-room, h.written.long) }

      pub share-from-fits : length d₀ * 8 < 2 ^ 63 → Fits w64 (k * i)
      share-from-fits f = record { fits = omega (arith, share-room, h.written.long) }

      pub share-wide : t < k → t < length (take (k * i + k - k * i) (drop (k * i) d))
      share-wide w = rw (piece_long h.written l) w

      module _ (here : at + step * length vs + t ≤ length coins / width + step) where
        pub share-coins : at + step * i + t ≤ length coins / width
        share-coins = omega (arith, row_room step i (length vs) l)

        pub share-step-fits : length coins < 2 ^ 64 → Fits w64 (step * i)
        share-step-fits f = record { fits = omega (arith, share-coins) }

        pub share-place-fits : length coins < 2 ^ 64 → Fits w64 (at + step * i)
        share-place-fits f = record { fits = omega (arith, share-coins) }

      pub share-next : (ys : List ℕ) → length ys ≡ length (take (k * i + k - k * i) (drop (k * i) d))
          → ys ≡ padded (length (take (k * i + k - k * i) (drop (k * i) d))) (get_or vs i 0 ∷ take t (drop (at + step * i) (numbers coins)))
          → Sharing t step k vs coins at d₀ (take (k * i) d ++ (ys ++ drop (k * i + k - k * i) (drop (k * i) d))) (i + 1)
      share-next ys kept is = record {
        written = written_next h.written l ys kept (is ∙ ap₂ padded (piece_long h.written l) polynomial-is);
      }
        where
          polynomial-is : get_or vs i 0 ∷ take t (drop (at + step * i) (numbers coins)) ≡ get_or (shared_by t step vs (drop at (numbers coins))) i []
          polynomial-is =
              sym (shared_at t step vs (drop at (numbers coins)) i l
              ∙ ap (λ (r : List ℕ). get_or vs i 0 ∷ take t r) (drop-drop (step * i) at (numbers coins)))

    pub all-shared : length vs ≤ i → d ≡ flat_map (padded k) (shared_by t step vs (drop at (numbers coins)))
    all-shared l =
        written_done _ k (length vs) d₀ d i l h.written
        ∙ ap (rows_of (polynomial_at t step k vs (drop at (numbers coins)))) (sym (length_shared t step vs (drop at (numbers coins))))
        ∙ rows-flat (padded k) [] (shared_by t step vs (drop at (numbers coins)))

pub ruleset sharing = (rules, share-none, share-room, share-end-fits, share-start-fits, share-wide, share-coins, share-step-fits, share-from-fits, share-place-fits, share-next, all-shared)

-- ---- the count of coefficients
pub terms_few : (t : ℕ) → t < 4 → t + 1 ≡ terms t
unfolding terms
terms_few t l = rw (lt-ltb t 4 l) (omega arith)

pub terms_many : (t : ℕ) → 4 ≤ t → t < 8 → 8 ≡ terms t
unfolding terms
terms_many t l m = rw (le-ltb t 4 l, lt-ltb t 8 m)

pub terms_most : (t : ℕ) → 4 ≤ t → 8 ≤ t → 16 ≡ terms t
unfolding terms
terms_most t l m = rw (le-ltb t 4 l, le-ltb t 8 m)

pub ruleset counting-terms = (rules, terms_few, terms_many, terms_most)

-- its bounds
module _ (t k : ℕ) (e : k ≡ terms t) where
  record Counted : Type 0 where
    most : k ≤ 16
    small : t < 8 → k ≤ 8
    above : t < 16 → t < k

  terms_by : (b c : Bool) → ltb t 4 ≡ b → ltb t 8 ≡ c → Counted
  terms_by true c l m =
      let q : k ≡ t + 1 = e ∙ sym (terms_few t (ltb-true t 4 l)) in
      let few : t < 4 = ltb-true t 4 l in
      record { most = omega arith; small = λ s. omega arith; above = λ s. omega arith }
  terms_by false true l m =
      let q : k ≡ 8 = e ∙ sym (terms_many t (ltb-false t 4 l) (ltb-true t 8 m)) in
      record { most = omega arith; small = λ s. omega arith; above = λ s. omega (arith, ltb-true t 8 m) }
  terms_by false false l m =
      let q : k ≡ 16 = e ∙ sym (terms_most t (ltb-false t 4 l) (ltb-false t 8 m)) in
      record { most = omega arith; small = λ s. omega (arith, ltb-false t 8 m); above = λ s. omega arith }

  pub terms_within : k ≤ 16
  terms_within = (terms_by (ltb t 4) (ltb t 8) refl refl).most

  pub terms_small : t < 8 → k ≤ 8
  terms_small = (terms_by (ltb t 4) (ltb t 8) refl refl).small

  pub terms_above : t < 16 → t < k
  terms_above = (terms_by (ltb t 4) (ltb t 8) refl refl).above

  -- more than four are eight
  pub terms_eight : t < 8 → (k ≡ 1 → ⊥) → (k ≡ 2 → ⊥) → (k ≡ 3 → ⊥) → (k ≡ 4 → ⊥) → 8 ≡ terms t
  terms_eight s a b c d = terms_many t (by (ltb t 4) refl) s
    where
      by : (m : Bool) → ltb t 4 ≡ m → 4 ≤ t
      by true l = let q : k ≡ t + 1 = e ∙ sym (terms_few t (ltb-true t 4 l)) in omega (arith, ltb-true t 4 l, a, b, c, d)
      by false l = ltb-false t 4 l
