-- Sums of dealings: the sum of the dealers' polynomials, which is dealt once.
--     total_dealt              its value at a point is the sum of the polynomials' values
--     Summing, summing         the loop over the dealings: one coefficient
--     filling_sum              the loop over the coefficients
--     summed_sharing           what closes the needs of the function that deals it
--     drawing                  a random wire's row
-- Assumes nothing.
use mathlib.Core.Path.{◌≡◌, sym, ap, ap₂, ◌∙◌, fun_ext}
use mathlib.Core.Bool.{true}
use mathlib.Core.List.{List, [], ◌∷◌, ◌++◌, map}
use Prim.Native.Nat.{ℕ, zero, suc, ◌+◌, ◌*◌, ◌/◌, ◌^◌, ◌<◌, ◌≤◌}
use native.Mathlib.Omega.{arith}
use borrow.Author.Rules.{rules}
use lib.ListN.{length, take, drop, get_or, length-take}
use lib.Seq.{drop-drop, length-take-le}
use mir.Syntax.{w64}
use mir.Val.{Fits}
use Rattle.numbers.specs.Tables.{tab}
use Rattle.numbers.specs.Bytes.{width, numbers, all_below}
use Rattle.numbers.proofs.Tables.{length-tab, tab-map, row_room}
use Rattle.numbers.proofs.Below.{all_below-tab}
use Rattle.numbers.proofs.Bytes.{numbers-length}
use Rattle.numbers.proofs.Fills.{Filled, filling, filled}
use Rattle.field.specs.Mod.{add}
use Rattle.field.specs.Field.{Is, Ready}
use Rattle.field.proofs.Solve.{canon-lt, #, quote, solve}
use Rattle.field.proofs.Inverse.{pos}
use Rattle.sharing.proofs.Coding.{entry_below}
use Rattle.sharing_laws.specs.Poly.{eval}
use Rattle.sharing_laws.specs.Basis.{sum_all}
use Rattle.sharing_laws.proofs.Polys.{eval-padded}
use Rattle.sharing_laws.proofs.Sums.{Adding, add_none, add_next, added, list_canon}
use Rattle.run_dealings.specs.Rows.{terms, shared_by, draws_of, summed_at, Coined, Spaced}
use Rattle.run_dealings.specs.Columns.{summed_coefficient, total_of}
use Rattle.run_dealings.proofs.PolynomialLaws.{padded-tab, below-cons, terms_within, terms_above}
use Rattle.run_dealings.proofs.DealingLaws.{coined_spaced, front-is, front-counted, whole_long, dealt-counted}

-- ---- the value of the sum
eval-sums : (p x k : ℕ) (A B : ℕ → ℕ) → eval p (tab (λ i. add p (A i) (B i)) k) x ≡ add p (eval p (tab A k) x) (eval p (tab B k) x)
unfolding tab eval
eval-sums p x zero A B = solve p (search quote) (omega arith)
eval-sums p x (suc k) A B =
    rw (eval-sums p x k (λ i. A (suc i)) (λ i. B (suc i)))
    (solve p (search (quote, # x, # (A 0), # (B 0), # (eval p (tab (λ i. A (suc i)) k) x), # (eval p (tab (λ i. B (suc i)) k) x))) (omega arith))

-- the coefficients of one polynomial
eval-entries : (p x k : ℕ) (f : List ℕ) → length f ≤ k → eval p (tab (λ i. get_or f i 0) k) x ≡ eval p f x
eval-entries p x k f l = ap (λ (g : List ℕ). eval p g x) (padded-tab k f l) ∙ eval-padded p k f x

eval-total : (p x k : ℕ) (F : ℕ → List ℕ) (n : ℕ) → ((d : ℕ) → length (F d) ≤ k)
    → eval p (tab (λ i. sum_all p (map (λ f. get_or f i 0) (tab F n))) k) x ≡ sum_all p (map (λ f. eval p f x) (tab F n))
unfolding tab sum_all eval
eval-total p x k F zero h = eval-entries p x k [] (omega arith)
eval-total p x k F (suc n) h =
    eval-sums p x k (λ i. get_or (F 0) i 0) (λ i. sum_all p (map (λ f. get_or f i 0) (tab (λ d. F (suc d)) n)))
    ∙ ap₂ (add p) (eval-entries p x k (F 0) (h 0)) (eval-total p x k (λ d. F (suc d)) n (λ d. h (suc d)))

pub total_dealt : (p k t step : ℕ) (vs cs : List ℕ) (x : ℕ) → t < k → eval p (total_of p k (shared_by t step vs cs)) x ≡ summed_at p (shared_by t step vs cs) x
unfolding total_of summed_coefficient shared_by summed_at
total_dealt p k t step vs cs x l =
    eval-total p x k (λ d. get_or vs d 0 ∷ take t (drop (step * d) cs)) (length vs) (λ d. omega (arith, length-take t (drop (step * d) cs)))

-- ---- the loop over the dealings: coefficient i of the first d of them is summed
abbrev pub coefficient_at : ℕ → ℕ → List ℕ → List ℕ → ℕ → ℕ → ℕ
coefficient_at t step vs cs i d = get_or (get_or vs d 0 ∷ take t (drop (step * d) cs)) i 0

pub record Summing (p t step : ℕ) (vs cs : List ℕ) (i sum d : ℕ) : Type 0 where
  pub within : d ≤ length vs
  pub adds : Adding p (coefficient_at t step vs cs i) sum d

module _ (p t step : ℕ) (vs : List ℕ) (at i : ℕ) (coins : List ℕ) where
  abbrev cs : List ℕ
  cs = drop at (numbers coins)

  pub sum_none : Ready p → Summing p t step vs cs i 0 0
  sum_none r = record { within = omega arith; adds = add_none p _ r }

  module _ (sum d : ℕ) (h : Summing p t step vs cs i sum d) where
    pub sum-below : sum < p
    sum-below = h.adds.is.lt

    module _ (l : d < length vs) (c : Spaced p t step (length vs) at (numbers coins)) where
      pub sum-coins : at + step * d + t ≤ length coins / width
      sum-coins = omega (arith, row_room step d (length vs) l, c.room, numbers-length coins)

      pub sum-step-fits : length coins < 2 ^ 64 → Fits w64 (step * d)
      sum-step-fits f = record { fits = omega (arith, sum-coins) }

      pub sum-place-fits : length coins < 2 ^ 64 → Fits w64 (at + step * d)
      sum-place-fits f = record { fits = omega (arith, sum-coins) }

      pub sum-term : Ready p → all_below p vs ≡ true → (v : ℕ) → v ≡ get_or (get_or vs d 0 ∷ take t (drop (at + step * d) (numbers coins))) i 0 → v < p
      sum-term r hv v e =
          rw e (entry_below p (get_or vs d 0 ∷ take t (drop (at + step * d) (numbers coins))) i r (below-cons p (get_or vs d 0) _ (entry_below p vs d r hv) (c.below d l)))

    pub sum-next : (v y : ℕ) → d < length vs → v ≡ get_or (get_or vs d 0 ∷ take t (drop (at + step * d) (numbers coins))) i 0 → Is p (add p sum v) y → Summing p t step vs cs i y (d + 1)
    sum-next v y l e is = record {
      within = omega arith;
      adds =
          add_next p (coefficient_at t step vs cs i) sum d h.adds v y
          (e ∙ ap (λ (r : List ℕ). get_or (get_or vs d 0 ∷ take t r) i 0) (sym (drop-drop (step * d) at (numbers coins)))) is;
    }

    pub sum_whole : length vs ≤ d → Is p (summed_coefficient p (shared_by t step vs cs) i) sum
    unfolding summed_coefficient shared_by
    sum_whole l =
        rw (tab-map (λ f. get_or f i 0) (λ d. get_or vs d 0 ∷ take t (drop (step * d) cs)) (length vs))
        (added p (coefficient_at t step vs cs i) sum d h.adds (length vs) h.within l)

-- As it is: answers name this set, since the check leaves their goals open by `using` alone.
pub ruleset summing = (rules, sum_none, sum-below, sum-coins, sum-step-fits, sum-place-fits, sum-term, sum-next, sum_whole)

-- ---- the loop over the coefficients
pub total-filled : (p : ℕ) (fs : List (List ℕ)) (d₀ d : List ℕ) (i : ℕ) → length d ≤ i → Filled (summed_coefficient p fs) d₀ d i → d ≡ total_of p (length d₀) fs
unfolding total_of
total-filled p fs d₀ d i l h = filled (summed_coefficient p fs) d₀ d i l h

pub coefficient-is : (p v y : ℕ) → Is p v y → y ≡ v
coefficient-is p v y e = e.eq

pub ruleset filling_sum = (filling, coefficient-is, total-filled)

-- ---- the sum dealt
module _ (t k : ℕ) (few : t < 16) (e : k ≡ terms t) (d ys : List ℕ) (long : length d ≡ 16) (kept : length ys ≡ length (take k d))
    (p s step : ℕ) (same : s ≡ t) (vs cs : List ℕ) (is : ys ≡ total_of p (length (take k d)) (shared_by s step vs cs)) where
  total-is : take k (ys ++ drop k d) ≡ total_of p k (shared_by s step vs cs)
  total-is =
      front-is d ys k (omega (arith, terms_within t k e)) kept ∙ is
      ∙ ap (λ (n : ℕ). total_of p n (shared_by s step vs cs)) (length-take-le k d (omega (arith, terms_within t k e)))

  pub total-below : Ready p → all_below p (take k (ys ++ drop k d)) ≡ true
  unfolding total_of summed_coefficient
  total-below r = rw total-is (all_below-tab p _ k (λ i l. canon-lt (pos r.prime) (list_canon p _)))

  pub total-shared : (n : ℕ) (points row : List ℕ) → take n row ≡ map (eval p (take k (ys ++ drop k d))) points → take n row ≡ map (summed_at p (shared_by s step vs cs)) points
  total-shared n points row r =
      r
      ∙ ap (λ (f : List ℕ). map (eval p f) points) total-is
      ∙ ap (λ (f : ℕ → ℕ). map f points) (fun_ext (λ x. total_dealt p k s step vs cs x (rw same (terms_above t k e few))))

-- As it is: answers name this set, since the check leaves their goals open by `using` alone.
pub ruleset summed_sharing = (rules, terms_within, front-counted, whole_long, dealt-counted, total-below, total-shared)

-- ---- a random wire's row
pub draws_below : (p n : ℕ) (xs : List ℕ) → Ready p → all_below p xs ≡ true → all_below p (draws_of n xs) ≡ true
unfolding draws_of
draws_below p n xs r h = all_below-tab p (λ d. get_or xs d 0) n (λ i l. entry_below p xs i r h)

module _ (p : ℕ) (xs row points : List ℕ) (is : take (length points) row ≡ draws_of (length points) xs) where
  draws-long : length (take (length points) row) ≡ length points
  unfolding draws_of
  draws-long = ap length is ∙ length-tab (λ d. get_or xs d 0) (length points)

  pub draws-spaced : (t at : ℕ) (cs : List ℕ) → Coined p t (length points) at cs → Spaced p t t (length (take (length points) row)) at cs
  draws-spaced t at cs c = rw draws-long (coined_spaced p t t (length points) at cs c (omega arith))

  pub draws-elements : Ready p → all_below p xs ≡ true → all_below p (take (length points) row) ≡ true
  draws-elements r h = rw is (draws_below p (length points) xs r h)

  pub draws-shared : (t : ℕ) (cs shares : List ℕ) → take (length points) shares ≡ map (summed_at p (shared_by t t (take (length points) row) cs)) points
      → take (length points) shares ≡ map (summed_at p (shared_by t t (draws_of (length points) xs) cs)) points
  draws-shared t cs shares e = rw is at e

pub ruleset drawing = (rules, draws-spaced, draws-elements, draws-shared)
