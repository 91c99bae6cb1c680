-- Totals of lists, and the place of the greatest number.
--     total-append, total_plus, total-scale, total_same     totals by parts
--     total_more, total_less, entry-total                   one entry changed
--     Best, best-greatest                                   the greatest, the lowest among equals
-- Assumes nothing.
use Prim.Native.Nat.{ℕ, zero, suc, ◌+◌, ◌*◌, ◌≤◌, ◌<◌}
use mathlib.Core.Path.{◌≡◌, refl, sym, ap, ◌∙◌}
use mathlib.Core.Bool.{Bool, true, false, cond}
use mathlib.Core.List.{List, [], ◌∷◌, ◌++◌}
use native.Mathlib.Nat.{mul-zero, zero-mul, suc-mul, mul-add}
use native.Mathlib.Omega.{arith}
use borrow.Author.Tests.{ltb-true, ltb-false, eqb-true, eqb-false}
use lib.Dec.{ltb, eqb}
use lib.ListN.{length, get_or, set}
use Rattle.numbers.specs.Tables.{tab, total}
use Rattle.numbers.proofs.Tables.{tab-snoc}
use Rattle.charge_laws.specs.Charges.{greater_at, greatest_from, greatest}

-- ---- by parts
pub total-append : (xs ys : List ℕ) → total (xs ++ ys) ≡ total xs + total ys
unfolding total
total-append [] ys = omega arith
total-append (x ∷ xs) ys = omega (arith, total-append xs ys)

pub total_plus : (f g : ℕ → ℕ) (n : ℕ) → total (tab (λ k. f k + g k) n) ≡ total (tab f n) + total (tab g n)
unfolding total tab
total_plus f g zero = refl
total_plus f g (suc n) = omega (arith, total_plus (λ k. f (suc k)) (λ k. g (suc k)) n)

pub total-scale : (a : ℕ) (f : ℕ → ℕ) (n : ℕ) → total (tab (λ k. a * f k) n) ≡ a * total (tab f n)
unfolding total tab
total-scale a f zero = sym (mul-zero a)
total-scale a f (suc n) = omega (arith, total-scale a (λ k. f (suc k)) n, mul-add a (f 0) (total (tab (λ k. f (suc k)) n)))

-- all entries the same
pub total_same : (f : ℕ → ℕ) (c n : ℕ) → ((k : ℕ) → k < n → f k ≡ c) → total (tab f n) ≡ n * c
unfolding total tab
total_same f c zero h = sym (zero-mul c)
total_same f c (suc n) h = omega (arith, h 0 (omega arith), total_same (λ k. f (suc k)) c n (λ k l. h (suc k) (omega arith)), suc-mul n c)

pub total_next : (f : ℕ → ℕ) (n : ℕ) → total (tab f (suc n)) ≡ total (tab f n) + f n
unfolding total
total_next f n = ap total (tab-snoc f n) ∙ total-append (tab f n) (f n ∷ []) ∙ omega arith

-- the first entries have no more than all
pub total_front : (f : ℕ → ℕ) (i n : ℕ) → i ≤ n → total (tab f i) ≤ total (tab f n)
unfolding total tab
total_front f zero n l = omega arith
total_front f (suc i) zero l = absurd (omega arith)
total_front f (suc i) (suc n) l = omega (arith, total_front (λ k. f (suc k)) i n (omega arith))

-- ---- one entry
pub total_more : (xs : List ℕ) (k : ℕ) → k < length xs → total (set xs k (suc (get_or xs k 0))) ≡ suc (total xs)
unfolding total
total_more [] k l = absurd (omega arith)
total_more (x ∷ xs) zero l = omega arith
total_more (x ∷ xs) (suc k) l = let h = total_more xs k (omega arith) in omega (arith, h)

pub total_less : (xs : List ℕ) (k : ℕ) → total (set xs k 0) + get_or xs k 0 ≡ total xs
unfolding total
total_less [] k = refl
total_less (x ∷ xs) zero = omega arith
total_less (x ∷ xs) (suc k) = omega (arith, total_less xs k)

pub entry-total : (xs : List ℕ) (k : ℕ) → get_or xs k 0 ≤ total xs
entry-total xs k = omega (arith, total_less xs k)

pub total-none : (xs : List ℕ) → ((k : ℕ) → k < length xs → get_or xs k 0 ≤ 0) → total xs ≡ 0
unfolding total
total-none [] h = refl
total-none (x ∷ xs) h = omega (arith, h 0 (omega arith), total-none xs (λ k l. h (suc k) (omega arith)))

pub nonempty : (es : List ℕ) → 1 ≤ total es → 1 ≤ length es
unfolding total
nonempty [] l = absurd (omega arith)
nonempty (e ∷ es) l = omega arith

-- ---- the greatest: of the places below i it is at b
pub record Best (rs : List ℕ) (b i : ℕ) : Type 0 where
  pub low : b ≤ i
  pub most : (j : ℕ) → j < i → get_or rs j 0 ≤ get_or rs b 0
  pub first : (j : ℕ) → j < i → get_or rs j 0 ≡ get_or rs b 0 → b ≤ j

-- two places are one or not
pub same_or : {A : Type 0} (i j : ℕ) → (i ≡ j → A) → ((i ≡ j → ⊥) → A) → A
same_or {A = A} i j one two = by (eqb i j) refl
  where
    by : (b : Bool) → eqb i j ≡ b → A
    by true e = one (eqb-true i j e)
    by false e = two (eqb-false i j e)

module _ (rs : List ℕ) where
  best_none : Best rs 0 0
  best_none = record { low = omega arith; most = λ j l. absurd (omega arith); first = λ j l e. absurd (omega arith) }

  module _ (b i : ℕ) (h : Best rs b i) where
    best-new : get_or rs b 0 < get_or rs i 0 → Best rs i (suc i)
    best-new l = record {
      low = omega arith;
      most = λ j q. same_or j i (λ e. rw e (omega arith)) (λ ne. omega (arith, h.most j (omega (arith, ne))));
      first = λ j q e. same_or j i (λ s. omega (arith, s)) (λ ne. absurd (omega (arith, h.most j (omega (arith, ne)))));
    }

    best-old : get_or rs i 0 ≤ get_or rs b 0 → Best rs b (suc i)
    best-old l = record {
      low = omega (arith, h.low);
      most = λ j q. same_or j i (λ e. rw e l) (λ ne. h.most j (omega (arith, ne)));
      first = λ j q e. same_or j i (λ s. omega (arith, s, h.low)) (λ ne. h.first j (omega (arith, ne)) e);
    }

    best-next : Best rs (greater_at rs b i) (suc i)
    unfolding greater_at
    best-next = by (ltb (get_or rs b 0) (get_or rs i 0)) refl
      where
        by : (t : Bool) → ltb (get_or rs b 0) (get_or rs i 0) ≡ t → Best rs (cond t i b) (suc i)
        by true e = best-new (ltb-true (get_or rs b 0) (get_or rs i 0) e)
        by false e = best-old (ltb-false (get_or rs b 0) (get_or rs i 0) e)

  best_from : (m b i : ℕ) → Best rs b i → Best rs (greatest_from m rs b i) (m + i)
  unfolding greatest_from
  best_from zero b i h = let e : 0 + i ≡ i = omega arith in rw e h
  best_from (suc m) b i h =
      let e : m + suc i ≡ suc m + i = omega arith in
      rw (← e) (best_from m (greater_at rs b i) (suc i) (best-next b i h))

  pub best-greatest : Best rs (greatest rs) (length rs)
  unfolding greatest
  best-greatest = let e : length rs + 0 ≡ length rs = omega arith in rw e at (best_from (length rs) 0 0 best_none)

-- the place is one of the list
pub greater_in : (n : ℕ) (rs : List ℕ) (b i : ℕ) → b < n → i < n → greater_at rs b i < n
unfolding greater_at
greater_in n rs b i l m = either (ltb (get_or rs b 0) (get_or rs i 0))
  where
    either : (x : Bool) → cond x i b < n
    either true = m
    either false = l

pub greatest_from_lem : (n m : ℕ) (rs : List ℕ) (b i : ℕ) → b < n → m + i ≤ n → greatest_from m rs b i < n
unfolding greatest_from
greatest_from_lem n zero rs b i l h = l
greatest_from_lem n (suc m) rs b i l h = greatest_from_lem n m rs (greater_at rs b i) (suc i) (greater_in n rs b i l (omega arith)) (omega arith)

pub greatest_in : (rs : List ℕ) → 1 ≤ length rs → greatest rs < length rs
unfolding greatest
greatest_in rs l = greatest_from_lem (length rs) (length rs) rs 0 0 l (omega arith)
