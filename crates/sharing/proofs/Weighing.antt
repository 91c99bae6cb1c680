-- The code of weights: the product of the numerators, and one inverse of the product of the denominators.
--     inv-mul                 the inverse of a product
--     factor-apart            a factor is its numerator by its denominator
--     Weighed, weighing       the loop over the points
-- Assumes nothing.
use mathlib.Core.Path.{◌≡◌, refl, sym, ap, ◌∙◌}
use mathlib.Core.Logic.{◌≢◌}
use mathlib.Core.Bool.{Bool, true, false, cond}
use mathlib.Core.List.{List, [], ◌∷◌}
use Prim.Native.Nat.{ℕ, ◌+◌, ◌%◌, ◌≤◌, ◌<◌}
use native.Mathlib.Numerals.{add-one}
use native.Mathlib.Nat.{mod-mod}
use native.Mathlib.Omega.{arith}
use borrow.Author.Rules.{rules}
use borrow.Author.Tests.{eq-eqb, ne_eqb, eqb-true, eqb-false}
use lib.Dec.{eqb}
use lib.ListN.{length, drop, get_or, drop_of_length-le}
use lib.Seq.{drop-cons}
use Rattle.numbers.proofs.Fills.{Filled, filling}
use Rattle.field.specs.Mod.{mul, sub}
use Rattle.field.specs.Prime.{Prime, inv}
use Rattle.field.specs.Field.{Is, Ready}
use Rattle.field.proofs.Solve.{Canon, below, zero_canon, mul_canon, #, quote, solve, combine}
use Rattle.field.proofs.Inverse.{inv_small, inv-law, inv_unique, no-zero-divisor, pos, one-canon}
use Rattle.sharing_laws.specs.Interp.{factor, apart, weight, weights}
use Rattle.sharing.proofs.Coding.{entry_below, filled-map}

-- ---- the inverse of a product
inv-mod : (p a : ℕ) → inv p (a % p) ≡ inv p a
unfolding inv
inv-mod p a = rw (mod-mod a p)

module _ {p : ℕ} (prime : Prime p) where
  inv-zero : (a : ℕ) → a % p ≡ 0 → inv p a ≡ 0
  inv-zero a z = sym (inv-mod p a) ∙ ap (inv p) z ∙ inv_small p 0 (omega arith) (pos prime)

  mul-zero_left : (a b : ℕ) → a % p ≡ 0 → mul p a b ≡ 0
  mul-zero_left a b z = combine p b (search quote) zero_canon z (solve p (search (quote, # a, # b)) (omega arith))

  mul-zero_right : (a b : ℕ) → b % p ≡ 0 → mul p a b ≡ 0
  mul-zero_right a b z = combine p a (search quote) zero_canon z (solve p (search (quote, # a, # b)) (omega arith))

  inv_nonzero : (a b : ℕ) → a % p ≢ 0 → b % p ≢ 0 → inv p (mul p a b) ≡ mul p (inv p a) (inv p b)
  inv_nonzero a b na nb = sym (inv_unique prime (mul p a b) (mul p (inv p a) (inv p b)) whole one) ∙ (mul_canon (inv p a) (inv p b)).canon
    where
      whole : mul p a b % p ≢ 0
      whole z = nb (no-zero-divisor prime a b na (sym (mul_canon a b).canon ∙ z))

      one : mul p (mul p a b) (mul p (inv p a) (inv p b)) ≡ 1
      one =
          combine p (mul p b (inv p b)) (search quote) (one-canon prime) (inv-law prime a na)
          (combine p 1 (search quote) (search quote) (inv-law prime b nb) (solve p (search (quote, # a, # b, # (inv p a), # (inv p b)) depth 9) (omega arith)))

  -- it is the product of the inverses, also where a factor is 0
  inv_by : (a b : ℕ) (s t : Bool) → eqb (a % p) 0 ≡ s → eqb (b % p) 0 ≡ t → inv p (mul p a b) ≡ mul p (inv p a) (inv p b)
  inv_by a b true t ea eb = let z : a % p ≡ 0 = eqb-true (a % p) 0 ea in rw (mul-zero_left a b z, inv-zero a z) (inv_small p 0 (omega arith) (pos prime) ∙ solve p (search (quote, # (inv p b))) (omega arith))
  inv_by a b false true ea eb = let z : b % p ≡ 0 = eqb-true (b % p) 0 eb in rw (mul-zero_right a b z, inv-zero b z) (inv_small p 0 (omega arith) (pos prime) ∙ solve p (search (quote, # (inv p a))) (omega arith))
  inv_by a b false false ea eb = inv_nonzero a b (eqb-false (a % p) 0 ea) (eqb-false (b % p) 0 eb)

  pub inv-mul : (a b : ℕ) → inv p (mul p a b) ≡ mul p (inv p a) (inv p b)
  inv-mul a b = inv_by a b (eqb (a % p) 0) (eqb (b % p) 0) refl refl

  -- ---- a factor
  factor_by : (z x y : ℕ) (t : Bool) → cond t 1 (mul p (sub p z y) (inv p (sub p x y))) ≡ mul p (cond t 1 (sub p z y)) (inv p (cond t 1 (sub p x y)))
  factor_by z x y true = rw (inv_small p 1 (omega arith) prime.above) (solve p (search (quote, one-canon prime)) (omega arith))
  factor_by z x y false = refl

  pub factor-apart : (z x y : ℕ) → factor p z x y ≡ mul p (apart p z x y) (inv p (apart p x x y))
  unfolding factor apart
  factor-apart z x y = factor_by z x y (eqb x y)

pub apart_self : (p a x y : ℕ) → x ≡ y → 1 < p → Is p (apart p a x y) 1
unfolding apart
apart_self p a x y e h = record { eq = rw (eq-eqb x y e); lt = h }

pub apart_other : (p a x y r : ℕ) → (x ≡ y → ⊥) → Is p (sub p a y) r → Is p (apart p a x y) r
unfolding apart
apart_other p a x y r ne i = record { eq = rw (ne_eqb x y ne) i.eq; lt = i.lt }

-- ---- the loop: what is gathered, times what is left from j on, is the weight
pub record Weighed (p z : ℕ) (ys : List ℕ) (x above below j : ℕ) : Type 0 where
  pub within : j ≤ length ys
  pub over : above < p
  pub under : below < p
  pub whole : mul p (mul p above (inv p below)) (weight p z (drop j ys) x) ≡ weight p z ys x

pub weight_canon : {p : ℕ} → Prime p → (z : ℕ) (ys : List ℕ) (x : ℕ) → Canon p (weight p z ys x)
unfolding weight
weight_canon prime z [] x = one-canon prime
weight_canon prime z (y ∷ ys) x = mul_canon _ _

module _ (p z : ℕ) (ys : List ℕ) (x : ℕ) (r : Ready p) where
  pub weigh-none : Weighed p z ys x 1 1 0
  weigh-none = record {
    within = omega arith;
    over = r.prime.above;
    under = r.prime.above;
    whole = rw (inv_small p 1 (omega arith) r.prime.above) (solve p (search (quote, weight_canon r.prime z ys x, # (weight p z ys x)) depth 7) (omega arith));
  }

  pub weigh_more : (above below j a b above' below' : ℕ) → Weighed p z ys x above below j → j < length ys → Is p (apart p z x (get_or ys j 0)) a → Is p (apart p x x (get_or ys j 0)) b → Is p (mul p above a) above' → Is p (mul p below b) below' → Weighed p z ys x above' below' (j + 1)
  unfolding weight
  weigh_more above below j a b above' below' w l ea eb eu ed = record {
    within = omega arith;
    over = eu.lt;
    under = ed.lt;
    whole =
        rw (eu.eq, ed.eq, inv-mul r.prime below b, ea.eq, eb.eq)
        (solve p (search (quote, # above, # (inv p below), # (apart p z x (get_or ys j 0)), # (inv p (apart p x x (get_or ys j 0))), # (weight p z (drop (j + 1) ys) x)) depth 9) (omega arith)
        ∙ sym (ap (mul p (mul p above (inv p below))) step) ∙ w.whole);
  }
    where
      step : weight p z (drop j ys) x ≡ mul p (mul p (apart p z x (get_or ys j 0)) (inv p (apart p x x (get_or ys j 0)))) (weight p z (drop (j + 1) ys) x)
      step = rw (drop-cons ys j 0 l, add-one, factor-apart r.prime z x (get_or ys j 0))

  pub weigh-whole : (above below j v w : ℕ) → Weighed p z ys x above below j → length ys ≤ j → Is p (inv p below) v → Is p (mul p above v) w → Is p (weight p z ys x) w
  unfolding weight
  weigh-whole above below j v w h l ev ew = record { eq = ew.eq ∙ rw ev.eq (solve p (search (quote, # above, # (inv p below))) (omega arith) ∙ rw (drop_of_length-le ys {i = j} l) at h.whole); lt = ew.lt }

pub ruleset weighing = (rules, entry_below, apart_self, apart_other, weigh-none, weigh_more, weigh-whole)

-- ---- all weights
pub filled-weights : (p z : ℕ) (xs d₀ d : List ℕ) (i : ℕ) → length d₀ ≡ length xs → length xs ≤ i → Filled (λ k. weight p z xs (get_or xs k 0)) d₀ d i → d ≡ weights p z xs
unfolding weights
filled-weights p z xs d₀ d i e l h = filled-map (weight p z xs) xs d₀ d i e l h

-- As it is: answers name this set, since the check leaves their goals open by `using` alone.
pub ruleset weightings = (filling, filled-weights)
