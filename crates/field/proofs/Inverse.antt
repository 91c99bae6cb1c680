-- The laws of the inverse.
use mathlib.Core.Path.{◌≡◌, refl, sym, ap, ◌∙◌}
use mathlib.Core.Logic.{◌≢◌}
use native.Mathlib.Decide.{dec_le}
use mathlib.Core.Bool.{Bool, true, false}
use Prim.Native.Nat.{ℕ, zero, suc, ◌+◌, ◌*◌, ◌/◌, ◌%◌, ◌≤◌, ◌<◌}
use native.Mathlib.Nat.{mod-lt, mod-eq_of_lt, div-add-mod'}
use native.Mathlib.Omega.{arith}
use lib.Dec.{T, ltb, ltb→lt, lt→ltb, nltb→le}
use Rattle.field.proofs.Solve.{same, same_by, turn, ◌⨾◌, plus, add_same, mul_same, Canon, below, mod_canon, sub_canon, add_canon, zero_canon, canon_same, #, quote, solve, combine}
use Rattle.field.specs.Mod.{add, mul, sub}
use Rattle.field.specs.Prime.{Prime, invert, inv}

-- ---- the inverse step by step, whatever the fuel
invert_small : (p k a : ℕ) → a ≤ 1 → invert p k a ≡ a
unfolding invert
invert_small p zero a le = refl
invert_small p (suc k) a le = pick (ltb 1 a) (λ t. omega (arith, ltb→lt 1 a t))
  where
    pick : (b : Bool) → (T b → ⊥) → elim b [ true ↦ sub p 0 (mul p (p / a) (invert p k (p % a))) | false ↦ a ] ≡ a
    pick true f = absurd (f tt)
    pick false f = refl

invert_large : (p k a : ℕ) → 1 < a → invert p (suc k) a ≡ sub p 0 (mul p (p / a) (invert p k (p % a)))
unfolding invert
invert_large p k a lo = pick (ltb 1 a) (lt→ltb 1 a lo)
  where
    pick : (b : Bool) → T b → elim b [ true ↦ sub p 0 (mul p (p / a) (invert p k (p % a))) | false ↦ a ] ≡ sub p 0 (mul p (p / a) (invert p k (p % a)))
    pick true t = refl
    pick false t = absurd t

invert_fuel : (p k j a : ℕ) → a ≤ k → a ≤ j → invert p k a ≡ invert p j a
invert_fuel p zero j a le le' = invert_small p 0 a (omega arith) ∙ sym (invert_small p j a (omega arith))
invert_fuel p (suc k) zero a le le' = invert_small p (suc k) a (omega arith) ∙ sym (invert_small p 0 a (omega arith))
invert_fuel p (suc k) (suc j) a le le' = step (λ lt. invert_fuel p k j (p % a) (omega arith) (omega arith)) (dec_le a 1)
  where
    step : (p % a < a → invert p k (p % a) ≡ invert p j (p % a)) → Dec (a ≤ 1) → invert p (suc k) a ≡ invert p (suc j) a
    step ih (yes h) = invert_small p (suc k) a h ∙ sym (invert_small p (suc j) a h)
    step ih (no h) = invert_large p k a (omega arith) ∙ ap (λ n. sub p 0 (mul p (p / a) n)) (ih (mod-lt p (omega arith))) ∙ sym (invert_large p j a (omega arith))

pub inv_small : (p a : ℕ) → a ≤ 1 → a < p → inv p a ≡ a
unfolding inv
inv_small p a le lt = invert_small p p (a % p) (omega (arith, mod-eq_of_lt lt)) ∙ mod-eq_of_lt lt

pub inv_step : (p a : ℕ) → 1 < a → a < p → inv p a ≡ sub p 0 (mul p (p / a) (inv p (p % a)))
unfolding inv
inv_step p a lo lt =
    rw (mod-eq_of_lt lt)
    (invert_fuel p p (suc a) a (omega arith) (omega arith) ∙ invert_large p a a lo
    ∙ ap (λ n. sub p 0 (mul p (p / a) n)) (invert_fuel p a p (p % a) (omega (arith, mod-lt p lo')) (omega (arith, mod-lt p lo')) ∙ ap (invert p p) (sym (mod-eq_of_lt (omega (arith, mod-lt p lo'))))))
  where
    lo' : 0 < a
    lo' = omega arith

module _ {p : ℕ} where
  invert-canon : (k a : ℕ) → Canon p a → Canon p (invert p k a)
  unfolding invert
  invert-canon zero a c = c
  invert-canon (suc k) a c = step (ltb 1 a)
    where
      step : (b : Bool) → Canon p (elim b [ true ↦ sub p 0 (mul p (p / a) (invert p k (p % a))) | false ↦ a ])
      step true = sub_canon _ _
      step false = c

  pub inv-canon : (a : ℕ) → Canon p (inv p a)
  unfolding inv
  inv-canon a = invert-canon p (a % p) (mod_canon a)

module _ {p : ℕ} (prime : Prime p) where
  pub pos : 0 < p
  pos = omega (arith, prime.above)

  pub one-canon : Canon p 1
  one-canon = below prime.above

  whole : (a : ℕ) → 0 ≡ add p (mul p (p / a) a) (p % a)
  whole a = canon_same zero_canon (add_canon _ _) (same_by {b = p / a * a + p % a} 1 0 (omega (arith, div-add-mod' p a)) ⨾ turn (add_same p _ _ ⨾ plus (mul_same p _ _) (same refl)))

  invert-step : (a i : ℕ) → mul p (p % a) i ≡ 1 → mul p a (sub p 0 (mul p (p / a) i)) ≡ 1
  invert-step a i e =
      let pos : 0 < p = pos in
      combine p 1 (search quote) one-canon e (combine p i (search quote) (search quote) (whole a) (solve p (search (quote, # (p / a), # (p % a), # a, # i) depth 9) (omega arith)))

  invert-law : (k a : ℕ) → 0 < a → a < p → a ≤ k → mul p a (invert p k a) ≡ 1
  unfolding invert
  invert-law zero a lo hi le = omega arith
  invert-law (suc k) a lo hi le = step (λ z. invert-law k (p % a) z (omega (arith, mod-lt p lo)) (omega (arith, mod-lt p lo))) (ltb 1 a) refl
    where
      step : (0 < p % a → mul p (p % a) (invert p k (p % a)) ≡ 1) → (b : Bool) → ltb 1 a ≡ b → mul p a (elim b [ true ↦ sub p 0 (mul p (p / a) (invert p k (p % a))) | false ↦ a ]) ≡ 1
      step ih true e = invert-step a (invert p k (p % a)) (ih (omega (arith, prime.undivided_by a (ltb→lt 1 a (rw e tt)) hi)))
      step ih false e =
          let one : a ≡ 1 = omega (arith, nltb→le 1 a (rw e tt)) in
          rw one (solve p (search (quote, one-canon)) (omega arith))

  -- a number that is not 0 modulo p has an inverse, and only one
  pub inv-law : (a : ℕ) → a % p ≢ 0 → mul p a (inv p a) ≡ 1
  unfolding inv
  inv-law a nz = solve p (search (quote, # a, # (invert p p (a % p)))) (omega arith) ∙ invert-law p (a % p) (omega arith) (mod-lt a pos) (omega (arith, mod-lt a pos))

  pub inv_unique : (a b : ℕ) → a % p ≢ 0 → mul p a b ≡ 1 → b % p ≡ inv p a
  inv_unique a b nz e = combine p b (mod_canon b) (inv-canon a) (sym (inv-law a nz)) (combine p (inv p a) (search quote) (search quote) e (solve p (search (quote, # a, # b, # (inv p a)) depth 9) (omega arith)))

  pub no-zero-divisor : (a b : ℕ) → a % p ≢ 0 → mul p a b ≡ 0 → b % p ≡ 0
  no-zero-divisor a b nz e = combine p b (mod_canon b) zero_canon (sym (inv-law a nz)) (combine p (inv p a) (search quote) (search quote) e (solve p (search (quote, # a, # b, # (inv p a)) depth 9) (omega arith)))

  pub mul-cancel : (d s t : ℕ) → d % p ≢ 0 → mul p d s ≡ mul p d t → s % p ≡ t % p
  mul-cancel d s t nz e =
      let i : ℕ = inv p d in
      combine p s (mod_canon s) (mod_canon t) (sym (inv-law d nz)) (combine p t (search quote) (search quote) (inv-law d nz) (combine p i (search quote) (search quote) e
      (solve p (search (quote, # d, # s, # t, # (inv p d)) depth 9) (omega arith))))

  pub sub-nonzero : (x y : ℕ) → x % p ≢ y % p → sub p x y % p ≢ 0
  sub-nonzero x y ne e = let pos : 0 < p = pos in ne (combine p 1 (mod_canon x) (mod_canon y) e (solve p (search (quote, # x, # y) depth 7) (omega arith)))
