-- The field's constructor and methods, in the code's terms.
use Rattle.std.proofs.Common.{Option, Some, None, option_map}
use mathlib.Core.Path.{◌≡◌, refl, sym, ap, ◌∙◌}
use mathlib.Core.Bool.{Bool, true, false, ◌&&◌, cond}
use Prim.Native.Nat.{ℕ, ◌+◌, ◌-◌, ◌*◌, ◌/◌, ◌%◌, ◌^◌, ◌≤◌, ◌<◌}
use native.Mathlib.Nat.{mod-lt, div-lt_self, mod-eq_of_lt, add-mod_right}
use native.Mathlib.Omega.{arith}
use borrow.Author.Rules.{rules}
use borrow.Author.Tests.{lt-ltb, le-ltb}
use lib.Dec.{ltb}
use Rattle.field.specs.declared.Field.{Field}
use Rattle.field.specs.Mod.{add, mul, sub}
use Rattle.field.specs.Prime.{is_prime, inv}
use Rattle.field.specs.Field.{field_limit, made_of, Ready, Is}
use Rattle.field.proofs.Solve.{sub_down, sub_over, #, quote, solve}
use Rattle.field.proofs.Primes.{prime_sound}
use Rattle.field.proofs.Inverse.{inv-canon, inv_step, inv_small}
use Rattle.field.proofs.Products.{word}

-- ---- the constructor
pub made_ready : (p : ℕ) (b : Bool) → p < field_limit → b ≡ is_prime p → b ≡ true → Ready p
made_ready p b h e t = record { prime = prime_sound p (rw (sym e ∙ t) tt); small = h }

pub made_some : (p : ℕ) (b : Bool) → p < field_limit → b ≡ is_prime p → b ≡ true → Some p ≡ made_of p
unfolding made_of
made_some p b h e t = rw (lt-ltb p field_limit h, ← e, t)

pub made_above : (p : ℕ) → field_limit ≤ p → None ≡ made_of p
unfolding made_of
made_above p h = rw (le-ltb p field_limit h)

pub made_refused : (p : ℕ) (b : Bool) → p < field_limit → b ≡ is_prime p → b ≡ false → None ≡ made_of p
unfolding made_of
made_refused p b h e t = rw (lt-ltb p field_limit h, ← e, t)

pub ready_above : (p : ℕ) → Ready p → 1 < p
ready_above p r = r.prime.above

pub ready_small : (p : ℕ) → Ready p → p < field_limit
ready_small p r = r.small

pub ready_positive : (p : ℕ) → Ready p → 0 < p
ready_positive p r = let h : 1 < p = r.prime.above in omega arith

-- for a caller of `Field::new`, whose answer is o
module _ (p : ℕ) (f : Field) (o : Option Field) (new : option_map (λ (g : Field). g.p) o ≡ made_of p) (field : o ≡ Some f) where
  pub new_same : f.p ≡ p
  unfolding made_of
  new_same = pick (ltb p field_limit && is_prime p) (ap (option_map (λ (g : Field). g.p)) (sym field) ∙ new)
    where
      pick : (b : Bool) → ◌≡◌ {A = Option ℕ} (Some f.p) (cond b (Some p) None) → f.p ≡ p
      pick true e = cc
      pick false e = let z : ◌≡◌ {A = ℕ} 0 1 = cc in absurd (omega arith)

pub ruleset made_new = (rules, new_same, ready_above, ready_positive)

-- ---- the methods
pub is_element : (p x : ℕ) → 0 < p → Is p (x % p) (x % p)
is_element p x pos = record { eq = refl; lt = mod-lt x pos }

pub is_add_down : (p a b : ℕ) → a + b < p → Is p (add p a b) (a + b)
unfolding add
is_add_down p a b h = record { eq = sym (mod-eq_of_lt h); lt = h }

pub is_add_over : (p a b : ℕ) → a < p → b < p → p ≤ a + b → Is p (add p a b) (a + b - p)
unfolding add
is_add_over p a b h k o =
    let e : a + b ≡ a + b - p + p = omega arith in
    let l : a + b - p < p = omega arith in
    record { eq = sym (ap (λ (n : ℕ). n % p) e ∙ add-mod_right (a + b - p) p ∙ mod-eq_of_lt l); lt = l }

pub is_mul : (p a b : ℕ) → 1 < p → Is p (mul p a b) (a * b % p)
unfolding mul
is_mul p a b h = is_element p (a * b) (omega arith)

pub is_sub_down : (p a b : ℕ) → b ≤ a → a < p → Is p (sub p a b) (a - b)
is_sub_down p a b h k = record { eq = sym (sub_down p a b h k); lt = omega arith }

pub is_sub_over : (p a b : ℕ) → a < b → b < p → Is p (sub p a b) (a + p - b)
is_sub_over p a b h k = record { eq = sym (sub_over p a b h k); lt = omega arith }

pub product_fits : (p a b : ℕ) → p < field_limit → a < p → b < p → a * b < 2 ^ 64
product_fits p a b small l r = omega (arith, word a b (omega arith) (omega arith))

-- As it is: answers name this set, since the check leaves their goals open by `using` alone.
pub ruleset methods = (rules, product_fits, is_element, is_add_down, is_add_over, is_mul, is_sub_down, is_sub_over, made_ready, made_some, made_above, made_refused, ready_above, ready_small, ready_positive)

-- for a caller: a method's result, where its arguments are results
pub is_itself : (p a : ℕ) → a < p → Is p a a
is_itself p a h = record { eq = refl; lt = h }

module _ (p u v a b r : ℕ) where
  pub add_of : Is p (add p a b) r → Is p u a → Is p v b → Is p (add p u v) r
  add_of e l k = record { eq = e.eq ∙ rw (l.eq, k.eq); lt = e.lt }

  pub sub_of : Is p (sub p a b) r → Is p u a → Is p v b → Is p (sub p u v) r
  sub_of e l k = record { eq = e.eq ∙ rw (l.eq, k.eq); lt = e.lt }

  pub mul_of : Is p (mul p a b) r → Is p u a → Is p v b → Is p (mul p u v) r
  mul_of e l k = record { eq = e.eq ∙ rw (l.eq, k.eq); lt = e.lt }

pub ruleset combined = (rules, is_itself, add_of, sub_of, mul_of)

-- ---- the loop of `inverse`: acc / r is the inverse
pub record Inverting (p a acc r : ℕ) : Type 0 where
  pub quotient : acc < p
  pub rest : r < p
  pub same : mul p acc (inv p r) ≡ inv p a

pub inverting_start : (p a : ℕ) → 1 < p → a < p → Inverting p a 1 a
inverting_start p a above below = let pos : 0 < p = omega arith in record { quotient = above; rest = below; same = solve p (search (quote, inv-canon, # (inv p a))) (omega arith) }

pub inverting_more : (p a acc r m t : ℕ) → Is p (mul p acc m) t → Is p (sub p 0 (p / r)) m → Inverting p a acc r → 1 < r → Inverting p a t (p % r)
inverting_more p a acc r m t et em i lo =
    let pos : 0 < p = omega (arith, i.rest) in
    record {
      quotient = et.lt;
      rest = omega (arith, mod-lt p {m = r} (omega arith), i.rest);
      same = rw (et.eq, em.eq) (solve p (search (quote, # acc, # (p / r), # (inv p (p % r)))) (omega arith) ∙ ap (mul p acc) (sym (inv_step p r lo i.rest)) ∙ i.same);
    }

pub inverting_end : (p a acc r t : ℕ) → Inverting p a acc r → r ≤ 1 → Is p (mul p acc r) t → Is p (inv p a) t
inverting_end p a acc r t i le e = record { eq = e.eq ∙ ap (mul p acc) (sym (inv_small p r le i.rest)) ∙ i.same; lt = e.lt }

pub quotient_below : (p r : ℕ) → 1 < p → 1 < r → p / r < p
quotient_below p r h k = div-lt_self (omega arith) k

pub rest-falls : (p r : ℕ) → 1 < r → p % r < r
rest-falls p r h = mod-lt p (omega arith)

pub ruleset inverting = (rules, rest-falls, inverting_start, inverting_more, inverting_end, quotient_below)
