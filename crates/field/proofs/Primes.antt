-- What trial division shows.
use Rattle.std.proofs.Common.{Option, Some, None}
use mathlib.Core.Path.{◌≡◌, refl, sym, ap, ◌∙◌}
use mathlib.Core.Logic.{◌≢◌, ◌⊎◌, inl, inr}
use native.Mathlib.Decide.{dec_le}
use mathlib.Core.Bool.{Bool, true, false, ◌&&◌}
use Prim.Native.Nat.{ℕ, zero, suc, ◌+◌, ◌*◌, ◌/◌, ◌%◌, ◌≤◌, ◌<◌}
use native.Mathlib.Nat.{zero-mul, lt_of_mul-lt-mul_right, mul-le-mul_left, mul-le-mul_right, eq-or-lt_of_le, div-add-mod', mul-le-mul, mul-mod_left}
use native.Mathlib.Omega.{arith}
use borrow.Author.Rules.{rules}
use borrow.Author.Tests.{ltb-true, ltb-false, eqb-true, eqb-false, lt-ltb, le-ltb, eq-eqb, ne_eqb}
use lib.Dec.{T, ltb, eqb, ltb→lt, lt→ltb}
use Rattle.field.specs.Prime.{divisor_from, divisor_of, is_nothing, is_prime, Prime}

-- ---- one candidate: the square passes p, it divides p, or the search goes on
pub divisor-past : (n d p : ℕ) → p < d * d → divisor_from n d p ≡ None
unfolding divisor_from
divisor-past zero d p h = refl
divisor-past (suc n) d p h = rw (lt-ltb p (d * d) h)

pub divisor_here : (n d p : ℕ) → d * d ≤ p → p % d ≡ 0 → divisor_from (suc n) d p ≡ Some d
unfolding divisor_from
divisor_here n d p h e = rw (le-ltb p (d * d) h, eq-eqb (p % d) 0 e)

pub divisor_later : (n d p : ℕ) → d * d ≤ p → p % d ≢ 0 → divisor_from (suc n) d p ≡ divisor_from n (suc d) p
unfolding divisor_from
divisor_later n d p h e = rw (le-ltb p (d * d) h, ne_eqb (p % d) 0 e)

-- ---- what is found, of all numbers from d on: the least divisor of p whose square does not pass p
pub record Least (d p e : ℕ) : Type 0 where
  pub from : d ≤ e
  pub square : e * e ≤ p
  pub divides : p % e ≡ 0
  pub least : (c : ℕ) → d ≤ c → c < e → p % c ≢ 0

widen : (d p e : ℕ) → p % d ≢ 0 → Least (suc d) p e → Least d p e
widen d p e ne l = record { from = omega (arith, l.from); square = l.square; divides = l.divides; least = λ c lo hi. pick c hi (eq-or-lt_of_le lo) }
  where
    pick : (c : ℕ) → c < e → (d ≡ c) ⊎ (d < c) → p % c ≢ 0
    pick c hi (inl q) z = ne (ap (λ n. p % n) q ∙ z)
    pick c hi (inr h) z = l.least c h hi z

-- the three ways at a candidate
data Case (n d p : ℕ) : Type 0 where
  past : p < d * d → Case n d p
  here : d * d ≤ p → p % d ≡ 0 → Case n d p
  later : d * d ≤ p → p % d ≢ 0 → Case n d p

case : (n d p : ℕ) → Case n d p
case n d p = pick (ltb p (d * d)) (eqb (p % d) 0) refl refl
  where
    pick : (b c : Bool) → ltb p (d * d) ≡ b → eqb (p % d) 0 ≡ c → Case n d p
    pick true c e q = past (ltb-true p (d * d) e)
    pick false true e q = here (ltb-false p (d * d) e) (eqb-true (p % d) 0 q)
    pick false false e q = later (ltb-false p (d * d) e) (eqb-false (p % d) 0 q)

differ : {d : ℕ} {o : Option ℕ} → o ≡ Some d → o ≡ None → ⊥
differ p q = let z : ◌≡◌ {A = ℕ} 0 1 = cc in omega arith

found_from : (n d p e : ℕ) → divisor_from n d p ≡ Some e → Least d p e
unfolding divisor_from
found_from zero d p e h = absurd (differ h refl)
found_from (suc n) d p e h = step (found_from n (suc d) p e) (case n d p)
  where
    step : (divisor_from n (suc d) p ≡ Some e → Least (suc d) p e) → Case n d p → Least d p e
    step next (past l) = absurd (differ h (divisor-past (suc n) d p l))
    step next (here s z) =
        let q : ◌≡◌ {A = Option ℕ} (Some d) (Some e) = sym (divisor_here n d p s z) ∙ h in
        let same : d ≡ e = cc in
        rw (← same) (record { from = omega arith; square = s; divides = z; least = λ c lo hi. omega arith })
    step next (later s ne) = widen d p e ne (next (sym (divisor_later n d p s ne) ∙ h))

-- none is found: none of the n candidates from d on whose square does not pass p divides p
nothing_from : (n d p : ℕ) → divisor_from n d p ≡ None → (e : ℕ) → d ≤ e → e < d + n → e * e ≤ p → p % e ≢ 0
nothing_from zero d p h e le lt sq z = omega arith
nothing_from (suc n) d p h e le lt sq z = step (λ h' l. nothing_from n (suc d) p h' e l (omega arith) sq z) (case n d p) (eq-or-lt_of_le le)
  where
    step : (divisor_from n (suc d) p ≡ None → d < e → ⊥) → Case n d p → (d ≡ e) ⊎ (d < e) → ⊥
    step next (past l) _ = omega (arith, mul-le-mul le le)
    step next (here s y) _ = differ (divisor_here n d p s y) h
    step next (later s ne) (inl q) = ne (ap (λ k. p % k) q ∙ z)
    step next (later s ne) (inr l) = next (sym (divisor_later n d p s ne) ∙ h) l

-- what `divisor_of` says
pub found_least : (p d : ℕ) → divisor_of p ≡ Some d → Least 2 p d
unfolding divisor_of
found_least p d h = found_from p 2 p d h

pub nothing_divides : (p : ℕ) → divisor_of p ≡ None → (e : ℕ) → 1 < e → e * e ≤ p → p % e ≢ 0
unfolding divisor_of
nothing_divides p h e lo sq = nothing_from p 2 p h e lo (omega (arith, mul-le-mul_right e lo)) sq

-- of two factors of p one has a square of at most p, so it is enough that none such divides
prime_by : (p : ℕ) → 1 < p → ((e : ℕ) → 1 < e → e * e ≤ p → p % e ≢ 0) → Prime p
prime_by p above none = record { above = above; undivided_by = λ d lo hi z. factor d (p / d) lo hi (omega (arith, div-add-mod' p d)) (dec_le (d * d) p) }
  where
    divides : (d q : ℕ) → 1 < d → q * d ≡ p → d * d ≤ p → ⊥
    divides d q lo e sq = none d lo sq (rw (← e) (mul-mod_left q d))

    factor : (d q : ℕ) → 1 < d → d < p → q * d ≡ p → Dec (d * d ≤ p) → ⊥
    factor d q lo hi e (yes sq) = divides d q lo e sq
    factor d zero lo hi e (no sq) = omega (arith, zero-mul d)
    factor d (suc zero) lo hi e (no sq) = omega arith
    factor d (suc (suc q)) lo hi e (no sq) =
        let lt : suc (suc q) < d = lt_of_mul-lt-mul_right d (omega arith) in
        divides (suc (suc q)) d (omega arith) (omega arith) (omega (arith, mul-le-mul_left {m = suc (suc q)} {n = d} (suc (suc q)) (omega arith)))

-- ---- what `is_prime` says
and_split : (a b : Bool) → T (a && b) → T a × T b
and_split true b t = (tt, t)
and_split false b t = absurd t

and_join : (a b : Bool) → T a → T b → T (a && b)
and_join true b s t = t
and_join false b s t = s

is-nothing : (o : Option ℕ) → T (is_nothing o) → o ≡ None
is-nothing (Some d) t = absurd t
is-nothing None t = refl

pub prime_sound : (p : ℕ) → T (is_prime p) → Prime p
unfolding is_prime
prime_sound p t =
    let parts : T (ltb 1 p) × T (is_nothing (divisor_of p)) = and_split (ltb 1 p) (is_nothing (divisor_of p)) t in
    prime_by p (ltb→lt 1 p parts.0) (nothing_divides p (is-nothing (divisor_of p) parts.1))

pub prime_complete : (p : ℕ) → Prime p → T (is_prime p)
unfolding is_prime
prime_complete p prime = and_join (ltb 1 p) (is_nothing (divisor_of p)) (lt→ltb 1 p prime.above) (none (divisor_of p) refl)
  where
    none : (o : Option ℕ) → divisor_of p ≡ o → T (is_nothing o)
    none None e = tt
    none (Some d) e =
        let l : Least 2 p d = found_least p d e in
        absurd (prime.undivided_by d l.from (omega (arith, l.square, mul-le-mul_right d l.from)) l.divides)

-- ---- the answers of `is_prime`
pub small_not_prime : (p : ℕ) → p < 2 → false ≡ is_prime p
unfolding is_prime
small_not_prime p lt = rw (le-ltb 1 p (omega arith))

pub found_not_prime : (p d : ℕ) (o : Option ℕ) → o ≡ divisor_of p → o ≡ Some d → false ≡ is_prime p
unfolding is_prime
found_not_prime p d o e f = rw (← e, f) (pick (ltb 1 p))
  where
    pick : (b : Bool) → false ≡ (b && false)
    pick true = refl
    pick false = refl

pub nothing_prime : (p : ℕ) (o : Option ℕ) → 2 ≤ p → o ≡ divisor_of p → o ≡ None → true ≡ is_prime p
unfolding is_prime
nothing_prime p o lo e f = rw (lt-ltb 1 p lo, ← e, f)

pub ruleset deciding = (rules, small_not_prime, found_not_prime, nothing_prime)
