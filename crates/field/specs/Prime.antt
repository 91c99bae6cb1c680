-- Primes by trial division, and inverses modulo a prime.
use Rattle.std.specs.Prelude.{Option, Some, None, ◌≢◌, Bool, true, false, ◌&&◌, cond, ℕ, zero, suc, ◌*◌, ◌/◌, ◌%◌, ◌<◌, ltb, eqb}
use Rattle.field.specs.Mod.{mul, sub}

-- trial division: the first of d, d + 1, .. that divides p, or none once the square passes p; at most n are tried
unfoldable pub divisor_from : ℕ → ℕ → ℕ → Option ℕ
divisor_from zero d p = None
divisor_from (suc n) d p = cond (ltb p (d * d)) None (cond (eqb (p % d) 0) (Some d) (divisor_from n (suc d) p))

unfoldable pub divisor_of : ℕ → Option ℕ
divisor_of p = divisor_from p 2 p

abbrev pub is_nothing : Option ℕ → Bool
is_nothing (Some d) = false
is_nothing None = true

unfoldable pub is_prime : ℕ → Bool
is_prime p = ltb 1 p && is_nothing (divisor_of p)

-- what the proofs use of a prime: it is above 1, and nothing strictly between divides it
pub record Prime (p : ℕ) : Type 0 where
  pub above : 1 < p
  pub undivided_by : (d : ℕ) → 1 < d → d < p → p % d ≢ 0

-- ---- the inverse: p = (p / a)·a + p % a, so 1 / a = -(p / a) / (p % a)
unfoldable pub invert : ℕ → ℕ → ℕ → ℕ
invert p zero a = a
invert p (suc k) a = elim (ltb 1 a) [ true ↦ sub p 0 (mul p (p / a) (invert p k (p % a))) | false ↦ a ]

unfoldable pub inv : ℕ → ℕ → ℕ
inv p a = invert p p (a % p)
