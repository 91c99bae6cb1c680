-- The field type: its constructor, and what its methods take and give.
use Rattle.std.specs.Prelude.{Option, Some, None, ◌≡◌, Bool, ◌&&◌, cond, ℕ, ◌-◌, ◌*◌, ◌/◌, ◌<◌, leb, ltb}
use Rattle.field.specs.Prime.{is_prime, Prime}

-- a prime has at most 31 bits
abbrev pub field_limit : ℕ
field_limit = 2147483648

-- the modulus of the field of p, which has to be a prime below the limit
unfoldable pub made_of : ℕ → Option ℕ
made_of p = cond (ltb p field_limit && is_prime p) (Some p) None

-- what every field's modulus is: a prime below the limit. A list of its elements is a list xs with `all_below p xs ≡ true`
pub record Ready (p : ℕ) : Type 0 where
  pub prime : Prime p
  pub small : p < field_limit

-- two elements of the field of p
pub record Below2 (p a b : ℕ) : Type 0 where
  pub left : a < p
  pub right : b < p

-- the result r is v, and an element
pub record Is (p v r : ℕ) : Type 0 where
  pub eq : r ≡ v
  pub lt : r < p

-- ---- sums of products, as the code works them
-- whether p has more than two bytes
unfoldable pub is_wide : ℕ → Bool
is_wide p = leb 65536 p

-- a sum x as it is kept: for a wide prime 2^32·p less, once it is as large
unfoldable pub kept : ℕ → ℕ → ℕ
kept p x = cond (is_wide p && leb (4294967296 * p) x) (x - 4294967296 * p) x

-- a sum of k products that is kept so is at most this
unfoldable pub sum_bound : ℕ → ℕ → ℕ
sum_bound p k = cond (is_wide p) (4294967296 * p) (k * (p * p))

-- 2^36 / p, for a wide prime 2^48 / p
unfoldable pub reciprocal : ℕ → ℕ
reciprocal p = cond (is_wide p) (281474976710656 / p) (68719476736 / p)
