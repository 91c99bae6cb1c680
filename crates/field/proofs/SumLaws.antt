-- Sums of products, and their remainders without a division.
--     kept_same, kept-bound                   a sum that is kept is the same modulo p, and within its bound
--     bound-low, bound-more                   its bound
--     summing                                 the needs of `add_product`
--     quotient_parts                          a quotient by the reciprocal, and what it leaves
--     reducing, reducing_twice                the needs of `reduced` and `reduced_twice`
-- Assumes nothing.
use mathlib.Core.Path.{◌≡◌, refl, sym, ap, ◌∙◌}
use mathlib.Core.Bool.{Bool, true, false, ◌&&◌, cond}
use Prim.Native.Nat.{ℕ, ◌+◌, ◌-◌, ◌*◌, ◌/◌, ◌%◌, ◌^◌, ◌≤◌, ◌<◌}
use native.Mathlib.Nat.{mul-le-mul, mul-le-mul_left, mul-le-mul_right, mod-lt, mod-eq_of_lt, div-add-mod', add-mul, add-mul-mod_self_right}
use native.Mathlib.Omega.{arith}
use borrow.Author.Rules.{rules}
use borrow.Author.Tests.{leb-true, leb-false, le-leb, lt-leb, not-true, not-false}
use lib.Dec.{leb}
use Rattle.field.specs.Field.{field_limit, Ready, Is, is_wide, kept, sum_bound, reciprocal}
use Rattle.field.proofs.Products.{word}
use Rattle.field.proofs.Solve.{Same, same, same_by}

-- ---- the two ranges of primes
pub wide_low : (p : ℕ) → is_wide p ≡ true → 65536 ≤ p
unfolding is_wide
wide_low p w = leb-true 65536 p w

pub narrow_high : (p : ℕ) → is_wide p ≡ false → p < 65536
unfolding is_wide
narrow_high p w = leb-false 65536 p w

pub wide_by : (p : ℕ) (w : Bool) → w ≡ is_wide p → w ≡ true → is_wide p ≡ true
wide_by p w e t = sym e ∙ t

pub is_wide_lem : (p : ℕ) → leb 65536 p ≡ is_wide p
unfolding is_wide
is_wide_lem p = refl

-- ---- sums that are kept
pub kept_same : (p x : ℕ) → Same p (kept p x) x
unfolding kept
kept_same p x = pick (is_wide p) (leb (4294967296 * p) x) refl
  where
    pick : (w b : Bool) → leb (4294967296 * p) x ≡ b → Same p (cond (w && b) (x - 4294967296 * p) x) x
    pick true true e = same_by 4294967296 0 (omega (arith, leb-true (4294967296 * p) x e))
    pick true false e = same refl
    pick false b e = same refl

module _ (p : ℕ) (small : p < field_limit) where
  pub bound-low : (k : ℕ) → k ≤ 65536 → sum_bound p k ≤ 4294967296 * p
  unfolding sum_bound
  bound-low k l = pick (is_wide p) refl
    where
      pick : (w : Bool) → is_wide p ≡ w → cond w (4294967296 * p) (k * (p * p)) ≤ 4294967296 * p
      pick true e = omega arith
      pick false e = omega (arith, mul-le-mul {n₁ = k} {m₁ = p * p} {n₂ = 65536} {m₂ = 65536 * p} l (mul-le-mul_right {m = p} {n = 65536} p (omega (arith, narrow_high p e))))

  pub bound-more : (k l : ℕ) → k ≤ l → sum_bound p k ≤ sum_bound p l
  unfolding sum_bound
  bound-more k l le = pick (is_wide p)
    where
      pick : (w : Bool) → cond w (4294967296 * p) (k * (p * p)) ≤ cond w (4294967296 * p) (l * (p * p))
      pick true = omega arith
      pick false = mul-le-mul_right (p * p) le

  module _ (a b : ℕ) (la : a < p) (lb : b < p) where
    square : a * b ≤ p * p
    square = mul-le-mul {n₁ = a} {m₁ = b} {n₂ = p} {m₂ = p} (omega arith) (omega arith)

    pub kept-bound : (k x : ℕ) → x ≤ sum_bound p k → kept p (x + a * b) ≤ sum_bound p (k + 1)
    unfolding kept sum_bound
    kept-bound k x l = pick (is_wide p) (leb (4294967296 * p) (x + a * b)) refl l
      where
        pick : (w c : Bool) → leb (4294967296 * p) (x + a * b) ≡ c → x ≤ cond w (4294967296 * p) (k * (p * p))
            → cond (w && c) (x + a * b - 4294967296 * p) (x + a * b) ≤ cond w (4294967296 * p) ((k + 1) * (p * p))
        pick true true e h = omega (arith, square, mul-le-mul_right {m = p} {n = 2147483648} p (omega arith))
        pick true false e h = omega (arith, leb-false (4294967296 * p) (x + a * b) e)
        pick false c e h = omega (arith, square, add-mul k 1 (p * p))

-- the code's steps
module _ (p : ℕ) (small : p < field_limit) where
  pub top-fits : 4294967296 * p < 2 ^ 64
  top-fits = omega arith

  module _ (w : Bool) (e : w ≡ is_wide p) (x a b y : ℕ) (term : y ≡ a * b) where
    pub kept-narrow : w ≡ false → x + y ≡ kept p (x + a * b)
    unfolding kept
    kept-narrow f = rw (term, ← e, f)

    pub kept_under : w ≡ true → x + y < 4294967296 * p → x + y ≡ kept p (x + a * b)
    unfolding kept
    kept_under t l = rw (← term, ← e, t, lt-leb (4294967296 * p) (x + y) l)

    pub kept-over : w ≡ true → 4294967296 * p ≤ x + y → x + y - 4294967296 * p ≡ kept p (x + a * b)
    unfolding kept
    kept-over t l = rw (← term, ← e, t, le-leb (4294967296 * p) (x + y) l)

  pub added-fits : (sum a b y : ℕ) → sum ≤ 4294967296 * p → a < p → b < p → y ≡ a * b → sum + y < 2 ^ 64
  added-fits sum a b y l la lb e = omega (arith, word a b (omega arith) (omega arith))

pub ruleset summing = (rules, not-true, not-false, is_wide_lem, top-fits, kept-narrow, kept_under, kept-over, added-fits)

-- ---- a quotient by the reciprocal
-- A·B = m·p + s, x = y·A + l and y·m = q·B + u: then q·p, times B, is less than x, times B, by u·p + y·s + l·B
quotient_parts : (p m s A B x y l q u : ℕ) → m * p + s ≡ A * B → x ≡ y * A + l → y * m ≡ q * B + u → x * B ≡ q * p * B + u * p + y * s + l * B
quotient_parts p m s A B x y l q u whole sum scaled =
    omega (arith, ap (λ (n : ℕ). n * B) sum, ap (λ (n : ℕ). y * n) whole, ap (λ (n : ℕ). n * p) scaled)

rest-is : (p x q y : ℕ) → y < p → x ≡ y + q * p → Is p (x % p) y
rest-is p x q y l e = record { eq = sym (ap (λ (n : ℕ). n % p) e ∙ add-mul-mod_self_right y q p ∙ mod-eq_of_lt l); lt = l }

pub reciprocal_narrow : (p : ℕ) → p < 65536 → 68719476736 / p ≡ reciprocal p
unfolding reciprocal is_wide
reciprocal_narrow p l = rw (lt-leb 65536 p l)

pub reciprocal_wide : (p : ℕ) → 65536 ≤ p → 281474976710656 / p ≡ reciprocal p
unfolding reciprocal is_wide
reciprocal_wide p l = rw (le-leb 65536 p l)

pub positive_above : (p : ℕ) → 1 < p → 0 < p
positive_above p h = omega arith

pub ready_above : (p : ℕ) → Ready p → 1 < p
ready_above p r = r.prime.above

pub ready_small : (p : ℕ) → Ready p → p < field_limit
ready_small p r = r.small

pub ruleset making = (rules, wide_low, narrow_high, positive_above, ready_above, ready_small, reciprocal_narrow, reciprocal_wide)

-- two bytes: x is at most 2^36, and one quotient leaves less than 2·p
module _ (p m x : ℕ) (above : 1 < p) (small : p < field_limit) (by : m ≡ reciprocal p) (few : x ≤ sum_bound p 16) (w : Bool) (e : w ≡ is_wide p) (f : w ≡ false) where
  is_low : is_wide p ≡ false
  is_low = sym e ∙ f

  sum_low : x ≤ 16 * (p * p)
  unfolding sum_bound
  sum_low = rw is_low at few

  sum-small : x ≤ 68719476736
  sum-small = let n : p < 65536 = narrow_high p is_low in omega (arith, sum_low, mul-le-mul {n₁ = p} {m₁ = p} {n₂ = 65536} {m₂ = 65536} (omega arith) (omega arith))

  whole : m * p + 68719476736 % p ≡ 68719476736
  whole = rw (by, ← reciprocal_narrow p (narrow_high p is_low)) (div-add-mod' 68719476736 p)

  parts : x * 68719476736 ≡ x * m / 68719476736 * p * 68719476736 + x * m % 68719476736 * p + x * (68719476736 % p) + 0 * 68719476736
  parts = quotient_parts p m (68719476736 % p) 1 68719476736 x x 0 (x * m / 68719476736) (x * m % 68719476736) (omega (arith, whole)) (omega arith) (sym (div-add-mod' (x * m) 68719476736))

  pub quotient-low : x * m / 68719476736 * p ≤ x
  quotient-low = omega (arith, parts)

  quotient-near : x < x * m / 68719476736 * p + p + p
  quotient-near =
      let left : x * m % 68719476736 * p ≤ 68719476735 * p = mul-le-mul_right p (omega (arith, mod-lt (x * m) {m = 68719476736} (omega arith))) in
      let right : x * (68719476736 % p) ≤ 68719476736 * (68719476736 % p) = mul-le-mul_right (68719476736 % p) sum-small in
      omega (arith, parts, mod-lt 68719476736 {m = p} (omega (arith, above)), above)

  pub quotient_fits : x * m / 68719476736 * p < 2 ^ 64
  quotient_fits = omega (arith, quotient-low, sum-small)

  pub scaled_fits : x * m < 2 ^ 64
  scaled_fits =
      let n : p < 65536 = narrow_high p is_low in
      omega (arith, mul-le-mul_right m sum_low, mul-le-mul_left {m = m * p} {n = 68719476736} p (omega (arith, whole)))

  pub reduced-over : p ≤ x - x * m / 68719476736 * p → Is p (x % p) (x - x * m / 68719476736 * p - p)
  reduced-over l = rest-is p x (x * m / 68719476736 + 1) _ (omega (arith, quotient-near)) (omega (arith, quotient-low, add-mul (x * m / 68719476736) 1 p))

  pub reduced-under : x - x * m / 68719476736 * p < p → Is p (x % p) (x - x * m / 68719476736 * p)
  reduced-under l = rest-is p x (x * m / 68719476736) _ l (omega (arith, quotient-low))

pub ruleset reducing = (rules, wide_by, scaled_fits, quotient_fits, quotient-low, reduced-over, reduced-under)

-- a wide prime: x is at most 2^32·p, and two quotients leave less than 2·p
module _ (p m x : ℕ) (above : 1 < p) (small : p < field_limit) (by : m ≡ reciprocal p) (few : x ≤ sum_bound p 16) (w : is_wide p ≡ true) where
  upper : ℕ
  upper = x / 4294967296

  sum-high : x ≤ 4294967296 * p
  unfolding sum_bound
  sum-high = rw w at few

  from : 65536 ≤ p
  from = wide_low p w

  whole-2 : m * p + 281474976710656 % p ≡ 281474976710656
  unfolding reciprocal
  whole-2 = rw (by, w) (div-add-mod' 281474976710656 p)

  rest-2 : 281474976710656 % p < p
  rest-2 = mod-lt 281474976710656 {m = p} (omega (arith, from))

  reciprocal-high : m ≤ 4294967296
  reciprocal-high = omega (arith, whole-2, mul-le-mul_left {m = 65536} {n = p} m from)

  -- the first quotient, q, and what it leaves, y
  pub first-scaled-fits : x / 4294967296 * m < 2 ^ 64
  first-scaled-fits = omega (arith, mul-le-mul {n₁ = x / 4294967296} {m₁ = m} {n₂ = 2147483648} {m₂ = 4294967296} (omega (arith, sum-high, small)) reciprocal-high)

  q : ℕ
  q = x / 4294967296 * m / 65536

  first-parts : x * 65536 ≡ x / 4294967296 * m / 65536 * p * 65536 + x / 4294967296 * m % 65536 * p + x / 4294967296 * (281474976710656 % p) + x % 4294967296 * 65536
  first-parts = quotient_parts p m (281474976710656 % p) 4294967296 65536 x (x / 4294967296) (x % 4294967296) (x / 4294967296 * m / 65536) (x / 4294967296 * m % 65536) whole-2 (sym (div-add-mod' x 4294967296)) (sym (div-add-mod' (x / 4294967296 * m) 65536))

  pub first-low : x / 4294967296 * m / 65536 * p ≤ x
  first-low = omega (arith, first-parts)

  pub first_fits : x / 4294967296 * m / 65536 * p < 2 ^ 64
  first_fits = omega (arith, first-low, sum-high, small)

  y : ℕ
  y = x - x / 4294967296 * m / 65536 * p

  first-near : y < 32769 * p + 4294967296
  unfolding y
  first-near =
      let a : x / 4294967296 * m % 65536 * p ≤ 65535 * p = mul-le-mul_right p (omega arith) in
      let b : x / 4294967296 * (281474976710656 % p) ≤ 2147483648 * (281474976710656 % p) = mul-le-mul_right (281474976710656 % p) (omega (arith, sum-high, small)) in
      omega (arith, first-parts, rest-2, mod-lt x {m = 4294967296} (omega arith))

  -- the second
  pub second-scaled-fits : (x - x / 4294967296 * m / 65536 * p) / 16 * m < 2 ^ 64
  unfolding y
  second-scaled-fits =
      omega (arith, mul-le-mul_right {m = y / 16} {n = 2049 * p + 268435456} m (omega (arith, first-near)), whole-2, reciprocal-high)

  second_parts : y * 17592186044416 ≡ y / 16 * m / 17592186044416 * p * 17592186044416 + y / 16 * m % 17592186044416 * p + y / 16 * (281474976710656 % p) + y % 16 * 17592186044416
  second_parts = quotient_parts p m (281474976710656 % p) 16 17592186044416 y (y / 16) (y % 16) (y / 16 * m / 17592186044416) (y / 16 * m % 17592186044416) whole-2 (sym (div-add-mod' y 16)) (sym (div-add-mod' (y / 16 * m) 17592186044416))

  second-low : y / 16 * m / 17592186044416 * p ≤ y
  second-low = omega (arith, second_parts)

  second-near : y < y / 16 * m / 17592186044416 * p + p + p
  second-near =
      let a : y / 16 * m % 17592186044416 * p ≤ 17592186044415 * p = mul-le-mul_right p (omega arith) in
      let b : y / 16 * (281474976710656 % p) ≤ 8796093022208 * (281474976710656 % p) = mul-le-mul_right (281474976710656 % p) (omega (arith, first-near, small)) in
      omega (arith, second_parts, rest-2, from)

  pub second-within : (x - x / 4294967296 * m / 65536 * p) / 16 * m / 17592186044416 * p ≤ x - x / 4294967296 * m / 65536 * p
  unfolding y
  second-within = second-low

  pub second_fits : (x - x / 4294967296 * m / 65536 * p) / 16 * m / 17592186044416 * p < 2 ^ 64
  unfolding y
  second_fits = omega (arith, second-low, first-near, small)

  k : ℕ
  k = y / 16 * m / 17592186044416

  pub twice-over :
      p ≤ x - x / 4294967296 * m / 65536 * p - (x - x / 4294967296 * m / 65536 * p) / 16 * m / 17592186044416 * p
      → Is p (x % p) (x - x / 4294967296 * m / 65536 * p - (x - x / 4294967296 * m / 65536 * p) / 16 * m / 17592186044416 * p - p)
  unfolding y q k
  twice-over l = rest-is p x (q + k + 1) _ (omega (arith, second-near)) (omega (arith, first-low, second-low, add-mul (q + k) 1 p, add-mul q k p))

  pub twice-under :
      x - x / 4294967296 * m / 65536 * p - (x - x / 4294967296 * m / 65536 * p) / 16 * m / 17592186044416 * p < p
      → Is p (x % p) (x - x / 4294967296 * m / 65536 * p - (x - x / 4294967296 * m / 65536 * p) / 16 * m / 17592186044416 * p)
  unfolding y q k
  twice-under l = rest-is p x (q + k) _ l (omega (arith, first-low, second-low, add-mul q k p))

pub ruleset reducing_twice = (rules, first-scaled-fits, first_fits, first-low, second-scaled-fits, second_fits, second-within, twice-over, twice-under)
