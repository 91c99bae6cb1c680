-- The loops of the test program.
-- Assumes nothing.
use Rattle.std.proofs.Common.{◌≡◌, ℕ, ◌+◌, ◌*◌, ◌%◌, ◌^◌, ◌<◌, ◌≤◌, Bool, true, false, List, length, get_or, take, drop, sym, refl, ◌∙◌, mod-lt, arith, length-take-le, rules}
use Rattle.numbers.specs.Bytes.{all_below}
use Rattle.numbers.proofs.Below.{all_below_next, all_below_over, all_below_end}
use Rattle.field.proofs.Products.{word}
use Rattle.field.specs.Field.{Ready}

-- ---- whether every number is below p
pub record Testing (p : ℕ) (xs : List ℕ) (i : ℕ) : Type 0 where
  pub rest : all_below p (drop i xs) ≡ all_below p xs

module _ (p : ℕ) (xs : List ℕ) where
  pub test_begin : Testing p xs 0
  test_begin = record { rest = refl }

  module _ (i : ℕ) (h : Testing p xs i) where
    pub test_over : i < length xs → p ≤ get_or xs i 0 → false ≡ all_below p xs
    test_over l o = all_below_over p xs i l o ∙ h.rest

    pub test_passed : i < length xs → get_or xs i 0 < p → Testing p xs (i + 1)
    test_passed l o = record { rest = all_below_next p xs i l o ∙ h.rest }

    pub test_end : length xs ≤ i → true ≡ all_below p xs
    test_end l = all_below_end p xs i l ∙ h.rest

-- ---- remainders
pub rest_small : (p x : ℕ) → 0 < p → p < 2147483648 → x % p < 2147483648
rest_small p x pos small = omega (arith, mod-lt x pos)

pub rest_below : (p x : ℕ) → 1 < p → p < 2147483648 → x % p < 2147483648
rest_below p x above small = rest_small p x (omega arith) small

-- c * power, with c a remainder, fits, and so does what it is added to
pub term_fits : (p c power : ℕ) → 1 < p → p < 2147483648 → power < 2147483648 → c % p * power < 2 ^ 64
term_fits p c power above small l = omega (arith, word (c % p) power (rest_below p c above small) l)

pub sum_fits : (p c power sum : ℕ) → 1 < p → p < 2147483648 → power < 2147483648 → sum < 2147483648 → sum + c % p * power < 2 ^ 64
sum_fits p c power sum above small l m = omega (arith, word (c % p) power (rest_below p c above small) l)

pub power_fits : (p x power : ℕ) → 1 < p → p < 2147483648 → power < 2147483648 → power * (x % p) < 2 ^ 64
power_fits p x power above small l = omega (arith, word power (x % p) l (rest_below p x above small))

pub truth : (b : Bool) (p : ℕ) (xs : List ℕ) → b ≡ all_below p xs → b ≡ true → all_below p xs ≡ true
truth b p xs e t = sym e ∙ t

pub positive : (p : ℕ) → Ready p → 0 < p
positive p r = omega (arith, r.prime.above)

pub above-one : (p : ℕ) → Ready p → 1 < p
above-one p r = r.prime.above

pub damaged_fits : (p x : ℕ) → Ready p → x % p + 1 < 2 ^ 64
damaged_fits p x r = omega (arith, r.small, mod-lt x (positive p r))

-- the first k entries
pub length_front : (k : ℕ) (xs : List ℕ) → k ≤ length xs → length (take k xs) ≡ k
length_front k xs l = length-take-le k xs l

pub length_next : (t n : ℕ) (xs : List ℕ) → t < n → n ≤ length xs → length (take (t + 1) xs) ≡ t + 1
length_next t n xs l m = length-take-le (t + 1) xs (omega arith)

pub ruleset testing = (rules, length_front, length_next, test_begin, test_over, test_passed, test_end, rest_small, rest_below, term_fits, sum_fits, power_fits, positive, above-one, damaged_fits)
