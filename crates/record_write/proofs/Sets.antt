-- The set of all parties.
--     everyone-is     the members of 2 ^ n - 1 are the parties 1 to n
-- Assumes nothing.
use Prim.Native.Nat.{ℕ, zero, suc, ◌+◌, ◌-◌, ◌/◌, ◌%◌, ◌^◌, ◌<◌, ◌≤◌}
use mathlib.Core.Path.{◌≡◌, refl, ap, ap₂, ◌∙◌}
use mathlib.Core.Bool.{true, false}
use mathlib.Core.List.{List, [], ◌∷◌}
use native.Mathlib.Nat.{div-eq_of_lt, lt_of_lt_of_le, pow-suc}
use native.Mathlib.Omega.{arith}
use lib.Dec.{eqb}
use lib.Pow.{pow_pos, pow_mono, ones_split, ones_lt, high}
use Rattle.numbers.specs.Tables.{tab}
use Rattle.numbers.proofs.Tables.{tab-ext}
use Rattle.plan_coalition.specs.Coalitions.{in_set, members_from, members}

odd : (d : ℕ) → (2 ^ suc d - 1) % 2 ≡ 1
odd d = ap (λ (x : ℕ). (x - 1) % 2) (pow-suc 2 d) ∙ omega (arith, pow_pos d)

-- the bits below the d + j lowest are set
bit-set : (set j d : ℕ) → set ≡ 2 ^ (suc d + j) - 1 → in_set set (suc j) ≡ true
unfolding in_set
bit-set set j d e =
    let down : set / 2 ^ j ≡ 2 ^ suc d - 1 = ap (λ (x : ℕ). x / 2 ^ j) (e ∙ ones_split (suc d) j) ∙ high (2 ^ suc d - 1) j (ones_lt j) in
    let z : suc j - 1 ≡ j = omega arith in
    ap (λ (k : ℕ). eqb (set / 2 ^ k % 2) 1) z ∙ ap (λ (x : ℕ). eqb (x % 2) 1) down ∙ ap (λ (x : ℕ). eqb x 1) (odd d)

bit_unset : (set j : ℕ) → set < 2 ^ j → in_set set (suc j) ≡ false
unfolding in_set
bit_unset set j l =
    let z : suc j - 1 ≡ j = omega arith in
    ap (λ (k : ℕ). eqb (set / 2 ^ k % 2) 1) z ∙ ap (λ (x : ℕ). eqb (x % 2) 1) (div-eq_of_lt l)

none_from : (set k j : ℕ) → set < 2 ^ j → members_from set (suc j) k ≡ []
unfolding members_from
none_from set zero j l = refl
none_from set (suc k) j l = rw (bit_unset set j l) (none_from set k (suc j) (lt_of_lt_of_le l (pow_mono {i = j} {j = suc j} (omega arith))))

all_from : (set k j d : ℕ) → d ≤ k → set ≡ 2 ^ (d + j) - 1 → members_from set (suc j) k ≡ tab (λ i. suc (i + j)) d
unfolding members_from tab
all_from set k j zero l e =
    let z : 0 + j ≡ j = omega arith in
    none_from set k j (rw (e, z) (ones_lt j))
all_from set zero j (suc d) l e = absurd (omega arith)
all_from set (suc k) j (suc d) l e =
    let q : suc d + j ≡ d + suc j = omega arith in
    let first : suc j ≡ suc (0 + j) = omega arith in
    rw (bit-set set j d e)
    (ap₂ (λ (x : ℕ) (xs : List ℕ). x ∷ xs) first
    (all_from set k (suc j) d (omega arith) (e ∙ ap (λ (x : ℕ). 2 ^ x - 1) q)
    ∙ tab-ext (λ i. suc (i + suc j)) (λ i. suc (suc i + j)) d (λ i m. omega arith)))

pub everyone-is : (n : ℕ) → n ≤ 15 → members (2 ^ n - 1) ≡ tab suc n
unfolding members
everyone-is n l =
    let q : n ≡ n + 0 = omega arith in
    all_from (2 ^ n - 1) 16 0 n (omega arith) (ap (λ (x : ℕ). 2 ^ x - 1) q) ∙ tab-ext (λ i. suc (i + 0)) suc n (λ i m. omega arith)
