-- Trial division by 2, 3 and the candidates next to the multiples of 6: the others are multiples of 2 or of 3.
--     Trying, trying      the loop of `least_divisor`
-- Assumes nothing.
use Rattle.std.proofs.Common.{Some, None}
use mathlib.Core.Path.{◌≡◌, refl, sym, ap, ◌∙◌}
use mathlib.Core.Logic.{◌≢◌}
use Prim.Native.Nat.{ℕ, suc, ◌+◌, ◌-◌, ◌*◌, ◌/◌, ◌%◌, ◌^◌, ◌≤◌, ◌<◌}
use native.Mathlib.Nat.{mul-le-mul, mul-le-mul_right, div-add-mod', mul-mod_left}
use native.Mathlib.Numerals.{add-one}
use native.Mathlib.Decide.{dec_le}
use native.Mathlib.Omega.{arith}
use borrow.Author.Rules.{rules}
use Rattle.field.specs.Prime.{divisor_from, divisor_of}
use Rattle.field.proofs.Primes.{divisor-past, divisor_here, divisor_later}

-- ---- candidates that are passed over
-- one that does not divide p is passed over, whether its square passes p or not
skip : (n e p : ℕ) → p % e ≢ 0 → divisor_from (suc n) e p ≡ divisor_from n (suc e) p
skip n e p ne = pick (dec_le (e * e) p)
  where
    pick : Dec (e * e ≤ p) → divisor_from (suc n) e p ≡ divisor_from n (suc e) p
    pick (yes sq) = divisor_later n e p sq ne
    pick (no sq) = divisor-past (suc n) e p (omega arith) ∙ sym (divisor-past n (suc e) p (omega arith))

-- a multiple of 2 or of 3 divides p only where 2 or 3 does
even-not : (p e : ℕ) → p % 2 ≢ 0 → e % 2 ≡ 0 → p % e ≢ 0
even-not p e ne ev z =
    let half : e ≡ e / 2 * 2 = omega arith in
    let whole : p ≡ p / e * (e / 2) * 2 = omega (arith, div-add-mod' p e, ap (λ (n : ℕ). p / e * n) half) in
    ne (ap (λ (n : ℕ). n % 2) whole ∙ mul-mod_left (p / e * (e / 2)) 2)

third-not : (p e : ℕ) → p % 3 ≢ 0 → e % 3 ≡ 0 → p % e ≢ 0
third-not p e ne th z =
    let third : e ≡ e / 3 * 3 = omega arith in
    let whole : p ≡ p / e * (e / 3) * 3 = omega (arith, div-add-mod' p e, ap (λ (n : ℕ). p / e * n) third) in
    ne (ap (λ (n : ℕ). n % 3) whole ∙ mul-mod_left (p / e * (e / 3)) 3)

-- ---- the loop: the search from d on gives the same as the search from 2 on
pub record From (p d : ℕ) : Type 0 where
  pub same : divisor_from (p + 2 - d) d p ≡ divisor_of p

onward : (p e : ℕ) → From p e → e ≤ p + 1 → p % e ≢ 0 → From p (e + 1)
onward p e s le ne =
    let fuel : p + 2 - e ≡ suc (p + 2 - (e + 1)) = omega arith in
    record { same = sym (rw (fuel, skip (p + 2 - (e + 1)) e p ne, add-one e)) ∙ s.same }

-- what is known at each candidate d, and the step to the next one
pub data Stride (p d step : ℕ) : Type 0 where
  at-two : d ≡ 2 → step ≡ 1 → Stride p d step
  at_three : d ≡ 3 → step ≡ 2 → p % 2 ≢ 0 → Stride p d step
  below_six : step ≡ 2 → p % 2 ≢ 0 → p % 3 ≢ 0 → 5 ≤ d → d % 6 ≡ 5 → Stride p d step
  above_six : step ≡ 4 → p % 2 ≢ 0 → p % 3 ≢ 0 → 7 ≤ d → d % 6 ≡ 1 → Stride p d step

pub record Trying (p d step : ℕ) : Type 0 where
  pub from : From p d
  pub stride : Stride p d step
  pub least : 2 ≤ d
  pub some : 0 < step
  pub few : step ≤ 4
  pub word : d ≤ 65540

pub trying_start : (p : ℕ) → Trying p 2 1
unfolding divisor_of
trying_start p =
    let q : p + 2 - 2 ≡ p = omega arith in
    record { from = record { same = rw q }; stride = at-two refl refl; least = omega arith; some = omega arith; few = omega arith; word = omega arith }

root_word : (d p : ℕ) → p < 2 ^ 32 → d * d ≤ p → d < 65536
root_word d p small sq = pick (dec_le 65536 d)
  where
    pick : Dec (65536 ≤ d) → d < 65536
    pick (yes le) = absurd (omega (arith, mul-le-mul le le))
    pick (no lt) = omega arith

module _ (p d step : ℕ) (t : Trying p d step) where
  pub square_fits : d * d < 2 ^ 64
  square_fits = omega (arith, mul-le-mul t.word t.word)

  pub trying-past : p < d * d → None ≡ divisor_of p
  trying-past h = sym (divisor-past (p + 2 - d) d p h) ∙ t.from.same

  pub step_under : step ≤ 6
  step_under = omega (arith, t.few)

  module _ (sq : d * d ≤ p) where
    twice : 2 * d ≤ p
    twice = omega (arith, mul-le-mul_right d t.least)

    pub trying-found : p % d ≡ 0 → Some d ≡ divisor_of p
    trying-found e =
        let fuel : p + 2 - d ≡ suc (p + 2 - (d + 1)) = omega (arith, twice) in
        sym (rw fuel (divisor_here (p + 2 - (d + 1)) d p sq e)) ∙ t.from.same

    pub trying-falls : p - (d + step) < p - d
    trying-falls = omega (arith, twice, t.some, t.least)

    module _ (small : p < 2 ^ 32) where
      pub next_fits : d + step < 2 ^ 64
      next_fits = omega (arith, root_word d p small sq, t.few)

      next_word : d + step ≤ 65540
      next_word = omega (arith, root_word d p small sq, t.few)

      module _ (ne : p % d ≢ 0) where
        one : From p (d + 1)
        one = onward p d t.from (omega (arith, twice)) ne

        two : p % (d + 1) ≢ 0 → From p (d + 2)
        two n = let e : d + 1 + 1 ≡ d + 2 = omega arith in rw e at (onward p (d + 1) one (omega (arith, twice, t.least)) n)

        four : p % (d + 1) ≢ 0 → p % (d + 2) ≢ 0 → p % (d + 3) ≢ 0 → 3 ≤ d → From p (d + 4)
        four n m k lo =
            let e : d + 2 + 1 ≡ d + 3 = omega arith in
            let e' : d + 3 + 1 ≡ d + 4 = omega arith in
            let three : From p (d + 3) = rw e at (onward p (d + 2) (two n) (omega (arith, twice)) m) in
            rw e' at (onward p (d + 3) three (omega (arith, twice)) k)

        early : Stride p d step → d + step < 7 → From p (d + step) × Stride p (d + step) 2
        early (at-two e s) l = let q : d + step ≡ d + 1 = omega arith in (rw q one, at_three (omega arith) refl (λ z. ne (rw e z)))
        early (at_three e s odd) l =
            let q : d + step ≡ d + 2 = omega arith in
            (rw q (two (even-not p (d + 1) odd (omega arith))), below_six refl odd (λ z. ne (rw e z)) (omega arith) (omega arith))
        early (below_six s odd third lo m) l = absurd (omega arith)
        early (above_six s odd third lo m) l = absurd (omega arith)

        later : Stride p d step → 7 ≤ d + step → From p (d + step) × Stride p (d + step) (6 - step) × (2 ≤ step)
        later (at-two e s) l = absurd (omega arith)
        later (at_three e s odd) l = absurd (omega arith)
        later (below_six s odd third lo m) l =
            let q : d + step ≡ d + 2 = omega arith in
            (rw q (two (even-not p (d + 1) odd (omega arith))), above_six (omega arith) odd third (omega arith) (omega arith), omega arith)
        later (above_six s odd third lo m) l =
            let q : d + step ≡ d + 4 = omega arith in (
              rw q (four (even-not p (d + 1) odd (omega arith)) (third-not p (d + 2) third (omega arith)) (even-not p (d + 3) odd (omega arith)) (omega arith)),
              below_six (omega arith) odd third (omega arith) (omega arith),
              omega arith,
            )

        pub trying-early : d + step < 7 → Trying p (d + step) 2
        trying-early l =
            let r : From p (d + step) × Stride p (d + step) 2 = early t.stride l in
            record { from = r.0; stride = r.1; least = omega (arith, t.least); some = omega arith; few = omega arith; word = next_word }

        pub trying-later : 7 ≤ d + step → Trying p (d + step) (6 - step)
        trying-later l =
            let r : From p (d + step) × Stride p (d + step) (6 - step) × (2 ≤ step) = later t.stride l in
            record { from = r.0; stride = r.1; least = omega (arith, t.least); some = omega (arith, t.few); few = omega (arith, r.2); word = next_word }

-- As it is: answers name this set, since the check leaves their goals open by `using` alone.
pub ruleset trying = (rules, trying_start, square_fits, trying-past, trying-found, trying-falls, next_fits, step_under, trying-early, trying-later)
