-- The cents left over, and the parts as a whole.
--     giving, sharing     what closes the needs of the functions
-- Assumes nothing.
use mathlib.Core.Path.{◌≡◌, refl, sym, ap, ◌∙◌}
use mathlib.Core.List.{List}
use Prim.Native.Nat.{ℕ, suc, ◌+◌, ◌-◌, ◌<◌, ◌≤◌}
use native.Mathlib.Omega.{arith}
use borrow.Author.Rules.{rules}
use Rattle.std.specs.List.{sum}
use lib.ListN.{length, get_or, set, length-set}
use mir.Syntax.{w64}
use mir.Val.{Fits}
use Rattle.numbers.specs.Tables.{tab, total}
use Rattle.numbers.proofs.Tables.{length-tab}
use Rattle.charge_laws.specs.Charges.{floor_at, remainder_at, left_over, greatest, Shares, give_to, give, shares_first, parts_of}
use Rattle.charge_laws.proofs.Totals.{total_more, entry-total, nonempty}
use Rattle.charge_laws.proofs.Parts.{floors-under}
use Rattle.charge_parts.specs.declared.Portion.{Portion}
use Rattle.charge_parts.proofs.Loops.{parts_in, rests_in, part_is, length_parts, sum_is}
use Rattle.std.proofs.lemmas.List.{map-set}

-- ---- cents one after the other: k are given
pub record Giving (left : ℕ) (xs₀ xs : List Portion) (k : ℕ) : Type 0 where
  pub long : length xs ≡ length xs₀
  pub some : 1 ≤ length xs
  pub fits : total (parts_in xs) + (left - k) < 4294967296
  pub is : give (left - k) (record { parts = parts_in xs; rests = rests_in xs }) ≡ give left (record { parts = parts_in xs₀; rests = rests_in xs₀ })

pub give_none : (left : ℕ) (xs : List Portion) → 1 ≤ length xs → total (parts_in xs) + left < 4294967296 → Giving left xs xs 0
give_none left xs l f =
    let z : left - 0 ≡ left = omega arith in
    record { long = refl; some = l; fits = omega arith; is = rw z }

module _ (left : ℕ) (xs₀ xs : List Portion) (k : ℕ) (h : Giving left xs₀ xs k) where
  pub give_some : 1 ≤ length xs
  give_some = h.some

  pub give_long : length xs ≡ length xs₀
  give_long = h.long

  pub give_fits : (g : ℕ) (d : Portion) → k < left → g < length xs → Fits w64 ((get_or xs g d).part + 1)
  give_fits g d l m = record { fits = omega (arith, part_is xs g d m, entry-total (parts_in xs) g, h.fits) }

  pub give_next : (g : ℕ) (d : Portion) → k < left → g ≡ greatest (rests_in xs) → g < length xs → Giving left xs₀ (set xs g (record { part = (get_or xs g d).part + 1; rest = 0 })) (k + 1)
  unfolding give give_to
  give_next g d l e m =
      let s : left - k ≡ suc (left - (k + 1)) = omega arith in
      let new : Portion = record { part = (get_or xs g d).part + 1; rest = 0 } in
      let parts : parts_in (set xs g new) ≡ set (parts_in xs) g (suc (get_or (parts_in xs) g 0)) = map-set (λ s. s.part) xs g new ∙ ap (λ (v : ℕ). set (parts_in xs) g v) (omega (arith, part_is xs g d m)) in
      let rests : rests_in (set xs g new) ≡ set (rests_in xs) g 0 = map-set (λ s. s.rest) xs g new in
      record {
        long = length-set xs g new ∙ h.long;
        some = rw length-set h.some;
        fits = rw parts (omega (arith, total_more (parts_in xs) g (omega (arith, length_parts xs)), h.fits));
        is = rw (parts, rests, e) (rw s at h.is);
      }

  module _ (z : left ≤ k) where
    all : record { parts = parts_in xs; rests = rests_in xs } ≡ give left (record { parts = parts_in xs₀; rests = rests_in xs₀ })
    unfolding give
    all = let e : left - k ≡ 0 = omega arith in rw e at h.is

    pub given_parts : parts_in xs ≡ (give left (record { parts = parts_in xs₀; rests = rests_in xs₀ })).parts
    given_parts = ap (λ (s : Shares). s.parts) all

    pub given_rests : rests_in xs ≡ (give left (record { parts = parts_in xs₀; rests = rests_in xs₀ })).rests
    given_rests = ap (λ (s : Shares). s.rests) all

pub ruleset giving = (rules, give_none, give_some, give_long, give_fits, give_next, given_parts, given_rests)

-- ---- the whole
module _ (bill sent : ℕ) (es : List ℕ) (is : sent ≡ total es) (some : 1 ≤ sent) where
  l : 1 ≤ total es
  l = omega (arith, is)

  module _ (xs : List Portion) (ep : parts_in xs ≡ tab (floor_at bill es) (length es)) where
    floors : total (parts_in xs) ≤ bill
    floors = rw ep (floors-under bill es l)

    pub floors_small : bill < 4294967296 → sum (parts_in xs) < 4294967296
    floors_small b = omega (arith, floors, sum_is (parts_in xs))

    pub left_fits : (k : ℕ) → k ≡ sum (parts_in xs) → k ≤ bill
    left_fits k e = omega (arith, floors, sum_is (parts_in xs))

    pub all_fits : (k : ℕ) → bill < 4294967296 → k ≡ sum (parts_in xs) → total (parts_in xs) + (bill - k) < 4294967296
    all_fits k b e = omega (arith, floors, sum_is (parts_in xs))

    pub shares_some : 1 ≤ length xs
    shares_some = omega (arith, sym (length_parts xs) ∙ ap length ep ∙ length-tab (floor_at bill es) (length es), nonempty es l)

    module _ (er : rests_in xs ≡ tab (remainder_at bill es) (length es)) where
      whole : (k : ℕ) → k ≡ sum (parts_in xs) → give (bill - k) (record { parts = parts_in xs; rests = rests_in xs }) ≡ give (left_over bill es) (shares_first bill es)
      unfolding left_over shares_first
      whole k e = rw (e, sum_is (parts_in xs), ep, er)

      pub shared_parts : (k : ℕ) (new : List ℕ) → k ≡ sum (parts_in xs) → new ≡ (give (bill - k) (record { parts = parts_in xs; rests = rests_in xs })).parts → new ≡ parts_of bill es
      unfolding parts_of
      shared_parts k new e f = f ∙ ap (λ (s : Shares). s.parts) (whole k e)

      pub shared_rests : (k : ℕ) (new : List ℕ) → k ≡ sum (parts_in xs) → new ≡ (give (bill - k) (record { parts = parts_in xs; rests = rests_in xs })).rests
          → new ≡ (give (left_over bill es) (shares_first bill es)).rests
      shared_rests k new e f = f ∙ ap (λ (s : Shares). s.rests) (whole k e)

-- As it is: answers name this set, since the check leaves their goals open by `using` alone.
pub ruleset sharing = (rules, floors_small, left_fits, all_fits, shares_some, shared_parts, shared_rests)
