-- The table of names: where a name stands, or the first free place.
--     holding     what closes the needs of the functions
-- Assumes nothing.
use Rattle.std.proofs.Common.{Option, Some, None, nat_eq, nat_lt}
use Prim.Native.Nat.{ℕ, suc, ◌+◌, ◌≤◌}
use mathlib.Core.Path.{◌≡◌, refl, sym, ◌∙◌}
use mathlib.Core.Bool.{Bool, true, false, cond, not, ◌||◌}
use mathlib.Core.List.{List}
use native.Mathlib.Omega.{arith}
use borrow.Author.Rules.{rules}
use borrow.Author.Tests.{ltb-false}
use lib.ListN.{length, set}
use lib.Seq.{set_out}
use Rattle.std.specs.List.{position, position_or_len}
use Rattle.std.specs.Option.{unwrap_or}
use Rattle.std.proofs.lemmas.List.Sums.{prefix_len-le-length}
use Rattle.std.proofs.lemmas.List.Recursion.{is_position_or_len}
use Rattle.sheet_read.specs.Working.{free_or}

free_is : (x : ℕ) (names : List ℕ) → free_or x names ≡ position_or_len (λ y. nat_eq y x || nat_eq y 0) names
unfolding free_or
free_is x names = is_position_or_len (free_or x) (λ y. nat_eq y x || nat_eq y 0) refl (λ y ys. by (nat_eq y x) (nat_eq y 0) (free_or x ys)) names
  where
    by : (a b : Bool) (n : ℕ) → cond a 0 (cond b 0 (suc n)) ≡ cond (a || b) 0 (1 + n)
    by true b n = refl
    by false true n = refl
    by false false n = omega arith

abbrev first : ℕ → List ℕ → ℕ
first x names = position_or_len (λ y. nat_eq y x || nat_eq y 0) names

pub found_or_past : (x i : ℕ) (names : List ℕ) (r : Option ℕ) → r ≡ position (λ y. nat_eq y x || nat_eq y 0) names → i ≡ unwrap_or r (length names) → i ≡ free_or x names
found_or_past x i names r e j = j ∙ rw e (by (nat_lt (first x names) (length names)) refl)
  where
    by : (b : Bool) → nat_lt (first x names) (length names) ≡ b → unwrap_or (cond b (Some (first x names)) None) (length names) ≡ free_or x names
    by true h = sym (free_is x names)
    by false h = omega (arith, free_is x names, ltb-false (first x names) (length names) h, prefix_len-le-length (λ y. not (nat_eq y x || nat_eq y 0)) names)

pub hold_past : (names : List ℕ) (i x : ℕ) → length names ≤ i → i ≡ free_or x names → names ≡ set names (free_or x names) x
hold_past names i x l e = rw (← e) (sym (set_out names i x l))

pub hold_in : (names : List ℕ) (i x : ℕ) → i ≡ free_or x names → set names i x ≡ set names (free_or x names) x
hold_in names i x e = rw e

pub ruleset holding = (rules, found_or_past, hold_past, hold_in)
