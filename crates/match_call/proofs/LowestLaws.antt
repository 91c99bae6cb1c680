-- The search for the lowest party that is no member.
--     Lowest, seeking_lowest
-- Assumes nothing.
use mathlib.Core.Path.{◌≡◌, refl, sym, ap, ◌∙◌}
use mathlib.Core.Bool.{Bool, true, false, cond, not}
use mathlib.Core.List.{List, ◌∷◌}
use Prim.Native.Nat.{ℕ, suc, ◌+◌, ◌≤◌, ◌<◌}
use native.Mathlib.Numerals.{add-one}
use native.Mathlib.Omega.{arith}
use borrow.Author.Rules.{rules}
use borrow.Author.Tests.{not-true, not-false}
use lib.ListN.{drop, drop_of_length-le}
use lib.Seq.{drop-cons}
use Rattle.numbers.specs.Tables.{tab}
use Rattle.numbers.proofs.Tables.{length-tab, get_or-tab}
use Rattle.plan_coalition.specs.Coalitions.{in_set, members}
use Rattle.match_privacy.specs.Matching.{is_member, lowest_of}
use Rattle.match_call.proofs.MemberLaws.{member_is}

-- the invariant at party i + 1: the parties before it are members
pub record Lowest (set n i : ℕ) : Type 0 where
  pub within : i ≤ n
  pub rest : lowest_of (members set) (drop i (tab suc n)) ≡ lowest_of (members set) (tab suc n)

pub low-none : (set n : ℕ) → Lowest set n 0
low-none set n = record { within = omega arith; rest = refl }

module _ (set n i : ℕ) (w : Lowest set n i) where
  module _ (few : n ≤ 15) (l : i < n) (t : Bool) (et : t ≡ in_set set (i + 1)) where
    here : drop i (tab suc n) ≡ suc i ∷ drop (suc i) (tab suc n)
    here = drop-cons (tab suc n) i 0 (rw length-tab l) ∙ rw (get_or-tab suc n i 0 l)

    member-here : is_member (suc i) (members set) ≡ t
    member-here = member_is set (suc i) (omega arith) (omega arith) ∙ ap (in_set set) (sym (add-one i)) ∙ sym et

    pub low-found : not t ≡ true → i + 1 ≡ lowest_of (members set) (tab suc n)
    unfolding lowest_of
    low-found e = rw (← w.rest, here, member-here, not-true t e, add-one)

    pub low-next : not t ≡ false → Lowest set n (i + 1)
    unfolding lowest_of
    low-next e = record {
      within = omega arith;
      rest =
          rw add-one
          (sym (ap (λ (ps : List ℕ). lowest_of (members set) ps) here ∙ ap (λ (b : Bool). cond b (lowest_of (members set) (drop (suc i) (tab suc n))) (suc i)) (member-here ∙ not-false t e))
          ∙ w.rest);
    }

  pub low-done : n ≤ i → 0 ≡ lowest_of (members set) (tab suc n)
  unfolding lowest_of
  low-done l = ap (lowest_of (members set)) (sym (drop_of_length-le (tab suc n) {i = i} (rw length-tab l))) ∙ w.rest

pub ruleset seeking_lowest = (rules, low-none, low-found, low-next, low-done)
