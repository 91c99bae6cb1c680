-- What refusal 21 leaves.
--     inputs_left     a member's own inputs are the same in both lists
--     own-inputs      and so are all members'
-- Assumes nothing.
use Rattle.std.proofs.Common.{Ok}
use mathlib.Core.Path.{◌≡◌, refl, sym, ap, ap₂, ◌∙◌}
use mathlib.Core.Bool.{Bool, true, false, cond, not, ◌||◌}
use mathlib.Core.List.{List, [], ◌∷◌, map}
use Prim.Native.Nat.{ℕ, suc, ◌+◌, ◌<◌}
use native.Mathlib.Omega.{arith}
use borrow.Author.Tests.{eqb-true}
use lib.Dec.{eqb}
use lib.ListN.{length, get_or, drop}
use lib.Seq.{get_or-drop}
use Rattle.numbers.proofs.Searches.{nothing_passes}
use Rattle.plan.specs.declared.Refusal.TheVariants as refusal
use Rattle.plan.specs.Plans.{Plan, input_owners, input_count, own_of, own_inputs}
use Rattle.plan.proofs.Refusals.{passed_found}
use Rattle.plan_coalition.specs.Coalitions.{in_set, members}
use Rattle.match_privacy.proofs.Members.{map-members}
use Rattle.match_privacy.proofs.SetMembers.{member_in}
use Rattle.match_agreement.specs.MatchCalls.{inputs_agree}

pub either_back : (b : Bool) (x y : ℕ) → (not b || eqb x y) ≡ true → b ≡ true → x ≡ y
either_back true x y h e = eqb-true x y h
either_back false x y h e = absurd (let z : ◌≡◌ {A = ℕ} 0 1 = ap (λ (u : Bool). cond {A = ℕ} u 1 0) e in omega (arith, z))

module _ (set i : ℕ) (on : in_set set i ≡ true) where
  own_same : (os xs ys : List ℕ) → ((j : ℕ) → j < length os → in_set set (get_or os j 0) ≡ true → get_or xs j 0 ≡ get_or ys j 0) → own_of i os xs ≡ own_of i os ys
  unfolding own_of
  own_same [] xs ys h = refl
  own_same (s ∷ os) xs ys h =
      step (eqb i s) refl (own_same os (drop 1 xs) (drop 1 ys) (λ j l e. later j (h (suc j) (omega arith) e)))
    where
      later : (j : ℕ) → get_or xs (suc j) 0 ≡ get_or ys (suc j) 0 → get_or (drop 1 xs) j 0 ≡ get_or (drop 1 ys) j 0
      later j e =
          let s : 1 + j ≡ suc j = omega arith in
          get_or-drop 1 xs j 0 ∙ ap (λ (k : ℕ). get_or xs k 0) s ∙ e ∙ ap (λ (k : ℕ). get_or ys k 0) (sym s) ∙ sym (get_or-drop 1 ys j 0)

      step : (b : Bool) → eqb i s ≡ b → own_of i os (drop 1 xs) ≡ own_of i os (drop 1 ys)
          → cond b (get_or xs 0 0 ∷ own_of i os (drop 1 xs)) (own_of i os (drop 1 xs)) ≡ cond b (get_or ys 0 0 ∷ own_of i os (drop 1 ys)) (own_of i os (drop 1 ys))
      step true e r = ap₂ (λ (x : ℕ) (l : List ℕ). x ∷ l) (h 0 (omega arith) (ap (in_set set) (sym (eqb-true i s e)) ∙ on)) r
      step false e r = r

  pub inputs_left : (plan : Plan) (xs ys : List ℕ) → inputs_agree plan set xs ys ≡ Ok tt → own_inputs plan i xs ≡ own_inputs plan i ys
  unfolding inputs_agree input_count own_inputs
  inputs_left plan xs ys e =
      own_same (input_owners plan) xs ys
      (λ j q. either_back (in_set set (get_or (input_owners plan) j 0)) (get_or xs j 0) (get_or ys j 0)
      (nothing_passes (λ j. not (in_set set (get_or (input_owners plan) j 0)) || eqb (get_or xs j 0) (get_or ys j 0)) (input_count plan) (passed_found refusal.InputsDiffer _ e) j q))

pub own-inputs :
    (plan : Plan) (set : ℕ) (xs ys : List ℕ) → inputs_agree plan set xs ys ≡ Ok tt → map (λ i. own_inputs plan i xs) (members set) ≡ map (λ i. own_inputs plan i ys) (members set)
own-inputs plan set xs ys agree =
    map-members (members set) (λ i. own_inputs plan i xs) (λ i. own_inputs plan i ys) (λ i m. inputs_left set i (unfold members in member_in set 16 i 1 m) plan xs ys agree)
