-- On lists: the matching is a bijection of settings of coins that keeps the members' coins, and the coalition's view of the whole run is the same.
--     each_member       what holds for each member of a set that passes
--     agreeing          two lists that the demand takes
--     front_same, back_same     lists of the same lengths, joined to the same, are the same
--     runs_private      the claim, of a plan alone and of two runs together
-- Assumes nothing.
use Prim.Native.Nat.{ℕ, zero, suc, ◌≤◌, ◌^◌}
use mathlib.Core.Path.{◌≡◌, refl, sym, ap, ◌∙◌}
use mathlib.Core.Bool.{Bool, true, false, cond}
use mathlib.Core.List.{List, ◌∷◌, ◌++◌}
use native.Mathlib.Omega.{arith}
use borrow.Author.Tests.{ltb-true}
use lib.Dec.{leb, ltb}
use lib.ListN.{length, take, drop}
use lib.Seq.{take-append_seam, drop-append_seam}
use Rattle.sharing_laws.specs.Interp.{All}
use Rattle.plan.specs.Plans.{Plan, party_count}
use Rattle.plan.specs.File.{plan_of}
use Rattle.plan_coalition.specs.Coalitions.{in_set, members, members_from, set_ok}
use Rattle.plan.proofs.Valid.{valid}
use Rattle.match_privacy.proofs.SetMembers.{in_below}
use Rattle.match_privacy.proofs.Private.{Agreeing, agreeing-set, private}
use Rattle.match_joint.proofs.Jointly as jointly
use Rattle.demands.specs.Demands.{Alike}
use Rattle.demands.specs.Lists.{RunsPrivate}
use Rattle.numbers.proofs.Truth.{both_true}

-- ---- the members of a set that passes
members_from_lem : (P : ℕ → Type 0) (set : ℕ) → ((i : ℕ) → 1 ≤ i → in_set set i ≡ true → P i) → (k i : ℕ) → 1 ≤ i → All P (members_from set i k)
unfolding members_from
members_from_lem P set is zero i l = tt
members_from_lem P set is (suc k) i l = step (members_from_lem P set is k (suc i) (omega arith)) (in_set set i) refl
  where
    step : All P (members_from set (suc i) k) → (b : Bool) → in_set set i ≡ b → All P (cond b (i ∷ members_from set (suc i) k) (members_from set (suc i) k))
    step rest true e = (is i l e, rest)
    step rest false e = rest

-- a set that passes has only parties of the plan
pub each_member : (P : ℕ → Type 0) (plan : Plan) (set : ℕ) → set_ok plan set ≡ true → ((i : ℕ) → 1 ≤ i → i ≤ party_count plan → in_set set i ≡ true → P i) → All P (members set)
unfolding members set_ok
each_member P plan set ok is =
    let in_range : ltb set (2 ^ party_count plan) ≡ true = (both_true (ltb set (2 ^ party_count plan)) (leb (length (members set)) plan.t) ok).0 in
    members_from_lem P set (λ i l e. is i l (in_below set (party_count plan) i (ltb-true set (2 ^ party_count plan) in_range) e) e) 16 1 (omega arith)

-- ---- lists of the same lengths
pub front_same : (a b c d : List ℕ) → length a ≡ length c → a ++ b ≡ c ++ d → a ≡ c
front_same a b c d l e = sym (take-append_seam a b) ∙ ap (take (length a)) e ∙ ap (λ (n : ℕ). take n (c ++ d)) l ∙ take-append_seam c d

pub back_same : (a b c d : List ℕ) → length a ≡ length c → a ++ b ≡ c ++ d → b ≡ d
back_same a b c d l e = sym (drop-append_seam a b) ∙ ap (drop (length a)) e ∙ ap (λ (n : ℕ). drop n (c ++ d)) l ∙ drop-append_seam c d

-- ---- the claim
pub agreeing : (bytes : List ℕ) (set : ℕ) (xs ys : List ℕ) → Alike bytes set xs ys → Agreeing (plan_of bytes) (members set) xs ys
agreeing bytes set xs ys alike = agreeing-set (plan_of bytes) set alike.set_passes xs ys alike.first alike.second alike.agree alike.grants

pub runs_private : RunsPrivate
runs_private = record {
  alone = λ bytes set xs ys none alike. private (plan_of bytes) (valid bytes alike.passes) none (members set) xs ys (agreeing bytes set xs ys alike);
  prepared =
      λ prep bytes set xs ys made alike.
      jointly.private (plan_of bytes) (valid bytes alike.passes) (plan_of prep) made (members set) xs ys (agreeing bytes set xs ys alike);
}
