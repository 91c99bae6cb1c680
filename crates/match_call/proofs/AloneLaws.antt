-- Two runs that follow, and the matching of a plan that spends no triple.
--     following      two runs that begin as a matching does follow at every gate
--     unmasked       any two runs of a plan by reduction do
--     alone          what closes the needs of the matching alone
-- Assumes nothing.
use Rattle.std.proofs.Common.{Ok}
use mathlib.Core.Path.{◌≡◌, refl, sym, ap, ◌∙◌, subst}
use mathlib.Core.Bool.{true}
use mathlib.Core.List.{List, [], ◌∷◌}
use Prim.Native.Nat.{ℕ, ◌*◌, ◌≤◌}
use native.Mathlib.Nat.{mul-zero}
use native.Mathlib.Omega.{arith}
use borrow.Author.Rules.{rules}
use lib.ListN.{length}
use Rattle.numbers.specs.Tables.{tab}
use Rattle.numbers.specs.Bytes.{width, numbers_of, numbers, bytes_of, all_below}
use Rattle.numbers.proofs.Bytes.{numbers-length}
use Rattle.plan.specs.declared.Gate.{Gate}
use Rattle.plan.specs.declared.Header.{Header}
use Rattle.plan.specs.declared.Rule.{Rule}
use Rattle.plan.specs.declared.Rule.TheVariants.{Reduction, Truncation}
use Rattle.plan.specs.Plans.{Plan, party_count, triple_numbers}
use Rattle.plan.specs.File.{plan_of}
use Rattle.plan.specs.Planned.{Planned}
use Rattle.plan_coalition.specs.Coalitions.{members}
use Rattle.plan.proofs.Planned.{plan_p}
use Rattle.plan.proofs.Valid.{Valid, valid}
use Rattle.run_protocol.specs.Shares.{Before, start_of}
use Rattle.run_protocol.specs.Tables.{Tabled}
use Rattle.run_protocol.specs.Settings.{Coins}
use Rattle.run_protocol.proofs.Given.{tabled-none}
use Rattle.match_privacy.specs.Matching.{is_member, matched_coins}
use Rattle.match_privacy.proofs.SetMembers.{set_few, set-parties}
use Rattle.match_privacy.proofs.TwoRuns.{Runs, masked-moves, runs_after}
use Rattle.match_privacy.proofs.Views.{Start, alone_start, fresh-runs}
use Rattle.match_agreement.specs.MatchParts.{Matchable}
use Rattle.match_agreement.proofs.Agreed.{own-inputs}
use Rattle.match_call.specs.MatchSteps.{Follows, Following, Runnable, MatchedBy}

module _ (plan : Plan) (ok : Valid plan) (ms : List ℕ) (few : length ms ≤ plan.t) (parties_only : (i : ℕ) → is_member i ms ≡ true → i ≤ party_count plan) where
  follows-here :
      (g : Gate) (gs : List Gate) (s s' : Before) (vals vals' us us' : List ℕ) → Runs plan ok ms few parties_only (g ∷ gs) s s' vals vals' us us' → Follows plan ms g s s'
  follows-here g gs s s' vals vals' us us' r = record {
    masked =
        λ a b j e by.
        masked-moves plan ok ms few parties_only a b gs s s' vals vals' us us'
        (subst (λ (x : Gate). Runs plan ok ms few parties_only (x ∷ gs) s s' vals vals' us us') e r) [] by j;
  }

  following_from :
      (gs : List Gate) (s s' : Before) (vals vals' us us' : List ℕ) → Runs plan ok ms few parties_only gs s s' vals vals' us us' → Following plan ms gs s s'
  unfolding Following
  following_from [] s s' vals vals' us us' r = tt
  following_from (g ∷ gs) s s' vals vals' us us' r =
      (follows-here g gs s s' vals vals' us us' r, following_from gs _ _ _ _ _ _ (runs_after plan ok ms few parties_only g gs s s' vals vals' us us' r))

  pub following :
      (xs ys c : List ℕ) (tf tf' : List (ℕ → ℕ)) (us us' : List ℕ) → Start plan ms xs ys c tf tf' us us'
      → Following plan ms plan.gates (start_of xs c tf) (start_of ys [] tf')
  following xs ys c tf tf' us us' o = following_from plan.gates _ _ [] [] us us' (fresh-runs plan ok ms few parties_only xs ys c tf tf' us us' o)

-- a plan by reduction masks nothing
unmasked : (plan : Plan) (ms : List ℕ) → plan.rule ≡ Reduction → (gs : List Gate) (s s' : Before) → Following plan ms gs s s'
unfolding Following
unmasked plan ms e [] s s' = tt
unmasked plan ms e (g ∷ gs) s s' = (record { masked = λ a b j is by. other _ (sym e ∙ by) }, unmasked plan ms e gs _ _)
  where
    other : (A : Type 0) → Reduction ≡ Truncation → A
    other A c = cc

-- ---- alone
module _ (bs : List ℕ) (h : Header) (set : ℕ) (xs ys coins : List ℕ) (room : ℕ) (k : Planned bs h) (gi : Matchable bs h set xs ys coins room) where
  no-numbers : 0 ≡ width * (party_count (plan_of bs) * triple_numbers (plan_of bs))
  unfolding triple_numbers
  no-numbers = rw (gi.no-spend, mul-zero (party_count (plan_of bs)))

  pub alone-runs : Runnable bs h set xs ys coins [] [] room
  unfolding all_below numbers numbers_of tab
  alone-runs = record {
    set_ok_lem = gi.set_ok_lem;
    first_below = gi.first_below;
    second_below = gi.second_below;
    coins_below = gi.coins_below;
    coins_long = gi.coins_long;
    room_long = gi.room_long;
    first_triples = no-numbers;
    second_triples = no-numbers;
    first_small = refl;
    second_small = refl;
  }

  coins_full : Coins (plan_of bs) (numbers coins)
  coins_full = record { count = omega (arith, numbers-length coins, gi.coins_long); small = rw (plan_p k) gi.coins_below }

  alone-follows : Following (plan_of bs) (members set) (plan_of bs).gates (start_of (numbers xs) (numbers coins) []) (start_of (numbers ys) [] [])
  alone-follows = by (plan_of bs).rule refl
    where
      by : (r : Rule) → (plan_of bs).rule ≡ r
          → Following (plan_of bs) (members set) (plan_of bs).gates (start_of (numbers xs) (numbers coins) []) (start_of (numbers ys) [] [])
      by Reduction e = unmasked (plan_of bs) (members set) e (plan_of bs).gates _ _
      by Truncation e =
          let few : length (members set) ≤ (plan_of bs).t = set_few (plan_of bs) set gi.set_ok_lem in
          let are : (i : ℕ) → is_member i (members set) ≡ true → i ≤ party_count (plan_of bs) = set-parties (plan_of bs) set gi.set_ok_lem in
          following (plan_of bs) (valid bs k.passes) (members set) few are (numbers xs) (numbers ys) (numbers coins) [] [] [] []
          (alone_start (plan_of bs) (valid bs k.passes) (members set) few are (numbers xs) (numbers ys) (numbers coins) gi.no-spend
          (rw (plan_p k) gi.first_below) (rw (plan_p k) gi.second_below) coins_full (own-inputs (plan_of bs) set (numbers xs) (numbers ys) (gi.agree e)))

  pub alone-matched :
      (out : List ℕ) → MatchedBy bs set xs ys coins [] [] (numbers out) → out ≡ bytes_of (numbers out)
      → out ≡ bytes_of (matched_coins (plan_of bs) (members set) (numbers xs) (numbers ys) (numbers coins))
  unfolding matched_coins
  alone-matched out w e =
      let none : Tabled (plan_of bs) (numbers []) [] = tabled-none (plan_of bs) (numbers []) gi.no-spend in
      e ∙ ap bytes_of (w.are [] [] none none alone-follows)

pub ruleset alone = (rules, alone-runs, alone-matched)
