-- A plan's parties and points.
--     parties_points     the points are those of the parties, in order
--     party_in           each of 1 to n is a party
--     length-parties, each-party, at-party     lists with an entry for each party
-- Assumes nothing.
use mathlib.Core.Path.{◌≡◌, refl, sym, ap, ◌∙◌}
use mathlib.Core.List.{map, Memᴰ}
use Prim.Native.Nat.{ℕ, suc, ◌-◌, ◌≤◌}
use native.Mathlib.Omega.{arith}
use lib.ListN.{length, get_or}
use Rattle.numbers.specs.Tables.{tab}
use Rattle.numbers.proofs.Tables.{is-tab, tab-map, length-tab, get_or-tab}
use Rattle.sharing_laws.specs.Interp.{All}
use Rattle.sharing_laws.proofs.Alls.{all-tab}
use Rattle.sharing_laws.proofs.Lists.{in-tab, get_or-map-in}
use Rattle.plan.specs.Plans.{Plan, party_count, parties, point_of}

pub parties_points : (plan : Plan) → plan.points ≡ map (point_of plan) (parties plan)
unfolding parties party_count point_of
parties_points plan =
    is-tab (λ i. get_or plan.points (suc i - 1) 0) (length plan.points) plan.points 0 refl (λ i l. ap (λ (k : ℕ). get_or plan.points k 0) (before i))
    ∙ sym (tab-map (point_of plan) suc (length plan.points))
  where
    before : (i : ℕ) → i ≡ suc i - 1
    before i = omega arith

pub party_in : (plan : Plan) (l : ℕ) → 1 ≤ l → l ≤ party_count plan → Memᴰ l (parties plan)
unfolding parties
party_in plan l from1 upto = in-tab l suc (party_count plan) (l - 1) (omega arith) (omega arith)

-- ---- along the parties
module _ (plan : Plan) where
  pub length-parties : length (parties plan) ≡ party_count plan
  unfolding parties
  length-parties = length-tab suc (party_count plan)

  pub each-party : (P : ℕ → Type 0) → ((i : ℕ) → 1 ≤ i → i ≤ party_count plan → P i) → All P (parties plan)
  unfolding parties
  each-party P h = all-tab P suc (party_count plan) (λ k l. h (suc k) (omega arith) (omega arith))

  pub at-party : (i : ℕ) → 1 ≤ i → i ≤ party_count plan → {B : Type 0} (f : ℕ → B) (d : B) → get_or (map f (parties plan)) (i - 1) d ≡ f i
  unfolding parties
  at-party i l h f d =
      get_or-map-in f (tab suc (party_count plan)) (i - 1) 0 d (omega (arith, length-tab suc (party_count plan)))
      ∙ ap f (get_or-tab suc (party_count plan) (i - 1) 0 (omega arith) ∙ omega arith)
