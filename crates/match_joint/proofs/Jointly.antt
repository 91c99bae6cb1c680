-- A coalition cannot tell two pairs of runs apart, a preparing run and the main run that spends its triples.
--     private     the joint matching is a bijection of joint lists under which the coalition sees the same runs of calls
-- Assumes nothing.
use mathlib.Core.Path.{◌≡◌, sym, ap₂, subst}
use mathlib.Core.Bool.{true}
use mathlib.Core.List.{List, [], ◌++◌}
use Prim.Native.Nat.{ℕ, ◌+◌}
use Rattle.plan.specs.declared.Rule.{Rule}
use Rattle.plan.specs.Plans.{Plan, party_count, input_count, coin_count}
use Rattle.plan.proofs.Valid.{Valid}
use Rattle.run_protocol.specs.Rounds.{triples_from}
use Rattle.run_protocol.specs.Shares.{share_table}
use Rattle.run_protocol.specs.Preparing.{preparing, prepares}
use Rattle.run_protocol.specs.Settings.{Full}
use Rattle.run_protocol.proofs.Prepared.{is-preparing, preparing-valid, no-kind-7}
use Rattle.run_protocol.proofs.Given.{tabled-none, tabled-prepared}
use Rattle.match_privacy.proofs.Private.{Agreeing, seen_as, view_as}
use Rattle.match_joint.specs.JointLists.{draws_of, preparing_coins, main_coins}
use Rattle.match_joint.specs.Joint.{joint_view, JointlyPrivate}
use Rattle.match_joint.proofs.Joint as joint
use Rattle.match_joint.proofs.Joint.{joint_tables, Parts, parts}

module _ (plan : Plan) (valid : Valid plan) (rule : Rule) (e : prepares (preparing plan rule) plan ≡ true) (ms xs ys : List ℕ) (a : Agreeing plan ms xs ys) where
  abbrev Q : Plan
  Q = preparing plan rule

  -- the two runs' views are the two tables'
  joint-view : (zs c : List ℕ) → Full plan.p (input_count (preparing plan rule) + coin_count (preparing plan rule) + coin_count plan) c
      → joint_view (preparing plan rule) plan ms zs c ≡ joint_tables (preparing plan rule) plan ms zs c
  unfolding party_count
  joint-view zs c full =
      let f : Parts plan valid rule ms a.few c = parts plan valid rule ms a.few c full in
      ap₂ ◌++◌
      (view_as Q (preparing-valid plan rule valid) ms a.from1 a.upto (draws_of Q c) (preparing_coins Q c) [] [] f.coins (tabled-none Q [] (no-kind-7 plan rule)))
      (view_as plan valid ms a.from1 a.upto zs (main_coins Q c) (triples_from Q (draws_of Q c) (preparing_coins Q c)) (share_table Q (draws_of Q c) (preparing_coins Q c) []) f.main
      (tabled-prepared plan valid Q e (draws_of Q c) (preparing_coins Q c) f.coins.count))

  prepared-private : JointlyPrivate (preparing plan rule) plan ms xs ys
  prepared-private =
      seen_as (joint_view Q plan ms xs) (joint_view Q plan ms ys)
      (joint.private plan valid Q e ms a.few a.upto xs ys a.first a.second a.agree a.grants)
      (joint-view xs) (joint-view ys)

-- for any plan that prepares
pub private : (plan : Plan) → Valid plan → (prep : Plan) → prepares prep plan ≡ true → (ms xs ys : List ℕ) → Agreeing plan ms xs ys → JointlyPrivate prep plan ms xs ys
private plan valid prep e ms xs ys a =
    let is : prep ≡ preparing plan prep.rule = is-preparing prep plan e in
    subst (λ (q : Plan). JointlyPrivate q plan ms xs ys) (sym is)
    (prepared-private plan valid prep.rule (subst (λ (q : Plan). prepares q plan ≡ true) is e) ms xs ys a)
