-- Two runs that a coalition must not tell apart, and that it cannot: the run of calls of a plan that spends no triple.
--     Agreeing, agreeing-set     two lists of inputs that agree for the members; for the members that a set names
--     seen_as                    what is seen on the table is seen in the run
--     private, private_read      the matching is a bijection of settings of coins under which the coalition sees the same run
-- Assumes nothing.
use Rattle.std.proofs.Common.{Ok}
use mathlib.Core.Path.{◌≡◌, sym, ◌∙◌}
use mathlib.Core.Bool.{true}
use mathlib.Core.List.{List, [], map, flat_map}
use Prim.Native.Nat.{ℕ, ◌≤◌}
use lib.ListN.{length}
use Rattle.plan.specs.Plans.{Plan, party_count, kind_count, own_inputs}
use Rattle.plan.specs.File.{plan_check, plan_of}
use Rattle.plan.proofs.Valid.{Valid, valid}
use Rattle.plan_coalition.specs.Coalitions.{members, set_ok}
use Rattle.run_protocol.specs.Rounds.{view_of, view}
use Rattle.run_protocol.specs.Ideal.{granted}
use Rattle.run_protocol.specs.Tables.{table_view_of, Tabled}
use Rattle.run_protocol.specs.Settings.{Full, Inputs, Coins}
use Rattle.run_protocol.proofs.Runs.{view-table}
use Rattle.run_protocol.proofs.Given.{tabled-none}
use Rattle.match_privacy.specs.Matching.{is_member}
use Rattle.match_privacy.specs.Bijections.{Bijection, Private}
use Rattle.match_privacy.proofs.Members.{flat_map-members}
use Rattle.match_privacy.proofs.SetMembers.{set_few, set-parties, members_from1}
use Rattle.match_privacy.proofs.Views as views

pub record Agreeing (plan : Plan) (ms xs ys : List ℕ) : Type 0 where
  pub few : length ms ≤ plan.t
  pub from1 : (i : ℕ) → is_member i ms ≡ true → 1 ≤ i
  pub upto : (i : ℕ) → is_member i ms ≡ true → i ≤ party_count plan
  pub first : Inputs plan xs
  pub second : Inputs plan ys
  pub agree : map (λ i. own_inputs plan i xs) ms ≡ map (λ i. own_inputs plan i ys) ms
  pub grants : map (granted plan xs) ms ≡ map (granted plan ys) ms

pub agreeing-set :
    (plan : Plan) (set : ℕ) → set_ok plan set ≡ true → (xs ys : List ℕ) → Inputs plan xs → Inputs plan ys
    → map (λ i. own_inputs plan i xs) (members set) ≡ map (λ i. own_inputs plan i ys) (members set)
    → map (granted plan xs) (members set) ≡ map (granted plan ys) (members set) → Agreeing plan (members set) xs ys
agreeing-set plan set ok xs ys first second agree grants = record {
  few = set_few plan set ok;
  from1 = members_from1 set;
  upto = set-parties plan set ok;
  first = first;
  second = second;
  agree = agree;
  grants = grants;
}

pub seen_as :
    {p k : ℕ} {f : List ℕ → List ℕ} {held : List ℕ → List (List ℕ)} {seen seen' : List ℕ → List ℕ} (run run' : List ℕ → List ℕ)
    → Bijection p k f held seen seen' → ((c : List ℕ) → Full p k c → run c ≡ seen c) → ((c : List ℕ) → Full p k c → run' c ≡ seen' c)
    → Bijection p k f held run run'
seen_as {f = f} run run' b e e' = record {
  full = b.full;
  keeps = b.keeps;
  one_to_one = b.one_to_one;
  onto = b.onto;
  same_view = λ c h. e c h ∙ b.same_view c h ∙ sym (e' (f c) (b.full c h));
}

-- a coalition's view of a run is its view of the table
pub view_as :
    (plan : Plan) → Valid plan → (ms : List ℕ) → ((i : ℕ) → is_member i ms ≡ true → 1 ≤ i) → ((i : ℕ) → is_member i ms ≡ true → i ≤ party_count plan)
    → (xs c ts : List ℕ) (tf : List (ℕ → ℕ)) → Coins plan c → Tabled plan ts tf → view plan ms xs c ts ≡ flat_map (table_view_of plan xs c tf) ms
unfolding view
view_as plan valid ms from1 upto xs c ts tf full tabled =
    flat_map-members ms (view_of plan xs c ts) (table_view_of plan xs c tf) (λ i m. view-table plan valid xs c ts tf full.count tabled i (from1 i m) (upto i m))

pub private : (plan : Plan) → Valid plan → kind_count plan 7 ≡ 0 → (ms xs ys : List ℕ) → Agreeing plan ms xs ys → Private plan ms xs ys
private plan valid none ms xs ys a =
    seen_as (λ c. view plan ms xs c []) (λ c. view plan ms ys c [])
    (views.private plan valid ms a.few a.upto xs ys none a.first a.second a.agree a.grants)
    (λ c f. view_as plan valid ms a.from1 a.upto xs c [] [] f (tabled-none plan [] none))
    (λ c f. view_as plan valid ms a.from1 a.upto ys c [] [] f (tabled-none plan [] none))

-- for a plan that is read from a file, and the members that a set names
pub private_read :
    (bytes : List ℕ) (set : ℕ) (xs ys : List ℕ) → plan_check bytes ≡ Ok tt → kind_count (plan_of bytes) 7 ≡ 0 → set_ok (plan_of bytes) set ≡ true → Inputs (plan_of bytes) xs → Inputs (plan_of bytes) ys
    → map (λ i. own_inputs (plan_of bytes) i xs) (members set) ≡ map (λ i. own_inputs (plan_of bytes) i ys) (members set)
    → map (granted (plan_of bytes) xs) (members set) ≡ map (granted (plan_of bytes) ys) (members set) → Private (plan_of bytes) (members set) xs ys
private_read bytes set xs ys h none ok first second agree grants =
    private (plan_of bytes) (valid bytes h) none (members set) xs ys (agreeing-set (plan_of bytes) set ok xs ys first second agree grants)
