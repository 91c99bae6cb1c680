-- What is claimed of counting the views.
--     views-counted     the list that the call leaves
--     views_once        exactly t members
-- Assumes nothing.
use Rattle.std.proofs.Common.{Ok}
use Prim.Native.Nat.{ℕ, ◌<◌}
use mathlib.Core.Path.{◌≡◌, refl, sym, ap, ◌∙◌}
use mathlib.Core.Bool.{true}
use mathlib.Core.List.{List, []}
use lib.ListN.{length}
use Rattle.numbers.specs.Bytes.{numbers, all_below}
use Rattle.numbers.proofs.Tables.{length-tab}
use Rattle.numbers.proofs.Bytes.{holds-numbers}
use Rattle.numbers.proofs.Below.{first_over-nothing}
use Rattle.field.proofs.Inverse.{pos}
use Rattle.plan.specs.declared.Refusal.TheVariants as refusal
use Rattle.plan.specs.Refusals.{first_of}
use Rattle.plan.specs.Plans.{Plan}
use Rattle.plan.specs.File.{plan_checks, plan_check, plan_of}
use Rattle.plan.proofs.Refusals.{first_of-append, passed_both, passed-need, passed_found}
use Rattle.plan.proofs.Valid.{valid}
use Rattle.plan_coalition.specs.Coalitions.{members}
use Rattle.seat_messages.specs.Calls.{unless_refused}
use Rattle.seat_admission.specs.Parts.{list_checks}
use Rattle.run_protocol.specs.Rounds.{view}
use Rattle.run_protocol.specs.Settings.{Coins}
use Rattle.count_laws.specs.Settings.{member_coins, setting_count, setting_coins, held_coins, views_of}
use Rattle.count_laws.specs.CountCalls.{member_checks, counting_checks, count_checks, count_answer, count_after, view_list}
use Rattle.count_laws.proofs.Settings.{setting_long, setting_small, setting_once, setting_held, setting-reached}
use Rattle.count_laws.proofs.RightRows.{tallied}
use Rattle.count_once.proofs.Once.{once-each, once-all}
use Rattle.demands.specs.Views.{Settings, ViewsCounted, ViewsOnce}

settings_right : (plan : Plan) (set : ℕ) (given : List ℕ) → 0 < plan.p → length given ≡ member_coins plan set → all_below plan.p given ≡ true → Settings plan set given
settings_right plan set given above long small = record {
  coins = λ k l. (record { count = setting_long plan set given k; small = setting_small plan set given k above small }, setting_held plan set given k long);
  apart = λ j k l m e. setting_once plan set given j k above l m e;
  all = λ c full held. reached c full held;
}
  where
    reached : (c : List ℕ) → Coins plan c → held_coins plan set c ≡ given → (k : ℕ) × (k < setting_count plan set) × (setting_coins plan set given k ≡ c)
    reached c full held =
        let r = setting-reached plan set c above full.count full.small in
        (r.0, r.1, ap (λ (g : List ℕ). setting_coins plan set g r.0) (sym held) ∙ r.2)

module _ (bytes : List ℕ) (set : ℕ) (figures coins : List ℕ) (room : ℕ) (e : count_answer bytes set figures coins room ≡ Ok tt) where
  parts : (plan_check bytes ≡ Ok tt) × (first_of (counting_checks (plan_of bytes) set figures coins room) ≡ Ok tt)
  unfolding count_answer count_checks plan_check
  parts = passed_both _ _ (sym (first_of-append (plan_checks bytes) (counting_checks (plan_of bytes) set figures coins room)) ∙ e)

  given : (length (numbers coins) ≡ member_coins (plan_of bytes) set) × (all_below (plan_of bytes).p (numbers coins) ≡ true)
  unfolding counting_checks member_checks list_checks first_of
  given =
      let a = passed_both _ _ parts.1 in
      let b = passed_both _ _ a.1 in
      let c = passed_both _ _ b.1 in
      let d = passed_both _ _ c.1 in
      let f = passed_both _ _ d.1 in (
        holds-numbers (member_coins (plan_of bytes) set) coins (passed-need refusal.CoinCount _ d.0),
        first_over-nothing (plan_of bytes).p (numbers coins) (passed_found refusal.CoinValue _ f.0),
      )

pub views-counted : ViewsCounted
unfolding count_after unless_refused view_list views_of
views-counted bytes set figures coins out e = record {
  settings =
      settings_right (plan_of bytes) set (numbers coins) (pos (valid bytes (parts bytes set figures coins (length out) e).0).prime) (given bytes set figures coins (length out) e).0
      (given bytes set figures coins (length out) e).1;
  rows = tallied (views_of (plan_of bytes) set (numbers figures) (numbers coins));
  sum =
      (tallied (views_of (plan_of bytes) set (numbers figures) (numbers coins))).sum
      ∙ length-tab (λ k. view (plan_of bytes) (members set) (numbers figures) (setting_coins (plan_of bytes) set (numbers coins) k) []) (setting_count (plan_of bytes) set);
  list = rw e refl;
}

pub views_once : ViewsOnce
views_once bytes set xs given passes rule none exact small = record {
  ones = once-each (plan_of bytes) (valid bytes passes) rule none set exact xs given small;
  views = once-all (plan_of bytes) (valid bytes passes) rule none set exact xs given small;
}
