-- The settings and the sizes of the list.
--     Gathering, gathering     the loop over the parties: the members' coins
--     sizing                   the settings, and the numbers of a row
-- Assumes nothing.
use Prim.Native.Nat.{min, ℕ, suc, ◌+◌, ◌-◌, ◌*◌, ◌^◌, ◌<◌, ◌≤◌}
use mathlib.Core.Path.{◌≡◌, refl, sym, ap, ap₂, ◌∙◌}
use mathlib.Core.Bool.{Bool, true, false, cond, ◌&&◌}
use mathlib.Core.List.{List, ◌∷◌, map}
use native.Mathlib.Numerals.{add-one}
use native.Mathlib.Omega.{arith}
use borrow.Author.Rules.{rules}
use borrow.Author.Tests.{leb-true, leb-false, eq-eqb, ne_eqb}
use lib.Dec.{eqb, leb}
use mir.Syntax.{w64}
use mir.Val.{Fits}
use Rattle.numbers.specs.Tables.{count_where, total}
use Rattle.plan.specs.declared.Header.{Header}
use Rattle.plan.specs.Plans.{Plan, is_kind, kind_count, coin_count, own_coin_count}
use Rattle.plan_counts.specs.declared.Tally.{Tally}
use Rattle.plan_counts.specs.Counts.{Tallied}
use Rattle.plan.specs.File.{plan_of}
use Rattle.plan.specs.Planned.{Planned}
use Rattle.plan.proofs.Planned.{plan_n, plan_p}
use Rattle.plan.proofs.Valid.{valid}
use Rattle.plan_coalition.specs.Coalitions.{in_set, members_from, members}
use Rattle.run_protocol.specs.Rounds.{view_count}
use Rattle.count_laws.specs.Settings.{member_coins, other_coins, setting_count}
use Rattle.count_laws.specs.CountCalls.{row_width, settings_ok}
use Rattle.count_laws.proofs.Owned.{members_others, members_sum}
use Rattle.count_call.specs.Counting.{counted_settings}

-- ---- the members' coins
abbrev coins_of : Plan → List ℕ → ℕ
coins_of plan ms = total (map (own_coin_count plan) ms)

pub record Gathering (bs : List ℕ) (set k i : ℕ) : Type 0 where
  pub low : 1 ≤ i
  pub high : i ≤ 17
  pub few : k + 43008 ≤ 43008 * i
  pub is : k + coins_of (plan_of bs) (members_from set i (17 - i)) ≡ coins_of (plan_of bs) (members set)

pub gather_none : (bs : List ℕ) (set : ℕ) → Gathering bs set 0 1
unfolding members
gather_none bs set = record { low = omega arith; high = omega arith; few = omega arith; is = omega arith }

gather_step : (plan : Plan) (b : Bool) (i k : ℕ) (is : List ℕ) → k + coins_of plan (cond b (i ∷ is) is) ≡ k + cond b (own_coin_count plan i) 0 + coins_of plan is
unfolding total
gather_step plan true i k is = omega arith
gather_step plan false i k is = omega arith

module _ (bs : List ℕ) (set k i : ℕ) (s : Gathering bs set k i) where
  members_step : i ≤ 16 → members_from set i (17 - i) ≡ cond (in_set set i) (i ∷ members_from set (i + 1) (17 - (i + 1))) (members_from set (i + 1) (17 - (i + 1)))
  unfolding members_from
  members_step l =
      let q : 17 - i ≡ suc (17 - (i + 1)) = omega arith in
      ap (members_from set i) q ∙ ap (λ (j : ℕ). cond (in_set set i) (i ∷ members_from set j (17 - (i + 1))) (members_from set j (17 - (i + 1)))) (sym (add-one i))

  pub gather_next : (d : ℕ) → i ≤ 16 → d ≡ cond (in_set set i) (own_coin_count (plan_of bs) i) 0 → d ≤ 43008 → Gathering bs set (k + d) (i + 1)
  gather_next d l e m = record {
    low = omega arith;
    high = omega arith;
    few = omega (arith, s.few);
    is =
        rw e (sym (gather_step (plan_of bs) (in_set set i) i k (members_from set (i + 1) (17 - (i + 1)))))
        ∙ ap (λ (ms : List ℕ). k + coins_of (plan_of bs) ms) (sym (members_step l)) ∙ s.is;
  }

  pub gather_done : (h : Header) → Planned bs h → 16 < i → k ≡ member_coins (plan_of bs) set
  unfolding members_from total
  gather_done h pl l =
      let q : 17 - i ≡ 0 = omega (arith, s.high) in
      let e : k + coins_of (plan_of bs) (members_from set i 0) ≡ coins_of (plan_of bs) (members set) = ap (λ (j : ℕ). k + coins_of (plan_of bs) (members_from set i j)) (sym q) ∙ s.is in
      omega (arith, e, members_sum (plan_of bs) (valid bs pl.passes) (omega (arith, plan_n pl, pl.n-high)) set)

  pub gather_most : k ≤ 688128
  gather_most = omega (arith, s.few, s.high)

-- As it is: answers name this set, since the check leaves their goals open by `using` alone.
pub ruleset gathering = (rules, gather_none, gather_next, gather_done, gather_most)

-- ---- the settings
-- without gates of kinds 6 and 7
capped_is : (x r : ℕ) (b : Bool) → leb x 65536 ≡ b → r ≡ min x 65537 → r ≡ cond (b && true) x 65537
capped_is x r true e q = omega (arith, leb-true x 65536 e)
capped_is x r false e q = omega (arith, leb-false x 65536 e)

not-both : (b : Bool) → (b && false) ≡ false
not-both true = refl
not-both false = refl

module _ (bs : List ℕ) (c : Tally) (t : Tallied (plan_of bs).gates 0 c) where
  pub kinds_fit : Fits w64 (c.randoms + c.spends)
  kinds_fit = record { fits = omega (arith, t.few) }

  module _ (set : ℕ) where
    pub others-counted : (c.randoms + c.spends ≡ 0 → ⊥) → 65537 ≡ counted_settings (plan_of bs) set
    unfolding counted_settings settings_ok kind_count
    others-counted n =
        let z : eqb (count_where (is_kind 6) (plan_of bs).gates + count_where (is_kind 7) (plan_of bs).gates) 0 ≡ false =
        ne_eqb (count_where (is_kind 6) (plan_of bs).gates + count_where (is_kind 7) (plan_of bs).gates) 0 (λ q. n (omega (arith, q, t.randoms, t.spends))) in
        rw (z, not-both (leb (setting_count (plan_of bs) set) 65536)) refl

    module _ (none : c.randoms + c.spends ≡ 0) (h : Header) (pl : Planned bs h) (all own : ℕ) (ea : all ≡ coin_count (plan_of bs)) (eo : own ≡ member_coins (plan_of bs) set) where
      pub settings-are : (s r : ℕ) → s ≡ min (h.field.p ^ (all - own)) (2 ^ 64 - 1) → r ≡ min s 65537 → r ≡ counted_settings (plan_of bs) set
      unfolding counted_settings settings_ok setting_count kind_count
      settings-are s r es er =
          let others : all - own ≡ other_coins (plan_of bs) set = omega (arith, members_others (plan_of bs) set) in
          let z : eqb (count_where (is_kind 6) (plan_of bs).gates + count_where (is_kind 7) (plan_of bs).gates) 0 ≡ true =
          eq-eqb (count_where (is_kind 6) (plan_of bs).gates + count_where (is_kind 7) (plan_of bs).gates) 0 (omega (arith, none, t.randoms, t.spends)) in
          let power : h.field.p ^ (all - own) ≡ (plan_of bs).p ^ other_coins (plan_of bs) set = ap₂ (λ (p n : ℕ). p ^ n) (sym (plan_p pl)) others in
          rw z (capped_is ((plan_of bs).p ^ other_coins (plan_of bs) set) r (leb ((plan_of bs).p ^ other_coins (plan_of bs) set) 65536) refl (omega (arith, power)))

pub own-within : (bs : List ℕ) (set all own : ℕ) → all ≡ coin_count (plan_of bs) → own ≡ member_coins (plan_of bs) set → own ≤ all
own-within bs set all own ea eo = omega (arith, members_others (plan_of bs) set)

pub settings_fit : (s : ℕ) → Fits w64 (min s 65537)
settings_fit s = record { fits = omega arith }

pub row_is : (plan : Plan) (set v : ℕ) → v ≡ view_count plan (members set) → v + 1 ≡ row_width plan set
unfolding row_width
row_is plan set v e = ap (λ (n : ℕ). n + 1) e

pub row_few : (v : ℕ) → v ≤ 1097728 → v + 1 ≤ 1097729
row_few v l = omega arith

pub row_fits : (v : ℕ) → v ≤ 1097728 → Fits w64 (v + 1)
row_fits v l = record { fits = omega arith }

-- As it is: answers name this set, since the check leaves their goals open by `using` alone.
pub ruleset sizing = (rules, kinds_fit, others-counted, own-within, settings_fit, settings-are, row_is, row_few, row_fits)
