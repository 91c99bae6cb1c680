-- What each way through the checks of a call says of their definition.
--     listing        refusals 10 to 13
--     checking       all of them
--     passing        what a call that passes them is given
-- Assumes nothing.
use Rattle.std.proofs.Common.{Ok, Err}
use Prim.Native.Nat.{ℕ, ◌*◌, ◌<◌, ◌≤◌}
use mathlib.Core.Path.{◌≡◌, refl, sym, ap, ap₂, ◌∙◌}
use mathlib.Core.Bool.{Bool, true, false, cond}
use mathlib.Core.List.{List, [], ◌∷◌}
use native.Mathlib.Nat.{mul-le-mul}
use native.Mathlib.Omega.{arith}
use borrow.Author.Rules.{rules}
use borrow.Author.Tests.{not-true, not-false, eq-eqb, ne_eqb, eqb-true, le-leb, lt-leb, leb-true}
use lib.Dec.{eqb, leb}
use mir.Syntax.{w64}
use mir.Val.{Fits}
use Rattle.numbers.specs.Bytes.{width, numbers}
use Rattle.numbers.proofs.Bytes.{holds-length}
use Rattle.numbers.proofs.Below.{first_over-nothing}
use Rattle.numbers.proofs.Truth.{both_true}
use Rattle.plan.specs.declared.Header.{Header}
use Rattle.plan.specs.Refusals.{Checked}
use Rattle.plan.specs.declared.Refusal.{Refusal}
use Rattle.plan.specs.declared.Refusal.TheVariants as refusal
use Rattle.plan.specs.Refusals.{and_then, first_of, need}
use Rattle.plan.specs.Plans.{Plan, input_count}
use Rattle.plan.specs.File.{plan_of}
use Rattle.plan.specs.Planned.{Planned}
use Rattle.plan.proofs.Refusals.{and_then_passed, and_then_refused, and_then_end, first_of-append, need-true, need-false, passed_both, passed-need, passed_found}
use Rattle.plan.proofs.Planned.{plan_p}
use Rattle.plan_coalition.specs.Coalitions.{set_fits, set_ok}
use Rattle.plan_coalition.proofs.Coalitions.{set_ok_lem}
use Rattle.seat_admission.specs.Parts.{list_checks}
use Rattle.count_laws.specs.Settings.{member_coins, setting_count}
use Rattle.count_laws.specs.CountCalls.{row_width, count_size, settings_ok, member_checks, counting_checks}
use Rattle.count_call.specs.Counting.{counted_settings, Countable}

-- ---- refusals 10 to 13
module _ (bs : List ℕ) (h : Header) (pl : Planned bs h) (set : ℕ) (inputs coins : List ℕ) where
  inputs_of : ℕ → ℕ → Checked
  inputs_of p n = first_of (list_checks refusal.InputCount refusal.InputValue p n inputs)

  coins_of_lem : ℕ → ℕ → Checked
  coins_of_lem p n = first_of (list_checks refusal.CoinCount refusal.CoinValue p n coins)

  module _ (k : ℕ) (ek : k ≡ input_count (plan_of bs)) (c : Checked) (ec : c ≡ first_of (list_checks refusal.InputCount refusal.InputValue h.field.p k inputs)) where
    list-parts : first_of (member_checks (plan_of bs) set inputs coins) ≡ and_then c (first_of (list_checks refusal.CoinCount refusal.CoinValue h.field.p (member_coins (plan_of bs) set) coins))
    unfolding member_checks inputs_of coins_of_lem
    list-parts =
        first_of-append (list_checks refusal.InputCount refusal.InputValue (plan_of bs).p (input_count (plan_of bs)) inputs)
        (list_checks refusal.CoinCount refusal.CoinValue (plan_of bs).p (member_coins (plan_of bs) set) coins)
        ∙ ap (λ (p : ℕ). and_then (inputs_of p (input_count (plan_of bs))) (coins_of_lem p (member_coins (plan_of bs) set))) (plan_p pl)
        ∙ ap (λ (n : ℕ). and_then (inputs_of h.field.p n) (coins_of_lem h.field.p (member_coins (plan_of bs) set))) (sym ek)
        ∙ ap (λ (d : Checked). and_then d (coins_of_lem h.field.p (member_coins (plan_of bs) set))) (sym ec)

    pub list-inputs : (r : Refusal) → c ≡ Err r → Err r ≡ first_of (member_checks (plan_of bs) set inputs coins)
    list-inputs r e = sym (list-parts ∙ and_then_refused c _ r e)

    pub list-coins :
        c ≡ (Ok tt) → (d : ℕ) → d ≡ member_coins (plan_of bs) set → (r : Checked) → r ≡ first_of (list_checks refusal.CoinCount refusal.CoinValue h.field.p d coins)
        → r ≡ first_of (member_checks (plan_of bs) set inputs coins)
    unfolding coins_of_lem
    list-coins e d ed r er = er ∙ sym (list-parts ∙ and_then_passed c _ e ∙ ap (coins_of_lem h.field.p) (sym ed))

pub ruleset listing = (rules, list-inputs, list-coins)

-- ---- refusal 30
settled : (plan : Plan) (set : ℕ) → settings_ok plan set ≡ true → setting_count plan set ≤ 65536
unfolding settings_ok
settled plan set e = leb-true (setting_count plan set) 65536 (both_true (leb (setting_count plan set) 65536) _ e).0

counted_by : (x k : ℕ) (b : Bool) → k ≡ cond b x 65537 → k ≤ 65536 → (k ≡ x) × (b ≡ true)
counted_by x k true e l = (e, refl)
counted_by x k false e l = absurd (omega arith)

module _ (plan : Plan) (set k : ℕ) (ek : k ≡ counted_settings plan set) where
  pub over : 65536 < k → settings_ok plan set ≡ false
  unfolding counted_settings
  over l = by (settings_ok plan set) refl ek
    where
      by : (b : Bool) → settings_ok plan set ≡ b → k ≡ cond b (setting_count plan set) 65537 → b ≡ false
      by true e q = absurd (omega (arith, settled plan set e))
      by false e q = refl

  pub few-are : k ≤ 65536 → k ≡ setting_count plan set
  unfolding counted_settings
  few-are l = (counted_by (setting_count plan set) k (settings_ok plan set) ek l).0

  pub few-ok : k ≤ 65536 → settings_ok plan set ≡ true
  unfolding counted_settings
  few-ok l = (counted_by (setting_count plan set) k (settings_ok plan set) ek l).1

-- ---- all checks
module _ (bs : List ℕ) (h : Header) (pl : Planned bs h) (set : ℕ) (inputs coins : List ℕ) (room : ℕ) (t : Bool) (et : t ≡ set_fits h.n h.t set) where
  abbrev room-check : Checked
  room-check = need refusal.BufferLength (eqb room (count_size (plan_of bs) set))

  abbrev many-check : Checked
  many-check = need refusal.Settings (settings_ok (plan_of bs) set)

  parts :
      first_of (counting_checks (plan_of bs) set inputs coins room)
      ≡ and_then (need refusal.Coalition (set_ok (plan_of bs) set)) (and_then (first_of (member_checks (plan_of bs) set inputs coins)) (and_then many-check room-check))
  unfolding counting_checks first_of
  parts =
      ap (and_then (need refusal.Coalition (set_ok (plan_of bs) set)))
      (first_of-append (member_checks (plan_of bs) set inputs coins) (many-check ∷ room-check ∷ [])
      ∙ ap (λ (c : Checked). and_then (first_of (member_checks (plan_of bs) set inputs coins)) (and_then many-check c)) (and_then_end room-check))

  set_is : t ≡ set_ok (plan_of bs) set
  set_is = et ∙ set_ok_lem bs h set pl

  pub check-set : t ≡ false → Err refusal.Coalition ≡ first_of (counting_checks (plan_of bs) set inputs coins room)
  check-set e = sym (parts ∙ and_then_refused (need refusal.Coalition (set_ok (plan_of bs) set)) _ refusal.Coalition (need-false refusal.Coalition (set_ok (plan_of bs) set) (sym set_is ∙ e)))

  module _ (y : t ≡ true) (c : Checked) (ec : c ≡ first_of (member_checks (plan_of bs) set inputs coins)) where
    past-set : first_of (counting_checks (plan_of bs) set inputs coins room) ≡ and_then c (and_then many-check room-check)
    past-set =
        parts ∙ and_then_passed (need refusal.Coalition (set_ok (plan_of bs) set)) _ (need-true refusal.Coalition (set_ok (plan_of bs) set) (sym set_is ∙ y))
        ∙ ap (λ (d : Checked). and_then d (and_then many-check room-check)) (sym ec)

    pub check-lists : (r : Refusal) → c ≡ Err r → Err r ≡ first_of (counting_checks (plan_of bs) set inputs coins room)
    check-lists r e = sym (past-set ∙ and_then_refused c _ r e)

    module _ (e : c ≡ (Ok tt)) (k : ℕ) (ek : k ≡ counted_settings (plan_of bs) set) where
      past-lists : first_of (counting_checks (plan_of bs) set inputs coins room) ≡ and_then many-check room-check
      past-lists = past-set ∙ and_then_passed c _ e

      pub check-many : 65536 < k → Err refusal.Settings ≡ first_of (counting_checks (plan_of bs) set inputs coins room)
      check-many l = sym (past-lists ∙ and_then_refused many-check _ refusal.Settings (need-false refusal.Settings (settings_ok (plan_of bs) set) (over (plan_of bs) set k ek l)))

      module _ (l : k ≤ 65536) (w : ℕ) (ew : w ≡ row_width (plan_of bs) set) where
        size_is : width * (w * k) ≡ count_size (plan_of bs) set
        unfolding count_size
        size_is = ap₂ (λ (a b : ℕ). width * (a * b)) ew (few-are (plan_of bs) set k ek l)

        past-many : first_of (counting_checks (plan_of bs) set inputs coins room) ≡ need refusal.BufferLength (eqb room (width * (w * k)))
        past-many =
            past-lists ∙ and_then_passed many-check _ (need-true refusal.Settings (settings_ok (plan_of bs) set) (few-ok (plan_of bs) set k ek l))
            ∙ ap (λ (n : ℕ). need refusal.BufferLength (eqb room n)) (sym size_is)

        pub check-room : (room ≡ width * (w * k) → ⊥) → Err refusal.BufferLength ≡ first_of (counting_checks (plan_of bs) set inputs coins room)
        check-room n = sym (past-many ∙ need-false refusal.BufferLength (eqb room (width * (w * k))) (ne_eqb room (width * (w * k)) n))

        pub check-passed : room ≡ width * (w * k) → (Ok tt) ≡ first_of (counting_checks (plan_of bs) set inputs coins room)
        check-passed q = sym (past-many ∙ need-true refusal.BufferLength (eqb room (width * (w * k))) (eq-eqb room (width * (w * k)) q))

pub few-numbers : (w k : ℕ) → w ≤ 1097729 → k ≤ 65536 → w * k ≤ 71940767744
few-numbers w k l m = mul-le-mul {n₁ = w} {m₁ = k} {n₂ = 1097729} {m₂ = 65536} l m

pub numbers_fit : (w k : ℕ) → w ≤ 1097729 → k ≤ 65536 → Fits w64 (w * k)
numbers_fit w k l m = record { fits = omega (arith, few-numbers w k l m) }

pub size_fits : (w k : ℕ) → w ≤ 1097729 → k ≤ 65536 → Fits w64 (width * (w * k))
size_fits w k l m = record { fits = omega (arith, few-numbers w k l m) }

pub ruleset checking = (rules, not-true, not-false, check-set, check-lists, check-many, check-room, check-passed, numbers_fit, size_fits)

-- ---- a call that passes
module _ (plan : Plan) (set : ℕ) (inputs coins : List ℕ) (room : ℕ) (e : first_of (counting_checks plan set inputs coins room) ≡ (Ok tt)) where
  pub passed-countable : Countable plan set inputs coins
  unfolding counting_checks member_checks list_checks first_of settings_ok
  passed-countable =
      let a = passed_both _ _ e in
      let b = passed_both _ _ a.1 in
      let c = passed_both _ _ b.1 in
      let d = passed_both _ _ c.1 in
      let f = passed_both _ _ d.1 in
      let g = passed_both _ _ f.1 in
      record {
        fits = passed-need refusal.Coalition _ a.0;
        inputs_count = holds-length (input_count plan) inputs (passed-need refusal.InputCount _ b.0);
        inputs_below = first_over-nothing plan.p (numbers inputs) (passed_found refusal.InputValue _ c.0);
        given_below = first_over-nothing plan.p (numbers coins) (passed_found refusal.CoinValue _ f.0);
        counted = passed-need refusal.Settings _ g.0;
        few = settled plan set (passed-need refusal.Settings _ g.0);
      }

  pub passed-size : room ≡ count_size plan set
  unfolding counting_checks member_checks list_checks first_of
  passed-size =
      let a = passed_both _ _ e in
      let b = passed_both _ _ a.1 in
      let c = passed_both _ _ b.1 in
      let d = passed_both _ _ c.1 in
      let f = passed_both _ _ d.1 in
      let g = passed_both _ _ f.1 in
      let i = passed_both _ _ g.1 in
      eqb-true room (count_size plan set) (passed-need refusal.BufferLength _ i.0)
