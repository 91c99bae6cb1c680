-- The size of the list of views.
use Rattle.std.proofs.Common.{Result, Ok, Err}
use Prim.Native.Nat.{ℕ, ◌*◌, ◌<◌, ◌≤◌}
use mathlib.Core.Path.{◌≡◌, sym, ap₂, ◌∙◌}
use mathlib.Core.Bool.{Bool, true, false}
use mathlib.Core.List.{List, [], ◌∷◌}
use native.Mathlib.Omega.{arith}
use borrow.Author.Rules.{rules}
use Rattle.numbers.specs.Bytes.{width}
use Rattle.plan.specs.declared.Header.{Header}
use Rattle.plan.specs.declared.Refusal.{Refusal}
use Rattle.plan.specs.declared.Refusal.TheVariants as refusal
use Rattle.plan.specs.Refusals.{Checked}
use Rattle.plan.specs.Refusals.{and_then, first_of, need}
use Rattle.plan.specs.File.{plan_checks, plan_check, plan_of}
use Rattle.plan.specs.Planned.{Planned}
use Rattle.plan.proofs.Refusals.{first_of-append, and_then_passed, and_then_refused, and_then_end, need-true, need-false}
use Rattle.plan_codes.specs.Values.{answer_of, Answered}
use Rattle.plan_codes.proofs.Codes.{answered, refused_then}
use Rattle.plan_coalition.specs.Coalitions.{set_fits, set_ok}
use Rattle.plan_coalition.proofs.Coalitions.{set_ok_lem}
use Rattle.count_laws.specs.CountCalls.{row_width, count_size, settings_ok, count_size_answer}
use Rattle.count_call.specs.Counting.{counted_settings}
use Rattle.count_call.proofs.CheckLaws.{few-are, few-ok, over, numbers_fit, size_fits, few-numbers}
use Rattle.pool_views.specs.ViewSizes.{views_size}

-- ---- the size of the list of views
pub views_refused : (bs : List ℕ) (set : ℕ) (q : Refusal) → plan_check bs ≡ Err q → count_size_answer bs set ≡ Err q
unfolding count_size_answer
views_refused bs set q e = refused_then bs _ q e

module _ (xs bs : List ℕ) (same : xs ≡ bs) (h : Header) (pl : Planned xs h) (set : ℕ) (t : Bool) (et : t ≡ set_fits h.n h.t set) where
  set-as : set_ok (plan_of xs) set ≡ t
  set-as = sym (et ∙ set_ok_lem xs h set pl)

  size-parts : count_size_answer xs set ≡ and_then (need refusal.Coalition t) (need refusal.Settings (settings_ok (plan_of xs) set))
  unfolding count_size_answer plan_check first_of
  size-parts =
      first_of-append (plan_checks xs) (need refusal.Coalition (set_ok (plan_of xs) set) ∷ need refusal.Settings (settings_ok (plan_of xs) set) ∷ [])
      ∙ and_then_passed _ _ pl.passes
      ∙ ap₂ (λ (b : Bool) (c : Checked). and_then (need refusal.Coalition b) c) set-as (and_then_end (need refusal.Settings (settings_ok (plan_of xs) set)))

  pub views_set : t ≡ false → count_size_answer bs set ≡ Err refusal.Coalition
  views_set f = rw (← same) (size-parts ∙ and_then_refused _ _ refusal.Coalition (need-false refusal.Coalition t f))

  module _ (y : t ≡ true) (n : ℕ) (en : n ≡ counted_settings (plan_of xs) set) where
    past-set : count_size_answer xs set ≡ need refusal.Settings (settings_ok (plan_of xs) set)
    past-set = size-parts ∙ and_then_passed _ _ (need-true refusal.Coalition t y)

    pub views_many : 65536 < n → count_size_answer bs set ≡ Err refusal.Settings
    views_many l = rw (← same) (past-set ∙ need-false refusal.Settings (settings_ok (plan_of xs) set) (over (plan_of xs) set n en l))

    pub views_passed : n ≤ 65536 → count_size_answer bs set ≡ Ok tt
    views_passed l = rw (← same) (past-set ∙ need-true refusal.Settings (settings_ok (plan_of xs) set) (few-ok (plan_of xs) set n en l))

    pub views_long : n ≤ 65536 → (w : ℕ) → w ≡ row_width (plan_of xs) set → width * (w * n) ≡ count_size (plan_of bs) set
    unfolding count_size
    views_long l w ew = rw (← same) (ap₂ (λ (x y : ℕ). width * (x * y)) ew (few-are (plan_of xs) set n en l))

pub views-sized : (bs : List ℕ) (set : ℕ) (r : Result ℕ Refusal) (k : ℕ) → k ≡ answer_of r → Answered r (count_size_answer bs set) (count_size (plan_of bs) set) → k ≡ views_size bs set
unfolding views_size
views-sized bs set r k e h = answered _ _ r k h e

pub views_small : (w n : ℕ) → w ≤ 1097729 → n ≤ 65536 → width * (w * n) < 72057594037927936
views_small w n l m = omega (arith, few-numbers w n l m)

pub ruleset viewing = (rules, views_refused, views_set, views_many, views_passed, views_long, views-sized, views_small, numbers_fit, size_fits)
