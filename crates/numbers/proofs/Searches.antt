-- Searches: the first index at which a test fails.
--     Seeking, seeking                 a loop over the indices: its invariant, and what closes its needs
--     nothing_passes, passes-nothing   nothing is found exactly where every index passes
--     find_is                          what `find` finds over the indices
--     first_failing_lem, failing_first     i is found exactly where it is the first that fails
-- Assumes nothing.
use Rattle.std.proofs.Common.{Option, Some, None, MatchOption}
use mathlib.Core.Path.{◌≡◌, refl, sym, ap, subst, ◌∙◌}
use mathlib.Core.Logic.{⊎_elim}
use mathlib.Core.Bool.{Bool, true, false, cond, not}
use Prim.Native.Nat.{ℕ, zero, suc, ◌+◌, ◌-◌, ◌<◌, ◌≤◌}
use native.Mathlib.Numerals.{add-one}
use native.Mathlib.Nat.{eq-or-lt_of_le}
use native.Mathlib.Omega.{arith}
use borrow.Author.Rules.{rules}
use borrow.Author.Tests.{not-true, not-false}
use Rattle.numbers.specs.Tables.{first_from, first_failing}

-- the invariant of a search over n indices that stands at i: what is left to find is what there is to find
pub record Seeking (ok : ℕ → Bool) (n i : ℕ) : Type 0 where
  pub within : i ≤ n
  pub rest : first_from ok (n - i) i ≡ first_failing ok n

pub begin : (ok : ℕ → Bool) (n : ℕ) → Seeking ok n 0
unfolding first_failing
begin ok n = let e : n - 0 ≡ n = omega arith in record { within = omega arith; rest = rw e }

module _ (ok : ℕ → Bool) (n i : ℕ) (h : Seeking ok n i) where
  one : i < n → n - i ≡ suc (n - (i + 1))
  one l = omega arith

  pub found : i < n → ok i ≡ false → Some i ≡ first_failing ok n
  unfolding first_from
  found l t = rw (← h.rest, one l, t)

  pub passed : i < n → ok i ≡ true → Seeking ok n (i + 1)
  unfolding first_from
  passed l t = record { within = omega arith; rest = rw (← h.rest, one l, t, add-one) }

  pub nothing : n ≤ i → None ≡ first_failing ok n
  unfolding first_from
  nothing l = let e : n - i ≡ 0 = omega arith in rw (← h.rest, e)

  -- the same where a callee answers the test, and the code asks it or its negation
  pub found_by : (t : Bool) → i < n → t ≡ ok i → t ≡ false → Some i ≡ first_failing ok n
  found_by t l is e = found l (sym is ∙ e)

  pub found-not : (t : Bool) → i < n → t ≡ ok i → not t ≡ true → Some i ≡ first_failing ok n
  found-not t l is e = found l (sym is ∙ not-true t e)

  pub passed_by : (t : Bool) → i < n → t ≡ ok i → t ≡ true → Seeking ok n (i + 1)
  passed_by t l is e = passed l (sym is ∙ e)

  pub passed-not : (t : Bool) → i < n → t ≡ ok i → not t ≡ false → Seeking ok n (i + 1)
  passed-not t l is e = passed l (sym is ∙ not-false t e)

-- what closes each need of such a loop
pub ruleset seeking = (rules, begin, found, passed, found_by, found-not, passed_by, passed-not, nothing)

-- ---- what an answer says
-- i is the first of n indices that fails
pub record First (ok : ℕ → Bool) (n i : ℕ) : Type 0 where
  pub within : i < n
  pub fails : ok i ≡ false
  pub before : (k : ℕ) → k < i → ok k ≡ true

at≢nothing : (i : ℕ) → Some i ≡ None → ⊥
at≢nothing i h = let z : ◌≡◌ {A = ℕ} 0 1 = cc in omega arith

module _ (ok : ℕ → Bool) where
  -- the same for the n indices from a on
  record FirstFrom (n a i : ℕ) : Type 0 where
    after : a ≤ i
    within : i < a + n
    fails : ok i ≡ false
    before : (k : ℕ) → a ≤ k → k < i → ok k ≡ true

  passes_at : (a k : ℕ) → ok a ≡ true → a ≤ k → (a < k → ok k ≡ true) → ok k ≡ true
  passes_at a k e l more = ⊎_elim (λ q. subst (λ (j : ℕ). ok j ≡ true) q e) more (eq-or-lt_of_le l)

  nothing_step : (a k : ℕ) (t : Bool) (r : Option ℕ) → ok a ≡ t → cond t r (Some a) ≡ None → a ≤ k → (r ≡ None → a < k → ok k ≡ true) → ok k ≡ true
  nothing_step a k false r e h l next = absurd (at≢nothing a h)
  nothing_step a k true r e h l next = passes_at a k e l (next h)

  nothing_from : (n a k : ℕ) → first_from ok n a ≡ None → a ≤ k → k < a + n → ok k ≡ true
  unfolding first_from
  nothing_from zero a k h l m = absurd (omega arith)
  nothing_from (suc n) a k h l m = nothing_step a k (ok a) (first_from ok n (suc a)) refl h l (λ e q. nothing_from n (suc a) k e q (omega arith))

  from_nothing : (n a : ℕ) → ((k : ℕ) → a ≤ k → k < a + n → ok k ≡ true) → first_from ok n a ≡ None
  unfolding first_from
  from_nothing zero a h = refl
  from_nothing (suc n) a h = rw (h a (omega arith) (omega arith)) (from_nothing n (suc a) (λ k l m. h k (omega arith) (omega arith)))

  first_step : (n a i : ℕ) (t : Bool) (r : Option ℕ) → ok a ≡ t → cond t r (Some a) ≡ Some i → (r ≡ Some i → FirstFrom n (suc a) i) → FirstFrom (suc n) a i
  first_step n a i false r e h next =
      let q : a ≡ i = cc in
      subst (FirstFrom (suc n) a) q (record { after = omega arith; within = omega arith; fails = e; before = λ k l m. absurd (omega arith) })
  first_step n a i true r e h next =
      let w : FirstFrom n (suc a) i = next h in
      record { after = omega arith; within = omega arith; fails = w.fails; before = λ k l m. passes_at a k e l (λ q. w.before k q m) }

  first_from_lem : (n a i : ℕ) → first_from ok n a ≡ Some i → FirstFrom n a i
  unfolding first_from
  first_from_lem zero a i h = absurd (at≢nothing i (sym h))
  first_from_lem (suc n) a i h = first_step n a i (ok a) (first_from ok n (suc a)) refl h (λ e. first_from_lem n (suc a) i e)

  from_first : (n a i : ℕ) → FirstFrom n a i → first_from ok n a ≡ Some i
  unfolding first_from
  from_first zero a i w = absurd (omega (arith, w.after, w.within))
  from_first (suc n) a i w =
      ⊎_elim
      (λ q. let e : ok a ≡ false = ap ok q ∙ w.fails in rw (e, q))
      (λ m. rw (w.before a (omega arith) m) (from_first n (suc a) i (record { after = m; within = omega (arith, w.within); fails = w.fails; before = λ k l o. w.before k (omega arith) o })))
      (eq-or-lt_of_le w.after)

  pub nothing_passes : (n : ℕ) → first_failing ok n ≡ None → (i : ℕ) → i < n → ok i ≡ true
  unfolding first_failing
  nothing_passes n h i l = nothing_from n 0 i h (omega arith) (omega arith)

  pub passes-nothing : (n : ℕ) → ((i : ℕ) → i < n → ok i ≡ true) → first_failing ok n ≡ None
  unfolding first_failing
  passes-nothing n h = from_nothing n 0 (λ k l m. h k (omega arith))

  pub first_failing_lem : (n i : ℕ) → first_failing ok n ≡ Some i → First ok n i
  unfolding first_failing
  first_failing_lem n i h =
      let w : FirstFrom n 0 i = first_from_lem n 0 i h in
      record { within = omega (arith, w.within); fails = w.fails; before = λ k l. w.before k (omega arith) l }

  pub failing_first : (n i : ℕ) → First ok n i → first_failing ok n ≡ Some i
  unfolding first_failing
  failing_first n i w = from_first n 0 i (record { after = omega arith; within = omega (arith, w.within); fails = w.fails; before = λ k l m. w.before k m })

-- what `find` says of the first of n indices at which the test fails
pub find_is :
    (ok : ℕ → Bool) (n : ℕ) (r : Option ℕ)
    → MatchOption r ((k : ℕ) → 0 ≤ k → k < n → ok k ≡ true) (λ i. (0 ≤ i) × (i < n) × (ok i ≡ false) × ((k : ℕ) → 0 ≤ k → k < i → ok k ≡ true))
    → r ≡ first_failing ok n
find_is ok n None h = sym (passes-nothing ok n (λ k l. h k (omega arith) l))
find_is ok n (Some i) h = sym (failing_first ok n i (record { within = h.1; fails = h.2; before = λ k l. h.3 k (omega arith) l }))

from_ext : (f g : ℕ → Bool) (n a : ℕ) → ((k : ℕ) → a ≤ k → k < a + n → f k ≡ g k) → first_from f n a ≡ first_from g n a
unfolding first_from
from_ext f g zero a h = refl
from_ext f g (suc n) a h = rw (h a (omega arith) (omega arith), from_ext f g n (suc a) (λ k l m. h k (omega arith) (omega arith)))

-- two tests that agree below n
pub first_ext : (f g : ℕ → Bool) (n : ℕ) → ((i : ℕ) → i < n → f i ≡ g i) → first_failing f n ≡ first_failing g n
unfolding first_failing
first_ext f g n h = from_ext f g n 0 (λ k l m. h k (omega arith))
