-- Laws of lists of checks.
--     and_then_assoc, first_of-append        a list of checks in parts
--     need-true, need-false                a check by a test
--     found_at, found_nothing              a check by a search
--     passed_both, passed-need, passed_found     what a list of checks that passes says
--     next_passes, both_pass               lists that pass
--     all_pass, first_refused              checks by a rule: that all pass, and the first that refuses
--     Tried, trying                        a loop that tries one after the other
-- Assumes nothing.
use Rattle.std.proofs.Common.{Option, Some, None, Ok, Err}
use mathlib.Core.Path.{◌≡◌, refl, sym, ap, ◌∙◌}
use mathlib.Core.Bool.{Bool, true, false}
use mathlib.Core.List.{List, [], ◌∷◌, ◌++◌}
use Prim.Native.Nat.{ℕ, zero, suc, ◌+◌, ◌-◌, ◌<◌, ◌≤◌}
use native.Mathlib.Omega.{arith}
use Rattle.numbers.specs.Tables.{tab}
use Rattle.numbers.proofs.Tables.{tab-next, tab-append}
use Rattle.plan.specs.declared.Refusal.{Refusal}
use Rattle.plan.specs.Refusals.{Checked}
use Rattle.plan.specs.Refusals.{and_then, first_of, need, unless_found}

pub and_then_passed : (c d : Checked) → c ≡ (Ok tt) → and_then c d ≡ d
unfolding and_then
and_then_passed c d e = rw e

pub and_then_refused : (c d : Checked) (r : Refusal) → c ≡ Err r → and_then c d ≡ Err r
unfolding and_then
and_then_refused c d r e = rw e

pub and_then_end : (c : Checked) → and_then c (Ok tt) ≡ c
unfolding and_then
and_then_end (Ok tt) = refl
and_then_end (Err r) = refl

pub and_then_assoc : (a b c : Checked) → and_then (and_then a b) c ≡ and_then a (and_then b c)
unfolding and_then
and_then_assoc (Ok tt) b c = refl
and_then_assoc (Err r) b c = refl

pub first_of-nil : first_of [] ≡ (Ok tt)
unfolding first_of
first_of-nil = refl

pub first_of-cons : (c : Checked) (cs : List Checked) → first_of (c ∷ cs) ≡ and_then c (first_of cs)
unfolding first_of
first_of-cons c cs = refl

pub first_of-append : (a b : List Checked) → first_of (a ++ b) ≡ and_then (first_of a) (first_of b)
unfolding first_of and_then
first_of-append [] b = refl
first_of-append (c ∷ cs) b = rw (first_of-append cs b) (sym (and_then_assoc c (first_of cs) (first_of b)))

pub need-true : (r : Refusal) (ok : Bool) → ok ≡ true → need r ok ≡ (Ok tt)
unfolding need
need-true r ok e = rw e

pub need-false : (r : Refusal) (ok : Bool) → ok ≡ false → need r ok ≡ Err r
unfolding need
need-false r ok e = rw e

pub found_at : (r : ℕ → Refusal) (f : Option ℕ) (i : ℕ) → f ≡ Some i → unless_found r f ≡ Err (r i)
unfolding unless_found
found_at r f i e = rw e

pub found_nothing : (r : ℕ → Refusal) (f : Option ℕ) → f ≡ None → unless_found r f ≡ (Ok tt)
unfolding unless_found
found_nothing r f e = rw e

-- ---- what checks that pass say
passed≢refused : (r : Refusal) → ◌≡◌ {A = Checked} (Err r) (Ok tt) → ⊥
passed≢refused r h = let z : ◌≡◌ {A = ℕ} 0 1 = cc in omega arith

pub passed_both : (c d : Checked) → and_then c d ≡ (Ok tt) → (c ≡ (Ok tt)) × (d ≡ (Ok tt))
unfolding and_then
passed_both (Ok tt) d h = (refl, h)
passed_both (Err r) d h = absurd (passed≢refused r h)

pub passed-need : (r : Refusal) (ok : Bool) → need r ok ≡ (Ok tt) → ok ≡ true
unfolding need
passed-need r true h = refl
passed-need r false h = absurd (passed≢refused r h)

pub passed_found : (r : ℕ → Refusal) (f : Option ℕ) → unless_found r f ≡ (Ok tt) → f ≡ None
unfolding unless_found
passed_found r (Some i) h = absurd (passed≢refused (r i) h)
passed_found r None h = refl

-- ---- lists that pass
pub next_passes : (c : Checked) (rest : List Checked) → c ≡ (Ok tt) → first_of rest ≡ (Ok tt) → first_of (c ∷ rest) ≡ (Ok tt)
next_passes c rest e h = first_of-cons c rest ∙ and_then_passed c (first_of rest) e ∙ h

pub both_pass : (cs ds : List Checked) → first_of cs ≡ (Ok tt) → first_of ds ≡ (Ok tt) → first_of (cs ++ ds) ≡ (Ok tt)
both_pass cs ds h k = first_of-append cs ds ∙ and_then_passed (first_of cs) (first_of ds) h ∙ k

-- ---- checks by a rule, the first n
pub all_pass : (check : ℕ → Checked) (n : ℕ) → ((k : ℕ) → k < n → check k ≡ (Ok tt)) → first_of (tab check n) ≡ (Ok tt)
unfolding tab first_of and_then
all_pass check zero h = refl
all_pass check (suc n) h = rw (h 0 (omega arith), all_pass (λ k. check (suc k)) n (λ k l. h (suc k) (omega arith)))

-- the first of them that refuses: those before it pass
pub record FirstRefused (check : ℕ → Checked) (n : ℕ) (r : Refusal) : Type 0 where
  pub at : ℕ
  pub within : at < n
  pub refuses : check at ≡ Err r
  pub before : (k : ℕ) → k < at → check k ≡ (Ok tt)

before-suc : (check : ℕ → Checked) (j : ℕ) → check 0 ≡ (Ok tt) → ((k : ℕ) → k < j → check (suc k) ≡ (Ok tt)) → (k : ℕ) → k < suc j → check k ≡ (Ok tt)
before-suc check j e h zero l = e
before-suc check j e h (suc k) l = h k (omega arith)

refused_step : (check : ℕ → Checked) (n : ℕ) (r : Refusal) (c rest : Checked) → check 0 ≡ c → and_then c rest ≡ Err r
    → (rest ≡ Err r → FirstRefused (λ k. check (suc k)) n r) → FirstRefused check (suc n) r
unfolding and_then
refused_step check n r (Err q) rest e h next = record { at = 0; within = omega arith; refuses = e ∙ h; before = λ k l. absurd (omega arith) }
refused_step check n r (Ok tt) rest e h next =
    let w : FirstRefused (λ k. check (suc k)) n r = next h in
    record { at = suc w.at; within = omega (arith, w.within); refuses = w.refuses; before = before-suc check w.at e w.before }

pub first_refused : (check : ℕ → Checked) (n : ℕ) (r : Refusal) → first_of (tab check n) ≡ Err r → FirstRefused check n r
unfolding tab first_of
first_refused check zero r e = absurd (passed≢refused r (sym e))
first_refused check (suc n) r e = refused_step check n r (check 0) (first_of (tab (λ k. check (suc k)) n)) refl e (λ h. first_refused (λ k. check (suc k)) n r h)

-- the invariant of a loop that tries one after the other and stands at j: those before it passed
pub record Tried (check : ℕ → Checked) (n j : ℕ) : Type 0 where
  pub within : j ≤ n
  pub before : first_of (tab check j) ≡ (Ok tt)

pub try-none : (check : ℕ → Checked) (n : ℕ) → Tried check n 0
try-none check n = record { within = omega arith; before = all_pass check 0 (λ k l. absurd (omega arith)) }

module _ (check : ℕ → Checked) (n j : ℕ) (h : Tried check n j) where
  pub try_passed : (c : Checked) → j < n → c ≡ check j → c ≡ (Ok tt) → Tried check n (j + 1)
  unfolding first_of and_then
  try_passed c l is e = record { within = omega arith; before = rw (tab-next check j, first_of-append, h.before, ← is, e) }

  pub try_refused : (c : Checked) (r : Refusal) → j < n → c ≡ check j → c ≡ Err r → c ≡ first_of (tab check n)
  unfolding tab first_of
  try_refused c r l is e =
      let here : j + 0 ≡ j = omega arith in
      let parts : n ≡ j + suc (n - (j + 1)) = omega arith in
      e
      ∙ sym
      (ap (λ (m : ℕ). first_of (tab check m)) parts
      ∙ ap first_of (tab-append check j (suc (n - (j + 1))))
      ∙ first_of-append (tab check j) (tab (λ k. check (j + k)) (suc (n - (j + 1))))
      ∙ and_then_passed _ _ h.before
      ∙ and_then_refused (check (j + 0)) _ r (ap check here ∙ sym is ∙ e))

  pub try_all : n ≤ j → (Ok tt) ≡ first_of (tab check n)
  try_all l = let e : j ≡ n = omega (arith, h.within) in sym (ap (λ (m : ℕ). first_of (tab check m)) (sym e) ∙ h.before)

pub ruleset trying = (try-none, try_passed, try_refused, try_all)
