-- The sizes of lists and records.
use Rattle.std.proofs.Common.{Result, Ok, Err}
use Prim.Native.Nat.{ℕ, suc, ◌+◌, ◌*◌, ◌<◌, ◌≤◌}
use mathlib.Core.Path.{◌≡◌, refl, sym, ap, ◌∙◌}
use mathlib.Core.Bool.{Bool, true, false, not}
use mathlib.Core.List.{List, [], ◌∷◌, ◌++◌}
use native.Mathlib.Omega.{arith}
use borrow.Author.Rules.{rules}
use borrow.Author.Tests.{not-true, not-false, le-leb, lt-leb, ne_eqb}
use Rattle.numbers.specs.Bytes.{width}
use Rattle.std.specs.Result.{MatchResult, IsOkAnd, IfOk, IfErr}
use Rattle.plan.specs.declared.PlanFile.{PlanFile}
use Rattle.plan.specs.declared.Header.{Header}
use Rattle.plan.specs.declared.Refusal.{Refusal}
use Rattle.plan.specs.declared.Refusal.TheVariants as refusal
use Rattle.plan.specs.Refusals.{Checked}
use Rattle.plan.specs.Refusals.{first_of, need}
use Rattle.plan.specs.Plans.{Plan, party_count, last_call, input_count, coin_count, own_input_count, own_coin_count, triple_numbers, mail_count, written_count}
use Rattle.plan.specs.File.{between, plan_checks, plan_check, plan_of}
use Rattle.plan.specs.Planned.{Planned}
use Rattle.plan.proofs.Refusals.{and_then_end}
use Rattle.plan.proofs.Ranges.{contains_is}
use Rattle.plan.proofs.Planned.{plan_n, plan_gates}
use Rattle.plan_codes.specs.Values.{answer_of, Answered}
use Rattle.plan_codes.proofs.Codes.{answered, refused_then, passed_then}
use Rattle.plan_coalition.specs.Coalitions.{members, set_fits, set_ok}
use Rattle.plan_coalition.proofs.Coalitions.{set_ok_lem}
use Rattle.run_protocol.specs.Rounds.{view_count}
use Rattle.record_laws.specs.Records.{record_size}
use Rattle.pool_sizes.specs.Sizes.{mail_of_call, written_by_call, seat_count, seat_size, call_count, run_count, run_size, stored_size}

-- ---- an answer by its checks
module _ (bs : List ℕ) (r : Result ℕ Refusal) (k : ℕ) (e : k ≡ answer_of r) where
  pub seat_sized : (i call what : ℕ) → Answered r (first_of (plan_checks bs ++ (need refusal.Coalition (between 1 (party_count (plan_of bs)) i) ∷ []))) (width * seat_count (plan_of bs) i call what) → k ≡ seat_size bs i call what
  unfolding seat_size
  seat_sized i call what h = answered _ _ r k h e

  pub run_sized : (set what : ℕ) → Answered r (first_of (plan_checks bs ++ (need refusal.Coalition (set_ok (plan_of bs) set) ∷ []))) (width * run_count (plan_of bs) set what) → k ≡ run_size bs set what
  unfolding run_size
  run_sized set what h = answered _ _ r k h e

  pub calls_counted : Answered r (plan_check bs) (suc (last_call (plan_of bs))) → k ≡ call_count bs
  unfolding call_count
  calls_counted h = answered _ _ r k h e

  pub stored_sized : Answered r (plan_check bs) (record_size (plan_of bs)) → k ≡ stored_size bs
  unfolding stored_size
  stored_sized h = answered _ _ r k h e

-- a size that is worked from a plan that is read
module _ (bs : List ℕ) (r : Result ℕ Refusal) (P : PlanFile → ℕ → Type 0) (size : Plan → ℕ) (each : (f : PlanFile) (s : ℕ) → P f s → s ≡ size (plan_of f.bytes.now)) where
  pub of_plan : (m : Result PlanFile Refusal) → IfOk m (λ f. f.bytes.now ≡ bs) → IfErr m (λ q. plan_check bs ≡ Err q) → MatchResult m (λ f. IsOkAnd r (P f)) (λ q. r ≡ Err q)
      → Answered r (plan_check bs) (size (plan_of bs))
  of_plan m = by m r (λ f s h. each f s h)
    where
      by : (m' : Result PlanFile Refusal) (r' : Result ℕ Refusal) → ((f : PlanFile) (s : ℕ) → P f s → s ≡ size (plan_of f.bytes.now)) → IfOk m' (λ f. f.bytes.now ≡ bs)
          → IfErr m' (λ q. plan_check bs ≡ Err q) → MatchResult m' (λ f. IsOkAnd r' (P f)) (λ q. r' ≡ Err q) → Answered r' (plan_check bs) (size (plan_of bs))
      by (Ok f) (Ok s) g same none h = (ap plan_check (sym same) ∙ f.planned.passes, g f s h ∙ ap (λ (b : List ℕ). size (plan_of b)) same)
      by (Ok f) (Err q) g same none h = absurd h
      by (Err q) r' g same none h = rw h none

-- ---- a plan that passes, then one check more
module _ (bs : List ℕ) (h : Header) (p : Planned bs h) where
  one : (c : Checked) → first_of (c ∷ []) ≡ c
  unfolding first_of
  one c = and_then_end c

  module _ (i : ℕ) (t : Bool) (e : t ≡ between 1 h.n i) where
    pub seat_out : not t ≡ true → first_of (plan_checks bs ++ (need refusal.Coalition (between 1 (party_count (plan_of bs)) i) ∷ [])) ≡ Err refusal.Coalition
    unfolding need
    seat_out n = passed_then bs _ _ p.passes (one _ ∙ rw (plan_n p, ← e, not-true t n))

    pub seat_in : not t ≡ false → first_of (plan_checks bs ++ (need refusal.Coalition (between 1 (party_count (plan_of bs)) i) ∷ [])) ≡ Ok tt
    unfolding need
    seat_in n = passed_then bs _ _ p.passes (one _ ∙ rw (plan_n p, ← e, not-false t n))

  module _ (set : ℕ) (t : Bool) (e : t ≡ set_fits h.n h.t set) where
    pub set_out : not t ≡ true → first_of (plan_checks bs ++ (need refusal.Coalition (set_ok (plan_of bs) set) ∷ [])) ≡ Err refusal.Coalition
    unfolding need
    set_out n = passed_then bs _ _ p.passes (one _ ∙ rw (← set_ok_lem bs h set p, ← e, not-true t n))

    pub set_in : not t ≡ false → first_of (plan_checks bs ++ (need refusal.Coalition (set_ok (plan_of bs) set) ∷ [])) ≡ Ok tt
    unfolding need
    set_in n = passed_then bs _ _ p.passes (one _ ∙ rw (← set_ok_lem bs h set p, ← e, not-false t n))

-- ---- the numbers of a party's lists
module _ (plan : Plan) (i call l : ℕ) (e : l ≡ last_call plan) where
  pub mail_there : (s : ℕ) → call ≤ l → s ≡ mail_count plan i call → s ≡ mail_of_call plan i call
  unfolding mail_of_call
  mail_there s m f = let l' : call ≤ last_call plan = omega arith in f ∙ rw (le-leb call (last_call plan) l') refl

  pub mail_none : l < call → 0 ≡ mail_of_call plan i call
  unfolding mail_of_call
  mail_none m = let l' : last_call plan < call = omega arith in rw (lt-leb call (last_call plan) l') refl

  pub written_there : (s : ℕ) → call ≤ l → s ≡ written_count plan i call → s ≡ written_by_call plan i call
  unfolding written_by_call
  written_there s m f = let l' : call ≤ last_call plan = omega arith in f ∙ rw (le-leb call (last_call plan) l') refl

  pub written_none : l < call → 0 ≡ written_by_call plan i call
  unfolding written_by_call
  written_none m = let l' : last_call plan < call = omega arith in rw (lt-leb call (last_call plan) l') refl

module _ (bs : List ℕ) (h : Header) (planned : Planned bs h) where
  pub state_count : (i call what : ℕ) → what ≡ 2 → 1 + h.gates ≡ seat_count (plan_of bs) i call what
  unfolding seat_count
  state_count i call what k = rw k (ap (λ (n : ℕ). 1 + n) (sym (plan_gates planned)))

module _ (plan : Plan) (i call what s : ℕ) where
  pub count_0 : what ≡ 0 → s ≡ own_input_count plan i → s ≡ seat_count plan i call what
  unfolding seat_count
  count_0 k e = rw k e

  pub count_1 : what ≡ 1 → s ≡ own_coin_count plan i → s ≡ seat_count plan i call what
  unfolding seat_count
  count_1 k e = rw k e

  pub count_3 : what ≡ 3 → s ≡ mail_of_call plan i call → s ≡ seat_count plan i call what
  unfolding seat_count
  count_3 k e = rw k e

  pub count_4 : what ≡ 4 → s ≡ written_by_call plan i call → s ≡ seat_count plan i call what
  unfolding seat_count
  count_4 k e = rw k e

  pub count_5 : what ≡ 5 → s ≡ triple_numbers plan → s ≡ seat_count plan i call what
  unfolding seat_count
  count_5 k e = rw k e

module _ (plan : Plan) (set what s : ℕ) where
  pub all_0 : what ≡ 0 → s ≡ input_count plan → s ≡ run_count plan set what
  unfolding run_count
  all_0 k e = rw k e

  pub all_1 : what ≡ 1 → s ≡ coin_count plan → s ≡ run_count plan set what
  unfolding run_count
  all_1 k e = rw k e

  pub all_2 : what ≡ 2 → s ≡ view_count plan (members set) → s ≡ run_count plan set what
  unfolding run_count
  all_2 k e = rw k e

  pub all_3 : what ≡ 3 → s ≡ party_count plan * triple_numbers plan → s ≡ run_count plan set what
  unfolding run_count
  all_3 k e = rw k e

pub all_other : (plan : Plan) (set what : ℕ) → (what ≡ 0 → ⊥) → (what ≡ 1 → ⊥) → (what ≡ 2 → ⊥) → (what ≡ 3 → ⊥) → 0 ≡ run_count plan set what
unfolding run_count
all_other plan set what a b c d = rw (ne_eqb what 0 a, ne_eqb what 1 b, ne_eqb what 2 c, ne_eqb what 3 d) refl

pub count_other :
    (plan : Plan) (i call what : ℕ) → (what ≡ 0 → ⊥) → (what ≡ 1 → ⊥) → (what ≡ 2 → ⊥) → (what ≡ 3 → ⊥) → (what ≡ 4 → ⊥) → (what ≡ 5 → ⊥)
    → 0 ≡ seat_count plan i call what
unfolding seat_count
count_other plan i call what a b c d e f =
    rw (ne_eqb what 0 a, ne_eqb what 1 b, ne_eqb what 2 c, ne_eqb what 3 d, ne_eqb what 4 e, ne_eqb what 5 f) refl

pub ruleset sizing = (rules, contains_is, refused_then, seat_sized, run_sized, calls_counted, stored_sized, seat_out, seat_in, set_out, set_in)

-- As it is: answers name this set, since the check leaves their goals open by `using` alone.
pub ruleset counting = (rules, mail_there, mail_none, written_there, written_none, state_count, count_0, count_1, count_3, count_4, count_5, count_other, all_0, all_1, all_2, all_3, all_other)
