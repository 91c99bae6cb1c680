-- The matching as its caller sees it.
--     pairing_up      what closes the needs of the call
-- Assumes nothing.
use Rattle.std.proofs.Common.{Ok, Err}
use mathlib.Core.Path.{◌≡◌, sym, ◌∙◌}
use mathlib.Core.List.{List}
use Prim.Native.Nat.{ℕ}
use borrow.Author.Rules.{rules}
use lib.ListN.{length}
use Rattle.numbers.specs.Bytes.{numbers, bytes_of}
use Rattle.plan.specs.declared.Header.{Header}
use Rattle.plan.specs.declared.Refusal.{Refusal}
use Rattle.plan.specs.Refusals.{Checked, and_then, first_of}
use Rattle.plan.specs.File.{plan_checks, plan_check, plan_of}
use Rattle.plan.specs.Planned.{Planned}
use Rattle.plan_coalition.specs.Coalitions.{members}
use Rattle.plan.proofs.Refusals.{and_then_passed, and_then_refused, first_of-append}
use Rattle.seat_messages.specs.Calls.{unless_refused}
use Rattle.match_privacy.specs.Matching.{matched_coins}
use Rattle.match_agreement.specs.MatchCalls.{pair_checks, match_answer, matched_after}
use Rattle.match_agreement.proofs.AgreeLaws.{matchable}

module _ (bs : List ℕ) (set : ℕ) (xs ys coins : List ℕ) (room : ℕ) where
  answer_parts : match_answer bs set xs ys coins room ≡ and_then (plan_check bs) (first_of (pair_checks (plan_of bs) set xs ys coins room))
  unfolding match_answer plan_check
  answer_parts = first_of-append (plan_checks bs) (pair_checks (plan_of bs) set xs ys coins room)

  -- the plan is refused
  pub refused_answer : (q : Refusal) → plan_check bs ≡ Err q → Err q ≡ match_answer bs set xs ys coins room
  refused_answer q e = sym (answer_parts ∙ and_then_refused (plan_check bs) _ q e)

  -- the plan passes
  module _ (h : Header) (k : Planned bs h) (c : Checked) (ec : c ≡ first_of (pair_checks (plan_of bs) set xs ys coins room)) where
    plan_passes : match_answer bs set xs ys coins room ≡ c
    plan_passes = answer_parts ∙ and_then_passed (plan_check bs) _ k.passes ∙ sym ec

    pub checked_answer : (q : Refusal) → c ≡ Err q → Err q ≡ match_answer bs set xs ys coins room
    checked_answer q f = sym (plan_passes ∙ f)

    pub passed_answer : c ≡ Ok tt → Ok tt ≡ match_answer bs set xs ys coins room
    passed_answer f = sym (plan_passes ∙ f)

-- the buffer
module _ (bs : List ℕ) (set : ℕ) (xs ys coins out : List ℕ) where
  pub refused_buffer : (q : Refusal) → plan_check bs ≡ Err q → out ≡ matched_after bs set xs ys coins out
  unfolding matched_after unless_refused
  refused_buffer q e = rw (← refused_answer bs set xs ys coins (length out) q e)

  module _ (h : Header) (k : Planned bs h) (c : Checked) (ec : c ≡ first_of (pair_checks (plan_of bs) set xs ys coins (length out))) where
    pub checked_buffer : (q : Refusal) → c ≡ Err q → out ≡ matched_after bs set xs ys coins out
    unfolding matched_after unless_refused
    checked_buffer q f = rw (plan_passes bs set xs ys coins (length out) h k c ec, f)

    pub passed_buffer :
        c ≡ Ok tt → (zs : List ℕ) → zs ≡ bytes_of (matched_coins (plan_of bs) (members set) (numbers xs) (numbers ys) (numbers coins)) → zs ≡ matched_after bs set xs ys coins out
    unfolding matched_after unless_refused
    passed_buffer f zs z = rw (plan_passes bs set xs ys coins (length out) h k c ec, f) z

pub ruleset pairing_up = (rules, matchable, refused_answer, refused_buffer, checked_answer, checked_buffer, passed_answer, passed_buffer)
