-- The matching of two runs together as its caller sees it.
--     calling       what closes the needs of the call
-- Assumes nothing.
use Rattle.std.proofs.Common.{Ok, Err}
use mathlib.Core.Path.{◌≡◌, sym, ap, ◌∙◌}
use mathlib.Core.List.{List}
use Prim.Native.Nat.{ℕ}
use borrow.Author.Rules.{rules}
use lib.ListN.{length}
use Rattle.numbers.specs.Bytes.{numbers, bytes_of}
use Rattle.plan.specs.declared.Header.{Header}
use Rattle.plan.specs.declared.Refusal.{Refusal}
use Rattle.plan.specs.Refusals.{Checked, first_of}
use Rattle.plan.specs.File.{plan_check, plan_of}
use Rattle.plan.specs.Planned.{Planned}
use Rattle.plan_coalition.specs.Coalitions.{members}
use Rattle.seat_messages.specs.Calls.{unless_refused}
use Rattle.match_joint.specs.Joint.{matched_joint}
use Rattle.match_prepared.specs.PreparedCalls.{joint_checks, prepared_answer, prepared_after}
use Rattle.match_prepared.specs.PreparedParts.{earlier}
use Rattle.match_prepared.proofs.JointLaws.{jointly}
use Rattle.match_prepared.proofs.TurnLaws.{answer_earlier, answer_main, answer_joint}

module _ (prep bs : List ℕ) (set : ℕ) (xs ys coins : List ℕ) (room : ℕ) where
  -- the preparing plan is refused
  pub refused_first : (r q : Refusal) (d : Checked) → plan_check prep ≡ Err r → d ≡ plan_check bs → Err q ≡ earlier (Err r) d → Err q ≡ prepared_answer prep bs set xs ys coins room
  refused_first r q d e ed eq = answer_earlier prep bs set xs ys coins room r q e (eq ∙ ap (earlier (Err r)) ed)

  -- the main plan is refused, where the preparing plan is read
  pub refused_second : (made : List ℕ) (h : Header) (q : Refusal) → Planned made h → made ≡ prep → plan_check bs ≡ Err q → Err q ≡ prepared_answer prep bs set xs ys coins room
  refused_second made h q p em e = answer_main prep bs set xs ys coins room (ap plan_check (sym em) ∙ p.passes) q e

  -- both plans pass
  module _ (h g : Header) (p : Planned prep h) (q : Planned bs g) (c : Checked) (ec : c ≡ first_of (joint_checks (plan_of prep) (plan_of bs) set xs ys coins room)) where
    answer_is : prepared_answer prep bs set xs ys coins room ≡ c
    answer_is = answer_joint prep bs set xs ys coins room p.passes q.passes ∙ sym ec

    pub checked_answer : (r : Refusal) → c ≡ Err r → Err r ≡ prepared_answer prep bs set xs ys coins room
    checked_answer r f = sym (answer_is ∙ f)

    pub passed_answer : c ≡ Ok tt → Ok tt ≡ prepared_answer prep bs set xs ys coins room
    passed_answer f = sym (answer_is ∙ f)

-- the buffer
module _ (prep bs : List ℕ) (set : ℕ) (xs ys coins out : List ℕ) where
  pub kept_buffer : (q : Refusal) → Err q ≡ prepared_answer prep bs set xs ys coins (length out) → out ≡ prepared_after prep bs set xs ys coins out
  unfolding prepared_after unless_refused
  kept_buffer q e = rw (← e)

  pub written_buffer :
      Ok tt ≡ prepared_answer prep bs set xs ys coins (length out) → (zs : List ℕ)
      → zs ≡ bytes_of (matched_joint (plan_of prep) (plan_of bs) (members set) (numbers xs) (numbers ys) (numbers coins)) → zs ≡ prepared_after prep bs set xs ys coins out
  unfolding prepared_after unless_refused
  written_buffer e zs z = rw (← e) z

pub ruleset calling = (rules, jointly, refused_first, refused_second, checked_answer, passed_answer, kept_buffer, written_buffer)
