-- Refusals as numbers.
--     code-answered                  the code of an answer that another call gave
--     value_refused, value_passed    an answer with a value
--     answered                       the answer of a call that gives a value or its checks' refusal
--     refused_then, passed_then      checks after those of a plan
-- Assumes nothing.
use Rattle.std.proofs.Common.{Result, Ok, Err}
use mathlib.Core.Path.{◌≡◌, sym, ap, ◌∙◌}
use Prim.Native.Nat.{ℕ, ◌*◌}
use mathlib.Core.List.{List, ◌++◌}
use Rattle.plan.specs.declared.Refusal.{Refusal}
use Rattle.plan.specs.Refusals.{Checked}
use Rattle.plan.specs.Refusals.{code_of, first_of}
use Rattle.plan.specs.File.{plan_checks, plan_check}
use Rattle.plan.proofs.Refusals.{first_of-append, and_then_refused, and_then_passed}
use Rattle.plan_codes.specs.Values.{value_of, answer_of, Answered}

pub code-answered : (a c : Checked) (r : ℕ) → c ≡ a → r ≡ code_of c → r ≡ code_of a
code-answered a c r e f = f ∙ ap code_of e

-- ---- an answer with a value
pub value_refused : (c : Checked) (q : Refusal) (v : ℕ) → c ≡ Err q → value_of c v ≡ code_of c
unfolding value_of
value_refused c q v e = rw e

pub value_passed : (c : Checked) (v : ℕ) → c ≡ (Ok tt) → value_of c v ≡ 256 * v
unfolding value_of
value_passed c v e = rw e

-- the answer of a call that gives a value where its checks hold, and else their refusal
pub answered : (c : Checked) (v : ℕ) (r : Result ℕ Refusal) (k : ℕ) → Answered r c v → k ≡ answer_of r → k ≡ value_of c v
unfolding answer_of
answered c v (Ok s) k h e = e ∙ ap (λ (x : ℕ). 256 * x) h.1 ∙ sym (value_passed c v h.0)
answered c v (Err q) k h e = e ∙ ap code_of (sym h) ∙ sym (value_refused c q v h)

-- a refused plan is refused whatever else is checked
pub refused_then : (bs : List ℕ) (checks : List Checked) (q : Refusal) → plan_check bs ≡ Err q → first_of (plan_checks bs ++ checks) ≡ Err q
unfolding plan_check
refused_then bs checks q e = first_of-append (plan_checks bs) checks ∙ and_then_refused _ _ q e

-- at a plan that passes the others decide
pub passed_then : (bs : List ℕ) (checks : List Checked) (c : Checked) → plan_check bs ≡ Ok tt → first_of checks ≡ c → first_of (plan_checks bs ++ checks) ≡ c
unfolding plan_check
passed_then bs checks c e f = first_of-append (plan_checks bs) checks ∙ and_then_passed _ _ e ∙ f
