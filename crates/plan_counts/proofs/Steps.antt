-- The step that a call sends, found by a pass over the gates.
--     stepping                    what closes the needs of the functions that find it
--     stepped-product             the gate of a product's step
-- Assumes nothing.
use mathlib.Core.Path.{◌≡◌, refl, sym, ap, subst, ◌∙◌}
use mathlib.Core.Bool.{cond}
use mathlib.Core.List.{List, [], ◌∷◌, ◌++◌, append_assoc}
use Prim.Native.Nat.{ℕ, zero, suc, ◌+◌, ◌-◌, ◌<◌, ◌≤◌}
use native.Mathlib.Numerals.{add-one}
use native.Mathlib.Omega.{arith}
use borrow.Author.Rules.{rules}
use borrow.Author.Tests.{eq-eqb, ne_eqb}
use lib.Dec.{eqb}
use lib.ListN.{length, get_or, drop, drop_of_length-le, get_or-append}
use lib.Seq.{drop-cons, get_or-append-add}
use Rattle.plan.specs.declared.Gate.{Gate}
use Rattle.plan.specs.declared.Gate.TheVariants.{Input, Add, Scale, Offset, Multiply, Random, Spend}
use Rattle.plan.specs.declared.Rule.{Rule}
use Rattle.plan.specs.declared.Rule.TheVariants.{Reduction, Truncation}
use Rattle.plan.specs.declared.Step.{Step}
use Rattle.plan.specs.declared.Step.TheVariants.{DealInputs, DealProduct, DealZero, DealMasked, SendTruncated, SendOuts}
use Rattle.plan.specs.declared.Header.{Header}
use Rattle.plan.specs.Plans.{Plan, kind_of, multiply_steps, steps_at, steps_from, steps, step_at}
use Rattle.plan.specs.File.{gate_at, plan_of}
use Rattle.plan.specs.Planned.{Planned}
use Rattle.plan.specs.Kinds.{multiply_rounds}
use Rattle.plan.proofs.Planned.{plan_rule, plan_gates, plan_gate}
use Rattle.plan_counts.specs.Counts.{IsGate, Stepped}

-- ---- a gate's steps
pub step_as : (rule : Rule) (g j : ℕ) (x q : Gate) (s : Step) → x ≡ q → s ≡ get_or (steps_at rule g q) j SendOuts → s ≡ get_or (steps_at rule g x) j SendOuts
step_as rule g j x q s e f = f ∙ sym (ap (λ (y : Gate). get_or (steps_at rule g y) j SendOuts) e)

pub by_rule : (rule q : Rule) (g a b j : ℕ) (s : Step) → rule ≡ q → s ≡ get_or (multiply_steps q g a b) j SendOuts → s ≡ get_or (multiply_steps rule g a b) j SendOuts
by_rule rule q g a b j s e f = f ∙ sym (ap (λ (r : Rule). get_or (multiply_steps r g a b) j SendOuts) e)

pub only_first : (s : Step) (j : ℕ) → j ≡ 0 → s ≡ get_or (s ∷ []) j SendOuts
only_first s j e = rw e

pub only_later : (s : Step) (j : ℕ) → (j ≡ 0 → ⊥) → SendOuts ≡ get_or (s ∷ []) j SendOuts
only_later s zero n = absurd (n refl)
only_later s (suc j) n = refl

module _ (g a b j : ℕ) where
  pub zero-first : j ≡ 0 → DealZero g ≡ get_or (multiply_steps Truncation g a b) j SendOuts
  unfolding multiply_steps
  zero-first e = rw e

  pub masked_second : j ≡ 1 → DealMasked g a b ≡ get_or (multiply_steps Truncation g a b) j SendOuts
  unfolding multiply_steps
  masked_second e = rw e

  pub truncated_third : j ≡ 2 → SendTruncated g ≡ get_or (multiply_steps Truncation g a b) j SendOuts
  unfolding multiply_steps
  truncated_third e = rw e

  pub no-fourth : (j ≡ 0 → ⊥) → (j ≡ 1 → ⊥) → (j ≡ 2 → ⊥) → SendOuts ≡ get_or (multiply_steps Truncation g a b) j SendOuts
  unfolding multiply_steps
  no-fourth n0 n1 n2 = past j n0 n1 n2
    where
      past : (j : ℕ) → (j ≡ 0 → ⊥) → (j ≡ 1 → ⊥) → (j ≡ 2 → ⊥) → SendOuts ≡ get_or (DealZero g ∷ DealMasked g a b ∷ SendTruncated g ∷ []) j SendOuts
      past zero n0 n1 n2 = absurd (n0 refl)
      past (suc zero) n0 n1 n2 = absurd (n1 refl)
      past (suc (suc zero)) n0 n1 n2 = absurd (n2 refl)
      past (suc (suc (suc j))) n0 n1 n2 = refl

  pub reduced_step : (s : Step) → s ≡ get_or (DealProduct g a b ∷ []) j SendOuts → s ≡ get_or (multiply_steps Reduction g a b) j SendOuts
  unfolding multiply_steps
  reduced_step s e = e

-- how many there are, by the gate's kind
pub multiply-steps : (rule : Rule) (k r : ℕ) → k ≡ 5 → r ≡ multiply_rounds rule → r ≡ cond (eqb k 5) (multiply_rounds rule) 1
multiply-steps rule k r e f = rw (eq-eqb k 5 e) f

pub one-step : (rule : Rule) (k : ℕ) → (k ≡ 5 → ⊥) → 1 ≡ cond (eqb k 5) (multiply_rounds rule) 1
one-step rule k n = rw (ne_eqb k 5 n)

steps-long : (rule : Rule) (g : ℕ) (x : Gate) → 5 ≤ kind_of x → cond (eqb (kind_of x) 5) (multiply_rounds rule) 1 ≡ length (steps_at rule g x)
unfolding steps_at kind_of multiply_steps multiply_rounds
steps-long rule g (Input s) l = absurd (omega arith)
steps-long rule g (Add a b) l = absurd (omega arith)
steps-long rule g (Scale a c) l = absurd (omega arith)
steps-long rule g (Offset a c) l = absurd (omega arith)
steps-long Reduction g (Multiply a b) l = refl
steps-long Truncation g (Multiply a b) l = refl
steps-long rule g Random l = refl
steps-long rule g (Spend a b) l = refl

no_steps : (rule : Rule) (g : ℕ) (x : Gate) → kind_of x < 5 → steps_at rule g x ≡ []
unfolding steps_at kind_of
no_steps rule g (Input s) l = refl
no_steps rule g (Add a b) l = refl
no_steps rule g (Scale a c) l = refl
no_steps rule g (Offset a c) l = refl
no_steps rule g (Multiply a b) l = absurd (omega arith)
no_steps rule g Random l = absurd (omega arith)
no_steps rule g (Spend a b) l = absurd (omega arith)

stepped_at : (plan : Plan) (g j : ℕ) (x : Gate) → IsGate plan g x → Stepped plan (get_or (steps_at plan.rule g x) j SendOuts)
unfolding Stepped steps_at multiply_steps kind_of
stepped_at plan g j (Input s) i = tt
stepped_at plan g j (Add a b) i = tt
stepped_at plan g j (Scale a c) i = tt
stepped_at plan g j (Offset a c) i = tt
stepped_at plan g j (Multiply a b) i = of plan.rule refl j
  where
    of : (q : Rule) → plan.rule ≡ q → (j : ℕ) → Stepped plan (get_or (multiply_steps q g a b) j SendOuts)
    of Reduction e zero = (i, e)
    of Reduction e (suc j) = tt
    of Truncation e zero = (record { within = i.within; is = ap kind_of i.is }, e)
    of Truncation e (suc zero) = (i, e)
    of Truncation e (suc (suc zero)) = (record { within = i.within; is = ap kind_of i.is }, e)
    of Truncation e (suc (suc (suc j))) = tt
stepped_at plan g zero Random i = i
stepped_at plan g (suc j) Random i = tt
stepped_at plan g zero (Spend a b) i = i
stepped_at plan g (suc j) (Spend a b) i = tt

-- ---- the pass: at gate g, the step is the one after so many that are left
pub record Stepping (bs : List ℕ) (rule : Rule) (gates k left g : ℕ) : Type 0 where
  pub within : g ≤ gates
  pub is : get_or (steps_from rule g (drop g (plan_of bs).gates) ++ (SendOuts ∷ [])) left SendOuts ≡ step_at (plan_of bs) (suc k)

module _ (bs : List ℕ) (h : Header) (p : Planned bs h) where
  pub steps_begin : (k : ℕ) → Stepping bs h.rule h.gates k k 0
  unfolding step_at steps
  steps_begin k = record { within = omega arith; is = rw (plan_rule p) }

  module _ (k left g : ℕ) (w : Stepping bs h.rule h.gates k left g) (l : g < h.gates) where
    abbrev own : List Step
    own = steps_at h.rule g (gate_at bs g)

    abbrev rest : List Step
    rest = steps_from h.rule (suc g) (drop (suc g) (plan_of bs).gates)

    at : get_or ((own ++ rest) ++ (SendOuts ∷ [])) left SendOuts ≡ step_at (plan_of bs) (suc k)
    unfolding steps_from
    at = rw (drop-cons (plan_of bs).gates g (Input 0) (rw (plan_gates p) l), plan_gate p g l) at w.is

    in_row : get_or (own ++ (rest ++ (SendOuts ∷ []))) left SendOuts ≡ step_at (plan_of bs) (suc k)
    in_row = ap (λ (m : List Step). get_or m left SendOuts) (sym (append_assoc own rest (SendOuts ∷ []))) ∙ at

    module _ (k' r : ℕ) (ek : k' ≡ kind_of (gate_at bs g)) (m : 5 ≤ k') (er : r ≡ cond (eqb k' 5) (multiply_rounds h.rule) 1) where
      long : r ≡ length own
      long = er ∙ ap (λ (n : ℕ). cond (eqb n 5) (multiply_rounds h.rule) 1) ek ∙ steps-long h.rule g (gate_at bs g) (omega arith)

      pub step_found : left < r → (gate : Gate) (s : Step) → gate ≡ gate_at bs g → s ≡ get_or (steps_at h.rule g gate) left SendOuts → s ≡ step_at (plan_of bs) (suc k)
      step_found n gate s eg q =
          q ∙ ap (λ (x : Gate). get_or (steps_at h.rule g x) left SendOuts) eg ∙ sym (get_or-append own (rest ++ (SendOuts ∷ [])) SendOuts left (omega (arith, long))) ∙ in_row

      pub step_passed : r ≤ left → (n : ℕ) → n ≡ left - r → Stepping bs h.rule h.gates k n (g + 1)
      step_passed o n q =
          let there : left ≡ length own + n = omega (arith, long) in
          record {
            within = omega arith;
            is =
                rw add-one
                (sym (get_or-append-add own (rest ++ (SendOuts ∷ [])) n SendOuts) ∙ ap (λ (j : ℕ). get_or (own ++ (rest ++ (SendOuts ∷ []))) j SendOuts) (sym there) ∙ in_row);
          }

    pub step_skipped : (k' : ℕ) → k' ≡ kind_of (gate_at bs g) → k' < 5 → (n : ℕ) → n ≡ left → Stepping bs h.rule h.gates k n (g + 1)
    step_skipped k' ek m n q = record { within = omega arith; is = rw (add-one, q) (rw (no_steps h.rule g (gate_at bs g) (omega arith)) at in_row) }

    pub step_of : (gate : Gate) (s : Step) → gate ≡ gate_at bs g → s ≡ get_or (steps_at h.rule g gate) left SendOuts → Stepped (plan_of bs) s
    step_of gate s eg q =
        let is : IsGate (plan_of bs) g gate = record { within = rw (plan_gates p) l; is = plan_gate p g l ∙ sym eg } in
        subst (Stepped (plan_of bs)) (sym (q ∙ ap (λ (rule : Rule). get_or (steps_at rule g gate) left SendOuts) (sym (plan_rule p))))
        (stepped_at (plan_of bs) g left gate is)

  module _ (k left g : ℕ) (w : Stepping bs h.rule h.gates k left g) where
    pub step-none : h.gates ≤ g → SendOuts ≡ step_at (plan_of bs) (suc k)
    unfolding steps_from
    step-none l = sym (end left) ∙ (rw (drop_of_length-le (plan_of bs).gates {i = g} (rw (plan_gates p) l)) at w.is)
      where
        end : (n : ℕ) → get_or (SendOuts ∷ []) n SendOuts ≡ SendOuts
        end zero = refl
        end (suc n) = refl

module _ (plan : Plan) where
  pub outs_stepped : Stepped plan SendOuts
  unfolding Stepped
  outs_stepped = tt

  pub inputs_stepped : Stepped plan DealInputs
  unfolding Stepped
  inputs_stepped = tt

  pub step_first : (k : ℕ) → k ≡ 0 → DealInputs ≡ step_at plan k
  unfolding step_at steps
  step_first k e = rw e

  pub step_later : (k : ℕ) (s : Step) → (k ≡ 0 → ⊥) → s ≡ step_at plan (suc (k - 1)) → s ≡ step_at plan k
  step_later k s ne e = let q : suc (k - 1) ≡ k = omega arith in e ∙ ap (step_at plan) q

  -- the gate of a product's step
  pub stepped-product : (s : Step) (g a b : ℕ) → Stepped plan s → s ≡ DealProduct g a b → IsGate plan g (Multiply a b)
  unfolding Stepped
  stepped-product s g a b i e = (subst (Stepped plan) e i).0

pub ruleset counting_steps = (rules, multiply-steps, one-step)

-- As it is: answers name this set, since the check leaves their goals open by `using` alone.
pub ruleset stepping =
    (rules, step_as, by_rule, only_first, only_later, zero-first, masked_second, truncated_third, no-fourth, reduced_step, steps_begin, step_found, step_of, step_passed, step_skipped, step-none, outs_stepped, inputs_stepped, step_first, step_later)
