-- The steps of a plan, gate by gate, and a dealer's coins.
--     steps-below                how many steps the gates below a gate have
--     step_first, step_in        which step a number has
--     last-call                  how many calls there are
--     count-replicate            how many of a dealing's coins are a party's
-- Assumes nothing.
use mathlib.Core.Path.{◌≡◌, refl, sym, ap, ap₂, ◌∙◌}
use mathlib.Core.Bool.{Bool, true, false, cond}
use mathlib.Core.List.{List, [], ◌∷◌, ◌++◌, append_assoc}
use Prim.Native.Nat.{ℕ, zero, suc, ◌+◌, ◌<◌}
use native.Mathlib.Omega.{arith}
use lib.Dec.{eqb}
use lib.ListN.{length, take, drop, get_or, replicate, length-append, take-append-drop, get_or-append}
use lib.Seq.{drop-cons, length-take-le, get_or-append-add, take_all}
use Rattle.numbers.specs.Tables.{count_where}
use Rattle.plan.specs.declared.Gate.{Gate}
use Rattle.plan.specs.declared.Gate.TheVariants.{Input}
use Rattle.plan.specs.declared.Rule.{Rule}
use Rattle.plan.specs.declared.Step.{Step}
use Rattle.plan.specs.declared.Step.TheVariants.{DealInputs, SendOuts}
use Rattle.plan.specs.Plans.{Plan, steps_at, steps_from, steps, step_at, last_call}

-- ---- steps
steps-append : (rule : Rule) (g : ℕ) (xs ys : List Gate) → steps_from rule g (xs ++ ys) ≡ steps_from rule g xs ++ steps_from rule (g + length xs) ys
unfolding steps_from
steps-append rule g [] ys = let e : g ≡ g + 0 = omega arith in ap (λ (k : ℕ). steps_from rule k ys) e
steps-append rule g (x ∷ xs) ys =
    let e : suc g + length xs ≡ g + suc (length xs) = omega arith in
    ap (λ (l : List Step). steps_at rule g x ++ l) (steps-append rule (suc g) xs ys ∙ ap (λ (k : ℕ). steps_from rule (suc g) xs ++ steps_from rule k ys) e)
    ∙ sym (append_assoc (steps_at rule g x) (steps_from rule (suc g) xs) (steps_from rule (g + suc (length xs)) ys))

module _ (plan : Plan) where
  -- how many steps the gates below gate g have
  unfoldable pub steps-below : ℕ → ℕ
  steps-below g = length (steps_from plan.rule 0 (take g plan.gates))

  module _ (g : ℕ) (l : g < length plan.gates) where
    below-long : 0 + length (take g plan.gates) ≡ g
    below-long = omega (arith, length-take-le g plan.gates (omega arith))

    -- the steps before gate g, its own, and those after it
    steps-split :
        steps_from plan.rule 0 plan.gates
        ≡ steps_from plan.rule 0 (take g plan.gates) ++ (steps_at plan.rule g (get_or plan.gates g (Input 0)) ++ steps_from plan.rule (suc g) (drop (suc g) plan.gates))
    unfolding steps_from
    steps-split =
        ap (steps_from plan.rule 0) (sym (take-append-drop g plan.gates))
        ∙ steps-append plan.rule 0 (take g plan.gates) (drop g plan.gates)
        ∙ ap₂ (λ (k : ℕ) (m : List Gate). steps_from plan.rule 0 (take g plan.gates) ++ steps_from plan.rule k m) below-long (drop-cons plan.gates g (Input 0) l)

    -- step j of gate g
    pub step_in :
        (j k : ℕ) → j < length (steps_at plan.rule g (get_or plan.gates g (Input 0))) → k ≡ suc (steps-below g + j)
        → step_at plan k ≡ get_or (steps_at plan.rule g (get_or plan.gates g (Input 0))) j SendOuts
    unfolding step_at steps steps-below
    step_in j k m e =
        let own : List Step = steps_at plan.rule g (get_or plan.gates g (Input 0)) in
        let rest : List Step = steps_from plan.rule (suc g) (drop (suc g) plan.gates) in
        let before : List Step = steps_from plan.rule 0 (take g plan.gates) in
        rw e
        (ap (λ (s : List Step). get_or (s ++ (SendOuts ∷ [])) (length before + j) SendOuts) steps-split
        ∙ ap (λ (s : List Step). get_or s (length before + j) SendOuts) (append_assoc before (own ++ rest) (SendOuts ∷ []))
        ∙ get_or-append-add before ((own ++ rest) ++ (SendOuts ∷ [])) j SendOuts
        ∙ ap (λ (s : List Step). get_or s j SendOuts) (append_assoc own rest (SendOuts ∷ []))
        ∙ get_or-append own (rest ++ (SendOuts ∷ [])) SendOuts j m)

  pub step_first : step_at plan 0 ≡ DealInputs
  unfolding step_at steps
  step_first = refl

  pub last-call : last_call plan ≡ suc (suc (steps-below (length plan.gates)))
  unfolding last_call steps steps-below
  last-call =
      ap (λ (m : List Gate). suc (length (steps_from plan.rule 0 m ++ (SendOuts ∷ [])))) (sym (take_all (length plan.gates) plan.gates (omega arith)))
      ∙ omega (arith, length-append (steps_from plan.rule 0 (take (length plan.gates) plan.gates)) (SendOuts ∷ []))

-- ---- a dealer's coins
pub count-replicate : (i o n : ℕ) → count_where (eqb i) (replicate n o) ≡ cond (eqb i o) n 0
unfolding count_where
count-replicate i o zero = both (eqb i o)
  where
    both : (b : Bool) → ◌≡◌ {A = ℕ} 0 (cond b 0 0)
    both true = refl
    both false = refl
count-replicate i o (suc n) = one (eqb i o) (count-replicate i o n)
  where
    one : (b : Bool) → count_where (eqb i) (replicate n o) ≡ cond b n 0
        → cond b (suc (count_where (eqb i) (replicate n o))) (count_where (eqb i) (replicate n o)) ≡ cond b (suc n) 0
    one true e = ap suc e
    one false e = e
