-- The list of steps: what a step follows, and up to which gate a party works on its own shares before it.
--     Follows, steps_follow     of two steps in turn
-- Assumes nothing.
use mathlib.Core.Path.{◌≡◌, refl, sym, ap, subst}
use mathlib.Core.Bool.{cond}
use mathlib.Core.List.{List, [], ◌∷◌, ◌++◌, append_assoc}
use Prim.Native.Nat.{ℕ, zero, suc, ◌<◌}
use native.Mathlib.Omega.{arith}
use lib.Dec.{leb}
use lib.ListN.{length, drop, get_or, length-drop}
use lib.Seq.{drop-cons}
use Rattle.plan.specs.declared.Gate.{Gate}
use Rattle.plan.specs.declared.Gate.TheVariants.{Input, Add, Scale, Offset, Multiply, Random, Spend}
use Rattle.plan.specs.declared.Rule.{Rule}
use Rattle.plan.specs.declared.Rule.TheVariants.{Reduction, Truncation}
use Rattle.plan.specs.declared.Step.{Step}
use Rattle.plan.specs.declared.Step.TheVariants.{DealInputs, DealProduct, DealZero, DealMasked, SendTruncated, DealDraws, OpenSpent, SendOuts}
use Rattle.plan.specs.Plans.{Plan, kind_of, multiply_steps, steps_at, steps_from, steps, step_at, last_call}
use Rattle.seat_messages.specs.Messages.{resume_at}

-- the wires below this gate are known when a step is sent
unfoldable pub frontier : Plan → Step → ℕ
frontier plan DealInputs = 0
frontier plan (DealProduct g a b) = g
frontier plan (DealZero g) = g
frontier plan (DealMasked g a b) = g
frontier plan (SendTruncated g) = g
frontier plan (DealDraws g) = g
frontier plan (OpenSpent g a b) = g
frontier plan SendOuts = length plan.gates

-- of these gates, the first being gate g, the first that takes rounds
unfoldable pub next_from : Plan → ℕ → List Gate → ℕ
next_from plan g [] = length plan.gates
next_from plan g (x ∷ xs) = cond (leb 5 (kind_of x)) g (next_from plan (suc g) xs)

-- gate g of the plan
abbrev pub Is : Plan → ℕ → Gate → Type 0
Is plan g x = (g < length plan.gates) × (get_or plan.gates g (Input 0) ≡ x)

-- a step is one of its gate's, and comes after the step whose mail it needs
abbrev pub Fits : Plan → Step → Step → Type 0
Fits plan r DealInputs = Unit
Fits plan r (DealProduct g a b) = Is plan g (Multiply a b)
Fits plan r (DealZero g) = (a : ℕ) × (b : ℕ) × Is plan g (Multiply a b)
Fits plan r (DealMasked g a b) = Is plan g (Multiply a b) × (r ≡ DealZero g)
Fits plan r (SendTruncated g) = (a : ℕ) × (b : ℕ) × Is plan g (Multiply a b) × (r ≡ DealMasked g a b)
Fits plan r (DealDraws g) = Is plan g Random
Fits plan r (OpenSpent g a b) = Is plan g (Spend a b)
Fits plan r SendOuts = Unit

pub record Follows (plan : Plan) (r s : Step) : Type 0 where
  pub fits : Fits plan r s
  -- the work after r's mail ends at s's gate
  pub stops : next_from plan (resume_at plan r) (drop (resume_at plan r) plan.gates) ≡ frontier plan s

abbrev Chain : Plan → Step → List Step → Type 0
Chain plan r [] = Unit
Chain plan r (s ∷ ss) = Follows plan r s × Chain plan s ss

module _ (plan : Plan) where
  gate_at : (g : ℕ) (x : Gate) (gs : List Gate) → drop g plan.gates ≡ x ∷ gs → Is plan g x × (drop (suc g) plan.gates ≡ gs)
  gate_at g x gs e =
      let m : g < length plan.gates = omega (arith, length-drop g plan.gates, ap length e) in
      let q : drop g plan.gates ≡ get_or plan.gates g (Input 0) ∷ drop (suc g) plan.gates = drop-cons plan.gates g (Input 0) m in
      ((m, cc), cc)

  -- the work after r's mail runs on to the gates gs, which begin with gate g
  abbrev Reaches : Step → ℕ → List Gate → Type 0
  Reaches r g gs = next_from plan (resume_at plan r) (drop (resume_at plan r) plan.gates) ≡ next_from plan g gs

  -- the steps of a multiply, then the others
  multiply_chain : (rule : Rule) (g a b : ℕ) (gs : List Gate) (ss : List Step) (r : Step) → drop g plan.gates ≡ Multiply a b ∷ gs
      → Reaches r g (Multiply a b ∷ gs) → ((s : Step) → Reaches s (suc g) gs → Chain plan s ss) → Chain plan r (multiply_steps rule g a b ++ ss)
  unfolding multiply_steps next_from kind_of frontier resume_at
  multiply_chain Reduction g a b gs ss r e w rest =
      let i : Is plan g (Multiply a b) × (drop (suc g) plan.gates ≡ gs) = gate_at g (Multiply a b) gs e in
      (record { fits = i.0; stops = w }, rest (DealProduct g a b) (ap (next_from plan (suc g)) i.1))
  multiply_chain Truncation g a b gs ss r e w rest =
      let i : Is plan g (Multiply a b) × (drop (suc g) plan.gates ≡ gs) = gate_at g (Multiply a b) gs e in
      let here : next_from plan g (drop g plan.gates) ≡ g = ap (next_from plan g) e in (
        record { fits = (a, b, i.0); stops = w },
        (
          record { fits = (i.0, refl); stops = here },
          (record { fits = (a, b, i.0, refl); stops = here }, rest (SendTruncated g) (ap (next_from plan (suc g)) i.1)),
        ),
      )

  chain : (gs : List Gate) (g : ℕ) (r : Step) → drop g plan.gates ≡ gs → Reaches r g gs → Chain plan r (steps_from plan.rule g gs ++ (SendOuts ∷ []))
  unfolding steps_from steps_at next_from kind_of frontier resume_at
  chain [] g r e w = (record { fits = tt; stops = w }, tt)
  chain (Input s ∷ gs) g r e w = chain gs (suc g) r (gate_at g (Input s) gs e).1 w
  chain (Add a b ∷ gs) g r e w = chain gs (suc g) r (gate_at g (Add a b) gs e).1 w
  chain (Scale a c ∷ gs) g r e w = chain gs (suc g) r (gate_at g (Scale a c) gs e).1 w
  chain (Offset a c ∷ gs) g r e w = chain gs (suc g) r (gate_at g (Offset a c) gs e).1 w
  chain (Multiply a b ∷ gs) g r e w =
      subst (Chain plan r) (sym (append_assoc (multiply_steps plan.rule g a b) (steps_from plan.rule (suc g) gs) (SendOuts ∷ [])))
      (multiply_chain plan.rule g a b gs (steps_from plan.rule (suc g) gs ++ (SendOuts ∷ [])) r e w (λ s v. chain gs (suc g) s (gate_at g (Multiply a b) gs e).1 v))
  chain (Random ∷ gs) g r e w =
      let i : Is plan g Random × (drop (suc g) plan.gates ≡ gs) = gate_at g Random gs e in
      (record { fits = i.0; stops = w }, chain gs (suc g) (DealDraws g) i.1 (ap (next_from plan (suc g)) i.1))
  chain (Spend a b ∷ gs) g r e w =
      let i : Is plan g (Spend a b) × (drop (suc g) plan.gates ≡ gs) = gate_at g (Spend a b) gs e in
      (record { fits = i.0; stops = w }, chain gs (suc g) (OpenSpent g a b) i.1 (ap (next_from plan (suc g)) i.1))

  chain_at : (r : Step) (ss : List Step) → Chain plan r ss → (k : ℕ) → k < length ss → Follows plan (get_or (r ∷ ss) k SendOuts) (get_or ss k SendOuts)
  chain_at r [] c k l = absurd (omega arith)
  chain_at r (s ∷ ss) c zero l = c.0
  chain_at r (s ∷ ss) c (suc k) l = chain_at s ss c.1 k (omega arith)

  pub steps_follow : (k : ℕ) → suc k < last_call plan → Follows plan (step_at plan k) (step_at plan (suc k))
  unfolding last_call step_at steps resume_at
  steps_follow k l =
      chain_at DealInputs (steps_from plan.rule 0 plan.gates ++ (SendOuts ∷ [])) (chain plan.gates 0 DealInputs refl refl) k (omega arith)
