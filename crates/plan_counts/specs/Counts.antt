-- Counts of a plan's gates and outs, and the step of a gate.
use Rattle.std.specs.Prelude.{ℕ, ◌+◌, ◌<◌, ◌≤◌, ◌≡◌, Bool, List, eqb, length, get_or}
use Rattle.numbers.specs.Tables.{count_where}
use Rattle.plan.specs.declared.Gate.{Gate}
use Rattle.plan.specs.declared.Gate.TheVariants.{Input, Multiply, Random, Spend}
use Rattle.plan.specs.declared.Rule.TheVariants.{Reduction, Truncation}
use Rattle.plan.specs.declared.Step.{Step}
use Rattle.plan.specs.declared.Step.TheVariants.{DealInputs, DealProduct, DealZero, DealMasked, SendTruncated, DealDraws, OpenSpent, SendOuts}
use Rattle.plan.specs.declared.Output.{Output}
use Rattle.plan.specs.Plans.{Plan, kind_of, is_kind, is_input_of}
use Rattle.plan_counts.specs.declared.Tally.{Tally}

-- a tally of these gates, with party i's own; the bounds hold of the gates of every plan that passes, and stand here for arithmetic to find
pub record Tallied (gs : List Gate) (i : ℕ) (c : Tally) : Type 0 where
  pub inputs : c.inputs ≡ count_where (is_kind 1) gs
  pub own : c.own ≡ count_where (is_input_of i) gs
  pub multiplies : c.multiplies ≡ count_where (is_kind 5) gs
  pub randoms : c.randoms ≡ count_where (is_kind 6) gs
  pub spends : c.spends ≡ count_where (is_kind 7) gs
  pub few : c.inputs + c.multiplies + c.randoms + c.spends ≤ 1024
  pub own_few : c.own ≤ c.inputs

-- whether an out is party i's
unfoldable pub is_out_of : ℕ → Output → Bool
is_out_of i o = eqb i o.party

-- gate g of the plan
pub record IsGate (plan : Plan) (g : ℕ) (x : Gate) : Type 0 where
  pub within : g < length plan.gates
  pub is : get_or plan.gates g (Input 0) ≡ x

-- gate g has kind k
pub record HasKind (plan : Plan) (g k : ℕ) : Type 0 where
  pub within : g < length plan.gates
  pub is : kind_of (get_or plan.gates g (Input 0)) ≡ k

-- a step is one of its gate's, by the plan's rule
unfoldable pub Stepped : Plan → Step → Type 0
Stepped plan DealInputs = Unit
Stepped plan (DealProduct g a b) = IsGate plan g (Multiply a b) × (plan.rule ≡ Reduction)
Stepped plan (DealZero g) = HasKind plan g 5 × (plan.rule ≡ Truncation)
Stepped plan (DealMasked g a b) = IsGate plan g (Multiply a b) × (plan.rule ≡ Truncation)
Stepped plan (SendTruncated g) = HasKind plan g 5 × (plan.rule ≡ Truncation)
Stepped plan (DealDraws g) = IsGate plan g Random
Stepped plan (OpenSpent g a b) = IsGate plan g (Spend a b)
Stepped plan SendOuts = Unit
