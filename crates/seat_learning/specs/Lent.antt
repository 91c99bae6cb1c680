-- What a step of a call leaves: lists of elements that are lent as bytes.
use Rattle.std.specs.Prelude.{ℕ, ◌≡◌, true, List}
use denote.Struct.Props as logic
use Rattle.numbers.specs.Bytes.{numbers, all_below}
use Rattle.plan.specs.declared.Step.{Step}
use Rattle.plan.specs.declared.Step.TheVariants.{DealInputs, DealProduct, DealZero, DealMasked, SendTruncated, DealDraws, OpenSpent, SendOuts}
use Rattle.plan.specs.Plans.{Plan}
use Rattle.plan_counts.specs.Counts.{Stepped}

-- these bytes hold the numbers xs, which are below p
pub record Holds (p : ℕ) (xs bs : List ℕ) : Type 0 where
  pub eq : numbers bs ≡ xs
  pub below : all_below p (numbers bs) ≡ true

-- that a step is one of its gate's has one proof at most, so it may be a ghost field
pub Stepped-prop : (plan : Plan) (step : Step) → IsProp (Stepped plan step)
unfolding Stepped
Stepped-prop plan DealInputs = Prim.hlevel logic.props
Stepped-prop plan (DealProduct g a b) = Prim.hlevel logic.props
Stepped-prop plan (DealZero g) = Prim.hlevel logic.props
Stepped-prop plan (DealMasked g a b) = Prim.hlevel logic.props
Stepped-prop plan (SendTruncated g) = Prim.hlevel logic.props
Stepped-prop plan (DealDraws g) = Prim.hlevel logic.props
Stepped-prop plan (OpenSpent g a b) = Prim.hlevel logic.props
Stepped-prop plan SendOuts = Prim.hlevel logic.props
