use Rattle.plan_counts.proofs.Sizes.{sizing}
use Rattle.plan_counts.proofs.inputs_below.Goals as goal

pub returns : goal.returns
returns c = search sizing
