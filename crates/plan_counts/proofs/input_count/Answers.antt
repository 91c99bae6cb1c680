use Rattle.plan_counts.proofs.Sizes.{sizing}
use Rattle.plan_counts.proofs.input_count.Goals as goal

pub returns : goal.returns
returns c = search sizing
