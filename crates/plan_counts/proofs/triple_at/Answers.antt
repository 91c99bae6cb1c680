use Rattle.plan_counts.proofs.Sizes.{sizing}
use Rattle.plan_counts.proofs.triple_at.Goals as goal

pub returns : goal.returns
returns c = search sizing
