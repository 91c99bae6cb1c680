use Rattle.plan_counts.proofs.Sizes.{sizing}
use Rattle.plan_counts.proofs.coins_below.Goals as goal

pub returns : goal.returns
returns c = search sizing
