use Rattle.plan_counts.proofs.Counts.{tallied_all}
use Rattle.plan_counts.proofs.tally_of.Goals as goal

pub returns : goal.returns
returns c = search tallied_all
