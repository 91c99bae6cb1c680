use Rattle.plan_counts.proofs.Counts.{by_kind}
use Rattle.plan_counts.proofs.own_draws.Goals as goal

pub returns : goal.returns
returns c = search by_kind
