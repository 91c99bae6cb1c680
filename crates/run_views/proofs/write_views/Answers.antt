use Rattle.run_views.proofs.JoinLaws.{viewing}
use Rattle.run_views.proofs.write_views.Goals as goal

pub invariant_of-seen : goal.invariant_of-seen
invariant_of-seen c = search viewing
