use Rattle.run_views.proofs.JoinLaws.{membering}
use Rattle.run_views.proofs.Run.write_member.Goals as goal

pub invariant_of-write_view : goal.invariant_of-write_view
invariant_of-write_view c = search membering
