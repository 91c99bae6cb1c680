use Rattle.run_views.proofs.JoinLaws.{joining}
use Rattle.run_views.proofs.Member.write_view.Goals as goal

pub returns : goal.returns
returns c = search joining
