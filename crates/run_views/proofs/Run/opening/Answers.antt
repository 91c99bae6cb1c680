use Rattle.run_views.proofs.ViewLaws.{opening}
use Rattle.run_views.proofs.Run.opening.Goals as goal

pub opened-requires : goal.opened-requires
opened-requires c = search opening

pub returns : goal.returns
returns c = search opening
