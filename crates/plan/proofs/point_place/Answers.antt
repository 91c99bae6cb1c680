use Rattle.plan.proofs.Layouts.{pointing}
use Rattle.plan.proofs.point_place.Goals as goal

pub returns : goal.returns
returns c = search pointing
