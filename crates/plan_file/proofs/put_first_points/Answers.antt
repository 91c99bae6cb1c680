use Rattle.plan_file.proofs.Writing.{pointing}
use Rattle.plan_file.proofs.put_first_points.Goals as goal

pub loop-i-preserved : goal.loop-i-preserved
loop-i-preserved c = search pointing

pub returns : goal.returns
returns c = search pointing
