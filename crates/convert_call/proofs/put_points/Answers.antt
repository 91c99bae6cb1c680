use Rattle.convert_call.proofs.Converting.{putting}
use Rattle.convert_call.proofs.put_points.Goals as goal

pub loop-i-preserved : goal.loop-i-preserved
loop-i-preserved c = search putting

pub returns : goal.returns
returns c = search putting
