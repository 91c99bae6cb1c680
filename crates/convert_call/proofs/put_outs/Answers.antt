use Rattle.convert_call.proofs.Converting.{putting}
use Rattle.convert_call.proofs.put_outs.Goals as goal

pub put_out-requires : goal.put_out-requires
put_out-requires c = search putting

pub loop-o-preserved : goal.loop-o-preserved
loop-o-preserved c = search putting

pub returns : goal.returns
returns c = search putting
