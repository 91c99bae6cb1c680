use Rattle.seat_results.proofs.ResultLaws.{opening_all}
use Rattle.seat_results.proofs.open_outs.Goals as goal

pub loop-j-preserved : goal.loop-j-preserved
loop-j-preserved c = search opening_all
