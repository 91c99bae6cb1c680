use Rattle.seat_results.proofs.ResultLaws.{copying}
use Rattle.seat_results.proofs.from_each.Goals as goal

pub loop-i-init : goal.loop-i-init
loop-i-init c = search copying
