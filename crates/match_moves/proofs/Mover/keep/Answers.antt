use Rattle.match_moves.proofs.TruncationLaws.{keeping}
use Rattle.match_moves.proofs.Mover.keep.Goals as goal

pub loop-j-init : goal.loop-j-init
loop-j-init c = search keeping

pub loop-j-preserved : goal.loop-j-preserved
loop-j-preserved c = search keeping
