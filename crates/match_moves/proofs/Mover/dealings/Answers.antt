use Rattle.match_moves.proofs.MoveLaws.{moving_blocks}
use Rattle.match_moves.proofs.Mover.dealings.Goals as goal

pub loop-i-preserved : goal.loop-i-preserved
loop-i-preserved c = search moving_blocks
