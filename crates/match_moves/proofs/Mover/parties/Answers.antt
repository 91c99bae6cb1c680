use Rattle.match_moves.proofs.TruncationLaws.{moving_parties}
use Rattle.match_moves.proofs.Mover.parties.Goals as goal

pub loop-i-init : goal.loop-i-init
loop-i-init c = search moving_parties

pub loop-i-preserved : goal.loop-i-preserved
loop-i-preserved c = search moving_parties
