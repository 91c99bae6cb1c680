use Rattle.match_moves.proofs.TruncationLaws.{moving_truncated}
use Rattle.match_moves.proofs.Mover.truncated.Goals as goal

pub returns : goal.returns
returns c = search moving_truncated
