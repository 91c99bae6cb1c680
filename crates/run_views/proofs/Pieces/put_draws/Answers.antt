use Rattle.run_views.proofs.ViewLaws.{draw_pieces}
use Rattle.run_views.proofs.Pieces.put_draws.Goals as goal

pub put-requires : goal.put-requires
put-requires c = search draw_pieces
