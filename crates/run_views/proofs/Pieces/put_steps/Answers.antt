use Rattle.run_views.proofs.ViewLaws.{gate_pieces}
use Rattle.run_views.proofs.Pieces.put_steps.Goals as goal

pub put_multiply-requires-clause-multiplies : goal.put_multiply-requires-clause-multiplies
put_multiply-requires-clause-multiplies c = search gate_pieces

pub put_multiply-requires-clause-from_in_bounds : goal.put_multiply-requires-clause-from_in_bounds
put_multiply-requires-clause-from_in_bounds c = search gate_pieces

pub put_draws-requires : goal.put_draws-requires
put_draws-requires c = search gate_pieces

pub put_openings-requires-clause-spends : goal.put_openings-requires-clause-spends
put_openings-requires-clause-spends c = search gate_pieces

pub put_openings-requires-clause-spending : goal.put_openings-requires-clause-spending
put_openings-requires-clause-spending c = search gate_pieces
