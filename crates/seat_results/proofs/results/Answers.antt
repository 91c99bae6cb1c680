use Rattle.seat_results.proofs.ResultLaws.{resulting}
use Rattle.seat_results.proofs.results.Goals as goal

pub open_outs-requires-clause-openings : goal.open_outs-requires-clause-openings
open_outs-requires-clause-openings c = search resulting
