use Rattle.match_moves.proofs.TruncationLaws.{fitting}
use Rattle.match_moves.proofs.Mover.product_change.Goals as goal

pub fit-requires-clause-values_len : goal.fit-requires-clause-values_len
fit-requires-clause-values_len c = search fitting

pub fit-requires-clause-out_len : goal.fit-requires-clause-out_len
fit-requires-clause-out_len c = search fitting

pub returns : goal.returns
returns c = search fitting
