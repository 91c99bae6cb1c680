use Rattle.seat_sending.proofs.CutLaws.{truncating}
use Rattle.seat_sending.proofs.Sender.truncated.Goals as goal

pub apply-requires-clause-values_value : goal.apply-requires-clause-values_value
apply-requires-clause-values_value c = search truncating
