use Rattle.run_dealings.proofs.TruncationLaws.{truncating}
use Rattle.run_dealings.proofs.Dealings.truncated_row.Goals as goal

pub returns : goal.returns
returns c = search truncating
