use Rattle.import_lines.proofs.Reading.{summing}
use Rattle.import_lines.proofs.values_at.Goals as goal

pub returns-in_err-count : goal.returns-in_err-count
returns-in_err-count c = search (summing, c.in_err-count.was)
