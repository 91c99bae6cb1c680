use Rattle.count_fill.proofs.RowLaws.{viewing}
use Rattle.count_fill.proofs.Settings.fill_row.Goals as goal

pub returns : goal.returns
returns c = search viewing
