use Rattle.count_fill.proofs.RowLaws.{rooming}
use Rattle.count_fill.proofs.Settings.fill.Goals as goal

pub fill_by-requires-clause-coins_len : goal.fill_by-requires-clause-coins_len
fill_by-requires-clause-coins_len c = search rooming
