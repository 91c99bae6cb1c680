use Rattle.count_fill.proofs.RowLaws.{filling}
use Rattle.count_fill.proofs.Settings.fill_by.Goals as goal

pub set_coins-requires : goal.set_coins-requires
set_coins-requires c = search filling

pub fill_row-requires-clause-given : goal.fill_row-requires-clause-given
fill_row-requires-clause-given c = search filling

pub loop-s-preserved : goal.loop-s-preserved
loop-s-preserved c = search filling

pub returns : goal.returns
returns c = search filling
