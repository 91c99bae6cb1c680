use Rattle.sheet_read.proofs.Leaves.{leaving}
use Rattle.sheet_read.proofs.Formula.number.Goals as goal

pub returns-clause-file : goal.returns-clause-file
returns-clause-file c = search (leaving, c.in_ok-v.was)
