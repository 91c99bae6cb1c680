use Rattle.sheet_read.proofs.Leaves.{leaving}
use Rattle.sheet_read.proofs.Formula.leaf.Goals as goal

pub returns-then-is_letter : goal.returns-then-is_letter
returns-then-is_letter c = search leaving

pub returns : goal.returns
returns c = search leaving
