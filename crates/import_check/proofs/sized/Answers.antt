use Rattle.import_check.proofs.Marks.{sizing}
use Rattle.import_check.proofs.sized.Goals as goal

pub returns-then-s-line_start : goal.returns-then-s-line_start
returns-then-s-line_start c = search sizing

pub returns : goal.returns
returns c = search sizing
