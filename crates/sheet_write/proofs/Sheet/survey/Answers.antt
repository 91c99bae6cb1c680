use Rattle.sheet_write.proofs.Passing.{surveying}
use Rattle.sheet_write.proofs.Sheet.survey.Goals as goal

pub returns-in_err-part : goal.returns-in_err-part
returns-in_err-part c = search (surveying, c.in_err-part.was)

pub returns-then-inputs-eq0 : goal.returns-then-inputs-eq0
returns-then-inputs-eq0 c = search (surveying, c.in_ok-part.was)

pub returns : goal.returns
returns c = search (surveying, c.in_ok-part.was)
