use Rattle.import_lines.proofs.Reading.{fields, number-none}
use Rattle.import_lines.proofs.number.Goals as goal

pub returns-in_err-v : goal.returns-in_err-v
returns-in_err-v c = number-none _ _ _ c.decimal.ensures _ c.in_err-v.was c.from_residual.ensures

pub returns-then-not-field_over : goal.returns-then-not-field_over
returns-then-not-field_over c = search (fields, c.in_ok-v.was)

pub returns : goal.returns
returns c = search (fields, c.in_ok-v.was)
