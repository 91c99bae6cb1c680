use Rattle.sheet_read.proofs.Readers.{reading}
use Rattle.sheet_read.proofs.read_sheet.Goals as goal

pub returns-then-part-s : goal.returns-then-part-s
returns-then-part-s c = search (reading, c.in_ok-part.was)

pub returns : goal.returns
returns c = search (reading, c.in_ok-part.was)
