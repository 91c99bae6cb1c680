use Rattle.sheet_read.proofs.Readers.{reading}
use Rattle.sheet_read.proofs.close.Goals as goal

pub returns-then-byte-ne41-clause-part : goal.returns-then-byte-ne41-clause-part
returns-then-byte-ne41-clause-part c = search reading

pub returns-clause-part : goal.returns-clause-part
returns-clause-part c = search reading
