use Rattle.import_write.proofs.Bytes.{putting}
use Rattle.import_write.proofs.put_made.Goals as goal

pub returns-in-Xor : goal.returns-in-Xor
returns-in-Xor c = search putting

pub returns-in-And : goal.returns-in-And
returns-in-And c = search putting

pub returns-in-Inv : goal.returns-in-Inv
returns-in-Inv c = search putting
