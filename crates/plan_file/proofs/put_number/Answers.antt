use native.Mathlib.Omega.{arith}
use Rattle.plan_file.proofs.Writing.{written_low}
use Rattle.plan_file.proofs.put_number.Goals as goal

pub returns-in-2 : goal.returns-in-2
returns-in-2 c = written_low 2 _ _ _ _ _ _ (omega arith) c.in-2.is c.to_le_bytes-bytes.ensures c.put.ensures

pub returns-in-4 : goal.returns-in-4
returns-in-4 c = written_low 4 _ _ _ _ _ _ (omega arith) c.in-4.is c.to_le_bytes-bytes.ensures c.put-in-4.ensures
