use Rattle.import_write.proofs.Bytes.{InRow}
use Rattle.import_write.proofs.put_row.Given as goal

abbrev pub invariant-loop-i : goal.invariant-loop-i
invariant-loop-i l = InRow l.version l.initial.out l.g l.gates l.i l.out
