use Rattle.import_write.proofs.Bytes.{Outing}
use Rattle.import_write.proofs.put_outs.Given as goal

abbrev pub invariant-loop-o : goal.invariant-loop-o
invariant-loop-o l = Outing l.version l.gates l.wires l.initial.out l.o l.out
