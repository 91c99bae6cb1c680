use Rattle.import_write.proofs.Bytes.{Gating}
use Rattle.import_write.proofs.put_gates.Given as goal

abbrev pub invariant-loop-k : goal.invariant-loop-k
invariant-loop-k l = Gating l.s l.at l.gates l.version l.p l.start l.initial.held l.initial.out l.e l.g l.k l.held l.out
