use Rattle.import_write.proofs.Bytes.{Taking}
use Rattle.import_write.proofs.put_inputs.Given as goal

abbrev pub invariant-loop-k : goal.invariant-loop-k
invariant-loop-k l = Taking l.s l.at l.values l.version l.initial.out l.e l.g l.k l.out
