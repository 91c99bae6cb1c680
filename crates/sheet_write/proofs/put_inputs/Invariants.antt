use Rattle.sheet_write.proofs.Passing.{Listing}
use Rattle.sheet_write.proofs.put_inputs.Given as goal

abbrev pub invariant-loop-i : goal.invariant-loop-i
invariant-loop-i l = Listing l.version l.names l.initial.out l.i l.out
