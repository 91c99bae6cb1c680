use Rattle.record_read.proofs.Contents.{Copied}
use Rattle.record_read.proofs.copy.Given as goal

abbrev pub invariant-loop-i : goal.invariant-loop-i
invariant-loop-i l = Copied l.file l.at l.initial.out l.out l.i
