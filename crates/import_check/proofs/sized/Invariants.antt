use Rattle.import_check.proofs.Marks.{Sizing}
use Rattle.import_check.proofs.sized.Given as goal

abbrev pub invariant-loop-k : goal.invariant-loop-k
invariant-loop-k l = Sizing l.s l.at l.gates l.initial.marks l.e l.size l.k l.marks
