use Rattle.import_lines.proofs.Reading.{Summing}
use Rattle.import_lines.proofs.sum.Given as goal

abbrev pub invariant-loop-k : goal.invariant-loop-k
invariant-loop-k l = Summing l.s l.at l.count l.total l.e l.k
