use lib.ListN.{length}
use Rattle.numbers.specs.Bytes.{numbers}
use Rattle.run_dealings.proofs.SpendLaws.{Parting}
use Rattle.run_dealings.proofs.Dealings.spent_row.Given as goal

abbrev pub invariant-loop-i : goal.invariant-loop-i
invariant-loop-i l = Parting l.self.sums.field.p (length l.self.points.now) l.a l.b l.at (numbers l.triples) l.table l.d l.e l.row l.i
