use lib.ListN.{length}
use Rattle.numbers.specs.Bytes.{numbers}
use Rattle.run_dealings.proofs.SpendLaws.{Differing}
use Rattle.run_dealings.proofs.Dealings.differences.Given as goal

abbrev pub invariant-loop-d : goal.invariant-loop-d
invariant-loop-d l = Differing l.self.sums.field.p (length l.self.points.now) l.w l.j l.at (numbers l.triples) l.table l.differences l.d
