use lib.ListN.{drop}
use Rattle.numbers.specs.Bytes.{numbers}
use Rattle.numbers.proofs.Fills.{Filled}
use Rattle.run_dealings.specs.Rows.{shared_by}
use Rattle.run_dealings.specs.Columns.{summed_coefficient}
use Rattle.run_dealings.proofs.sum_polynomials.Given as goal

abbrev pub invariant-loop-i : goal.invariant-loop-i
invariant-loop-i l = Filled (summed_coefficient l.f.p (shared_by l.dealt.t l.dealt.step l.dealt.values.now (drop l.dealt.at (numbers l.dealt.coins.now)))) l.initial.out l.out l.i
