use lib.ListN.{drop}
use Rattle.numbers.specs.Bytes.{numbers}
use Rattle.run_dealings.proofs.SumLaws.{Summing}
use Rattle.run_dealings.proofs.summed_coefficient.Given as goal

abbrev pub invariant-loop-d : goal.invariant-loop-d
invariant-loop-d l = Summing l.f.p l.dealt.t l.dealt.step l.dealt.values.now (drop l.dealt.at (numbers l.coins)) l.i l.sum l.d
