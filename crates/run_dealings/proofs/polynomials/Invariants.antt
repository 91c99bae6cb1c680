use Rattle.run_dealings.proofs.PolynomialLaws.{Sharing}
use Rattle.run_dealings.proofs.polynomials.Given as goal

abbrev pub invariant-loop-d : goal.invariant-loop-d
invariant-loop-d l = Sharing l.dealt.t l.dealt.step l.k l.dealt.values.now l.dealt.coins.now l.dealt.at l.initial.out l.out l.d
