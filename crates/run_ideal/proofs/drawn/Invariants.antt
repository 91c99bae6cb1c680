use lib.ListN.{get_or}
use Rattle.numbers.specs.Bytes.{numbers}
use Rattle.sharing_laws.proofs.Sums.{Adding}
use Rattle.run_ideal.proofs.drawn.Given as goal

abbrev pub invariant-loop-j : goal.invariant-loop-j
invariant-loop-j l = Adding l.plan.header.field.p (λ i. get_or (numbers l.inputs) i 0) l.sum l.j
