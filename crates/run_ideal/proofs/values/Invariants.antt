use Rattle.numbers.specs.Bytes.{numbers}
use Rattle.run_ideal.proofs.IdealLaws.{Worked}
use Rattle.run_ideal.proofs.values.Given as goal

abbrev pub invariant-loop-g : goal.invariant-loop-g
invariant-loop-g l = Worked l.plan.bytes.now l.plan.header (numbers l.inputs) l.initial.wires l.wires l.next l.g
