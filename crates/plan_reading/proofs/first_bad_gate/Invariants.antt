use Rattle.plan_reading.proofs.Reading.{Keeping}
use Rattle.plan_reading.proofs.first_bad_gate.Given as goal

abbrev pub invariant-loop-g : goal.invariant-loop-g
invariant-loop-g l = Keeping l.plan l.gates.count l.spent l.g
