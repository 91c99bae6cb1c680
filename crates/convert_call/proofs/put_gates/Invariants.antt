use Rattle.convert_call.proofs.Converting.{GatesPut}
use Rattle.convert_call.proofs.put_gates.Given as goal

abbrev pub invariant-loop-g : goal.invariant-loop-g
invariant-loop-g l = GatesPut l.plan.bytes.now l.plan.header l.initial.out l.g l.out
