use Rattle.charge_call.proofs.Charging.{Listed}
use Rattle.charge_call.proofs.put_elements.Given as goal

abbrev pub invariant-loop-i : goal.invariant-loop-i
invariant-loop-i l = Listed l.plan.bytes.now l.plan.header.n l.es l.i
