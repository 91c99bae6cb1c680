use Rattle.charge_parts.proofs.Loops.{Dividing}
use Rattle.charge_parts.proofs.divide.Given as goal

abbrev pub invariant-loop-i : goal.invariant-loop-i
invariant-loop-i l = Dividing l.bill l.es l.initial.portions l.portions l.i
