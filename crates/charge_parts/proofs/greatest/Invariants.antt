use Rattle.charge_parts.proofs.Loops.{rests_in, Seeking}
use Rattle.charge_parts.proofs.greatest.Given as goal

abbrev pub invariant-loop-i : goal.invariant-loop-i
invariant-loop-i l = Seeking (rests_in l.portions) l.b l.i
