use Rattle.count_fill.proofs.OwnerLaws.{Dealers}
use Rattle.count_fill.proofs.put_dealers.Given as goal

abbrev pub invariant-loop-i : goal.invariant-loop-i
invariant-loop-i l = Dealers l.m l.t l.at l.initial.out l.out l.next l.i
