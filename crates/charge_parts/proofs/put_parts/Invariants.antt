use lib.ListN.{length, get_or}
use Rattle.numbers.proofs.Fills.{Stored}
use Rattle.charge_parts.proofs.Loops.{parts_in}
use Rattle.charge_parts.proofs.put_parts.Given as goal

abbrev pub invariant-loop-i : goal.invariant-loop-i
invariant-loop-i l = Stored (λ k. get_or (parts_in l.portions) k 0) (length l.portions) l.initial.out l.out l.i
