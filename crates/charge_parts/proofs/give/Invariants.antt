use Rattle.charge_parts.proofs.Sharing.{Giving}
use Rattle.charge_parts.proofs.give.Given as goal

abbrev pub invariant-loop : goal.invariant-loop
invariant-loop l = Giving l.left l.initial.portions l.portions l.counter
