use Rattle.count_fill.proofs.OwnerLaws.{Owned}
use Rattle.count_fill.proofs.owners.Given as goal

abbrev pub invariant-loop-g : goal.invariant-loop-g
invariant-loop-g l = Owned l.plan.bytes.now l.plan.header l.initial.out l.out l.at l.g
