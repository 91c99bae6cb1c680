use Rattle.plan_counts.proofs.Counts.{Tallying}
use Rattle.plan_counts.proofs.PlanGates.tally_below.Given as goal

abbrev pub invariant-loop-g : goal.invariant-loop-g
invariant-loop-g l = Tallying l.self.plan.now.bytes.now l.top l.i l.tally l.g
