use Rattle.plan_counts.proofs.Steps.{Stepping}
use Rattle.plan_counts.proofs.PlanGates.step_after.Given as goal

abbrev pub invariant-loop-g : goal.invariant-loop-g
invariant-loop-g l = Stepping l.self.plan.now.bytes.now l.self.plan.now.header.rule l.self.plan.now.header.gates l.k l.left l.g
