use Rattle.plan.specs.File.{plan_of}
use Rattle.match_joint.specs.Joint.{wire_change}
use Rattle.match_prepared.proofs.DrawLaws.{Putting}
use Rattle.match_prepared.proofs.draws.Values.spent_changes.Given as goal

abbrev pub invariant-loop-g : goal.invariant-loop-g
invariant-loop-g l =
    Putting (wire_change (plan_of l.self.plan.now.bytes.now) l.self.before.now l.self.after.now) (plan_of l.self.plan.now.bytes.now).gates l.initial.changes l.changes l.k l.g
