use Rattle.seat_learning.proofs.LearnLaws.{Worked}
use Rattle.seat_learning.proofs.work_from.Given as goal

abbrev pub invariant-loop-g : goal.invariant-loop-g
invariant-loop-g l = Worked l.plan.bytes.now l.plan.header.field.p l.from l.initial.shares l.shares l.g
