use Rattle.seat_messages.proofs.PointLaws.{Pointing}
use Rattle.seat_messages.proofs.points_of.Given as goal

abbrev pub invariant-loop-i : goal.invariant-loop-i
invariant-loop-i l = Pointing l.plan.bytes.now l.plan.header.n l.points l.i
