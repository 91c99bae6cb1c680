use Rattle.seat_learning.proofs.LearnLaws.{Gathered}
use Rattle.seat_learning.proofs.Mail.learn_inputs.Given as goal

abbrev pub invariant-loop-i : goal.invariant-loop-i
invariant-loop-i l = Gathered l.self.plan.now.bytes.now l.self.bytes.now l.initial.shares l.shares l.at l.i
