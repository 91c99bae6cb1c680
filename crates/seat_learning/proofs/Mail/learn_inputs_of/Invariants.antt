use Rattle.seat_learning.proofs.LearnLaws.{Learning}
use Rattle.seat_learning.proofs.Mail.learn_inputs_of.Given as goal

abbrev pub invariant-loop-g : goal.invariant-loop-g
invariant-loop-g l = Learning l.self.plan.now.bytes.now l.self.bytes.now l.i l.from l.initial.shares l.shares l.at l.g
