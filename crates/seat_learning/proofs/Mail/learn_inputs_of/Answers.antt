use Rattle.seat_learning.proofs.LearnLaws.{learning_own}
use Rattle.seat_learning.proofs.Mail.learn_inputs_of.Goals as goal

pub loop-g-init : goal.loop-g-init
loop-g-init c = search learning_own

pub loop-g-preserved : goal.loop-g-preserved
loop-g-preserved c = search learning_own

pub returns : goal.returns
returns c = search learning_own
