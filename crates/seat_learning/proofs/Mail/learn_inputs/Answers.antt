use Rattle.seat_learning.proofs.LearnLaws.{gathering}
use Rattle.seat_learning.proofs.Mail.learn_inputs.Goals as goal

pub loop-i-preserved : goal.loop-i-preserved
loop-i-preserved c = search gathering

pub returns : goal.returns
returns c = search gathering
