use Rattle.seat_learning.proofs.LearnLaws.{resuming}
use Rattle.seat_learning.proofs.Mail.resume_at.Goals as goal

pub overflow_add-result : goal.overflow_add-result
overflow_add-result c = search resuming

pub returns-in-SendOuts : goal.returns-in-SendOuts
returns-in-SendOuts c = search resuming
