use Rattle.seat_learning.proofs.LearnLaws.{opening}
use Rattle.seat_learning.proofs.Mail.opened.Goals as goal

pub opened-requires : goal.opened-requires
opened-requires c = search opening
