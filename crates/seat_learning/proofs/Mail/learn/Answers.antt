use Rattle.seat_learning.proofs.LearnLaws.{learning_mail}
use Rattle.seat_learning.proofs.Mail.learn.Goals as goal

pub opened-requires : goal.opened-requires
opened-requires c = search learning_mail

pub returns-in-DealInputs : goal.returns-in-DealInputs
returns-in-DealInputs c = search learning_mail

pub spent-share-requires-clause-g_le_gates : goal.spent-share-requires-clause-g_le_gates
spent-share-requires-clause-g_le_gates c = search learning_mail
