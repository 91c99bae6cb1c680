use Rattle.seat_learning.proofs.SpentLaws.{multiplying}
use Rattle.seat_learning.proofs.Mail.spent.Goals as goal

pub spent_share-requires-clause-d_lt_p : goal.spent_share-requires-clause-d_lt_p
spent_share-requires-clause-d_lt_p c = search multiplying

pub spent_share-requires-clause-e_lt_p : goal.spent_share-requires-clause-e_lt_p
spent_share-requires-clause-e_lt_p c = search multiplying

pub returns : goal.returns
returns c = search multiplying
