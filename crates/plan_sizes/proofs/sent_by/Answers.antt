use Rattle.plan_sizes.proofs.Sizes.{sending}
use Rattle.plan_sizes.proofs.sent_by.Goals as goal

pub returns-in-DealZero : goal.returns-in-DealZero
returns-in-DealZero c = search sending

pub returns-in-OpenSpent : goal.returns-in-OpenSpent
returns-in-OpenSpent c = search sending

pub returns-in-SendOuts : goal.returns-in-SendOuts
returns-in-SendOuts c = search sending
