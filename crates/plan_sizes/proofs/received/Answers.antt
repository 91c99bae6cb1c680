use Rattle.plan_sizes.proofs.Sizes.{bringing}
use Rattle.plan_sizes.proofs.received.Goals as goal

pub returns-in-DealInputs : goal.returns-in-DealInputs
returns-in-DealInputs c = search bringing

pub returns-in-DealProduct : goal.returns-in-DealProduct
returns-in-DealProduct c = search bringing

pub returns-in-DealZero : goal.returns-in-DealZero
returns-in-DealZero c = search bringing

pub returns-in-OpenSpent : goal.returns-in-OpenSpent
returns-in-OpenSpent c = search bringing
