use Rattle.seat_learning.proofs.SpentLaws.{spending}
use Rattle.seat_learning.proofs.spend.Goals as goal

pub triple_at-at-requires : goal.triple_at-at-requires
triple_at-at-requires c = search spending

pub returns-in-OpenSpent : goal.returns-in-OpenSpent
returns-in-OpenSpent c = search spending
