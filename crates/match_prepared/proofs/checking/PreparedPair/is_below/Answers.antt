use Rattle.match_prepared.proofs.JointLaws.{comparing}
use Rattle.match_prepared.proofs.checking.PreparedPair.is_below.Goals as goal

pub returns-then-i-count : goal.returns-then-i-count
returns-then-i-count c = search comparing

pub returns-else-i-count : goal.returns-else-i-count
returns-else-i-count c = search comparing
