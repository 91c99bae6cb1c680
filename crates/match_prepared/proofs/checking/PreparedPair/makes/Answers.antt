use Rattle.match_prepared.proofs.ShapeLaws.{making}
use Rattle.match_prepared.proofs.checking.PreparedPair.makes.Goals as goal

pub returns-then-not-is_random : goal.returns-then-not-is_random
returns-then-not-is_random c = search making

pub returns-then-is_random : goal.returns-then-is_random
returns-then-is_random c = search making

pub returns-else-is_random : goal.returns-else-is_random
returns-else-is_random c = search making
