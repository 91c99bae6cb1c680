use Rattle.match_prepared.proofs.ShapeLaws.{preparing_all}
use Rattle.match_prepared.proofs.checking.PreparedPair.prepares.Goals as goal

pub returns-then-first-second : goal.returns-then-first-second
returns-then-first-second c = search preparing_all

pub returns-then-first-second-2 : goal.returns-then-first-second-2
returns-then-first-second-2 c = search preparing_all

pub returns-then-not-same_points : goal.returns-then-not-same_points
returns-then-not-same_points c = search preparing_all

pub returns-then-makes_triples : goal.returns-then-makes_triples
returns-then-makes_triples c = search preparing_all

pub returns-else-makes_triples : goal.returns-else-makes_triples
returns-else-makes_triples c = search preparing_all
