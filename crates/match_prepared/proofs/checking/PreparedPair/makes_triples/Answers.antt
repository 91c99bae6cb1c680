use Rattle.match_prepared.proofs.ShapeLaws.{making_all}
use Rattle.match_prepared.proofs.checking.PreparedPair.makes_triples.Goals as goal

pub returns-then-self-triples : goal.returns-then-self-triples
returns-then-self-triples c = search making_all

pub returns-then-not-makes : goal.returns-then-not-makes
returns-then-not-makes c = search making_all

pub returns : goal.returns
returns c = search making_all
