use Rattle.match_prepared.proofs.ShapeLaws.{fitting}
use Rattle.match_prepared.proofs.checking.PreparedPair.prepared_ok.Goals as goal

pub prepares-requires-clause-triples_value : goal.prepares-requires-clause-triples_value
prepares-requires-clause-triples_value c = search fitting

pub returns-then-triples-gt0 : goal.returns-then-triples-gt0
returns-then-triples-gt0 c = search fitting
