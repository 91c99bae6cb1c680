use Rattle.match_prepared.proofs.TripleLaws.{columning}
use Rattle.match_prepared.proofs.triples.write_column.Goals as goal

pub loop-w-init : goal.loop-w-init
loop-w-init c = search columning

pub loop-w-preserved : goal.loop-w-preserved
loop-w-preserved c = search columning
