use Rattle.count_fill.proofs.OwnerLaws.{owning}
use Rattle.count_fill.proofs.owners.Goals as goal

pub loop-g-init : goal.loop-g-init
loop-g-init c = search owning

pub put_owners-at-requires-clause-g_in_bounds : goal.put_owners-at-requires-clause-g_in_bounds
put_owners-at-requires-clause-g_in_bounds c = search owning

pub loop-g-preserved : goal.loop-g-preserved
loop-g-preserved c = search owning

pub returns : goal.returns
returns c = search owning
