use Rattle.run_dealings.proofs.ColumnLaws.{columning}
use Rattle.run_dealings.proofs.Product.column.Goals as goal

pub loop-d-init : goal.loop-d-init
loop-d-init g c = search columning

pub dot_by-piece-requires-clause-values_value : goal.dot_by-piece-requires-clause-values_value
dot_by-piece-requires-clause-values_value g c = search columning

pub add_product-sum-requires-clause-sum_bound : goal.add_product-sum-requires-clause-sum_bound
add_product-sum-requires-clause-sum_bound g c = search columning

pub loop-d-preserved : goal.loop-d-preserved
loop-d-preserved g c = search columning

pub reduced-requires : goal.reduced-requires
reduced-requires g c = search columning

pub returns-clause-is : goal.returns-clause-is
returns-clause-is g c = search columning

pub returns-clause-grid_after : goal.returns-clause-grid_after
returns-clause-grid_after g c = search columning

pub dot_by-piece-requires-clause-weights_len_bound : goal.dot_by-piece-requires-clause-weights_len_bound
dot_by-piece-requires-clause-weights_len_bound g c = search columning
