use Rattle.run_dealings.proofs.MixtureLaws.{mixing}
use Rattle.run_dealings.proofs.Product.mixed_coefficient.Goals as goal

pub loop-weight-preserved : goal.loop-weight-preserved
loop-weight-preserved c = search mixing

pub returns : goal.returns
returns c = search mixing

pub add_product-sum-requires-clause-sum_bound : goal.add_product-sum-requires-clause-sum_bound
add_product-sum-requires-clause-sum_bound c = search mixing

pub reduced-requires : goal.reduced-requires
reduced-requires c = search mixing
