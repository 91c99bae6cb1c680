use Rattle.run_dealings.proofs.SumLaws.{summing}
use Rattle.run_dealings.proofs.summed_coefficient.Goals as goal

pub overflow_mul-at : goal.overflow_mul-at
overflow_mul-at c = search summing

pub overflow_add-at : goal.overflow_add-at
overflow_add-at c = search summing

pub coefficient-requires : goal.coefficient-requires
coefficient-requires c = search summing

pub add-sum-requires : goal.add-sum-requires
add-sum-requires c = search summing

pub loop-d-preserved : goal.loop-d-preserved
loop-d-preserved c = search summing

pub returns : goal.returns
returns c = search summing
