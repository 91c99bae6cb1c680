use Rattle.plan_counts.proofs.Counts.{counting_outs}
use Rattle.plan_sizes.proofs.own_out_count.Goals as goal

pub loop-o-init : goal.loop-o-init
loop-o-init c = search counting_outs

pub loop-o-preserved : goal.loop-o-preserved
loop-o-preserved c = search counting_outs

pub returns : goal.returns
returns c = search counting_outs
