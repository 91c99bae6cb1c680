use Rattle.bench_lines.proofs.Printed.{earlier}
use Rattle.bench_lines.proofs.outs_before.Goals as goal

pub loop-k-init : goal.loop-k-init
loop-k-init c = search earlier

pub loop-k-preserved : goal.loop-k-preserved
loop-k-preserved c = search earlier
