use Rattle.bench_report.proofs.Answering.{widening}
use Rattle.bench_report.proofs.widen.Goals as goal

pub loop-i-init : goal.loop-i-init
loop-i-init c = search widening

pub loop-i-preserved : goal.loop-i-preserved
loop-i-preserved c = search widening
