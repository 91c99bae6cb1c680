use Rattle.bench_lines.proofs.Printed.{parting}
use Rattle.bench_lines.proofs.Seen.part_at.Goals as goal

pub loop-j-preserved : goal.loop-j-preserved
loop-j-preserved c = search parting

pub returns : goal.returns
returns c = search parting
