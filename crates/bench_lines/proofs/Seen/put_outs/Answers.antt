use Rattle.bench_lines.proofs.Printed.{outing_all_outs}
use Rattle.bench_lines.proofs.Seen.put_outs.Goals as goal

pub loop-o-preserved : goal.loop-o-preserved
loop-o-preserved c = search outing_all_outs

pub returns-clause-put : goal.returns-clause-put
returns-clause-put c = search outing_all_outs
