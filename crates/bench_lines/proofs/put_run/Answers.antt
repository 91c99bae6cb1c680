use Rattle.bench_lines.proofs.Printed.{all_lines}
use Rattle.bench_lines.proofs.put_run.Goals as goal

pub returns-clause-put : goal.returns-clause-put
returns-clause-put c = search all_lines
