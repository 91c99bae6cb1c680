use Rattle.bench_report.proofs.Answering.{benching_lines}
use Rattle.bench_report.proofs.put_benched.Goals as goal

pub returns-in-Ok-clause-put : goal.returns-in-Ok-clause-put
returns-in-Ok-clause-put c = search benching_lines

pub returns-in-Err-clause-put : goal.returns-in-Err-clause-put
returns-in-Err-clause-put c = search benching_lines
