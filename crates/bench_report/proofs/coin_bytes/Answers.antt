use Rattle.bench_report.proofs.Answering.{splitting}
use Rattle.bench_report.proofs.coin_bytes.Goals as goal

pub returns-then-tally_of-eq0 : goal.returns-then-tally_of-eq0
returns-then-tally_of-eq0 c = search splitting

pub returns : goal.returns
returns c = search splitting
