use Rattle.plan_file.proofs.Writing.{checking}
use Rattle.plan_file.proofs.check.Goals as goal

pub returns-then-not-counts_ok : goal.returns-then-not-counts_ok
returns-then-not-counts_ok c = search checking

pub returns : goal.returns
returns c = search checking
