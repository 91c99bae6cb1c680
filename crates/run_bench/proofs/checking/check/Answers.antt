use Rattle.plan.proofs.Handed.{handed_on}
use Rattle.run_bench.proofs.RunCheckLaws.{running}
use Rattle.run_bench.proofs.checking.check.Goals as goal

pub returns-in_err-check_given : goal.returns-in_err-check_given
returns-in_err-check_given c = rw (handed_on _ _ c.from_residual.ensures.1) (search (running, c.in_err-check_given.was))
