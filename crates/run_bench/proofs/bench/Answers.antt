use Rattle.plan.proofs.Handed.{handed_on}
use Rattle.run_bench.proofs.BenchLaws.{benching}
use Rattle.run_bench.proofs.bench.Goals as goal

pub returns-in_err-check-clause-value : goal.returns-in_err-check-clause-value
returns-in_err-check-clause-value c =
    rw (handed_on _ _ c.from_residual-in_err-check.ensures.1, ← c.in_ok-plan.ensures.passed) (search (benching, c.in_err-check.was))

pub returns-in_err-check-clause-triples_after : goal.returns-in_err-check-clause-triples_after
returns-in_err-check-clause-triples_after c = rw (← c.in_ok-plan.ensures.passed) (search (benching, c.in_err-check.was))

pub returns-in_err-check-clause-out_after : goal.returns-in_err-check-clause-out_after
returns-in_err-check-clause-out_after c = rw (← c.in_ok-plan.ensures.passed) (search (benching, c.in_err-check.was))

pub returns-in_err-write_run-clause-value : goal.returns-in_err-write_run-clause-value
returns-in_err-write_run-clause-value c =
    rw (handed_on _ _ c.from_residual-in_err-write_run.ensures.1, ← c.in_ok-plan.ensures.passed) (search (benching, c.in_ok-check.was, c.in_err-write_run.was))

pub returns-in_err-write_run-clause-triples_after : goal.returns-in_err-write_run-clause-triples_after
returns-in_err-write_run-clause-triples_after c = rw (← c.in_ok-plan.ensures.passed) (search (benching, c.in_ok-check.was, c.in_err-write_run.was))

pub returns-in_err-write_run-clause-out_after : goal.returns-in_err-write_run-clause-out_after
returns-in_err-write_run-clause-out_after c = rw (← c.in_ok-plan.ensures.passed) (search (benching, c.in_ok-check.was, c.in_err-write_run.was))

pub returns-clause-value : goal.returns-clause-value
returns-clause-value c = rw (← c.in_ok-plan.ensures.passed) (search (benching, c.in_ok-check.was, c.in_ok-write_run.was))

pub returns-clause-triples_after : goal.returns-clause-triples_after
returns-clause-triples_after c =
    let zeros = c.fill.ensures.after (λ y e. e) in
    rw (← c.in_ok-plan.ensures.passed) (search (benching, c.in_ok-check.was, c.in_ok-write_run.was, zeros))

pub returns-clause-out_after : goal.returns-clause-out_after
returns-clause-out_after c = rw (← c.in_ok-plan.ensures.passed) (search (benching, c.in_ok-check.was, c.in_ok-write_run.was))
