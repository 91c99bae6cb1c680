use Rattle.plan.specs.File.{plan_of}
use Rattle.plan.proofs.Refusals.{Tried}
use Rattle.run_bench.specs.Checks.{out_check}
use Rattle.run_bench.proofs.outs.check_outs.Given as goal

abbrev pub invariant-loop-k : goal.invariant-loop-k
invariant-loop-k l = Tried (out_check (plan_of l.run.plan.now.bytes.now) l.run.plan.now.header.n l.table) l.run.plan.now.header.outs l.k
