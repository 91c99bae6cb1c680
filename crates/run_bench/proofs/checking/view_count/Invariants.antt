use Rattle.plan.specs.File.{plan_of}
use Rattle.run_bench.proofs.RunCheckLaws.{Sizing}
use Rattle.run_bench.proofs.checking.view_count.Given as goal

abbrev pub invariant-loop-i : goal.invariant-loop-i
invariant-loop-i l = Sizing (plan_of l.plan.bytes.now) l.set l.k l.i
