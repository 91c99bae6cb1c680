use Rattle.numbers.proofs.Counts.{Counted}
use Rattle.plan.specs.File.{plan_of}
use Rattle.plan_counts.specs.Counts.{is_out_of}
use Rattle.plan_sizes.proofs.own_out_count.Given as goal

abbrev pub invariant-loop-o : goal.invariant-loop-o
invariant-loop-o l = Counted (is_out_of l.i) (plan_of l.plan.bytes.now).outs l.k l.o
