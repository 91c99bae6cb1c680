use Rattle.plan.specs.File.{plan_of}
use Rattle.record_write.proofs.Contents.{Listed}
use Rattle.record_write.proofs.put_contents.Given as goal

abbrev pub invariant-loop-k : goal.invariant-loop-k
invariant-loop-k l = Listed (plan_of l.plan.bytes.now) l.plan.header.n l.initial.out l.out l.at l.k
