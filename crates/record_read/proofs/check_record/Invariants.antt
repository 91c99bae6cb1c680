use Rattle.record_read.proofs.Contents.{Tiled}
use Rattle.record_read.proofs.check_record.Given as goal

abbrev pub invariant-loop-k : goal.invariant-loop-k
invariant-loop-k l = Tiled l.plan.bytes.now l.plan.header l.file l.k l.at
