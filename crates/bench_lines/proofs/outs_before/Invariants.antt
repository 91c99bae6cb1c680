use Rattle.bench_lines.proofs.Printed.{Before}
use Rattle.bench_lines.proofs.outs_before.Given as goal

abbrev pub invariant-loop-k : goal.invariant-loop-k
invariant-loop-k l = Before l.plan.bytes.now l.i l.o l.count l.k
