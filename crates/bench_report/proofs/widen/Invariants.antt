use Rattle.bench_report.proofs.Answering.{Widened}
use Rattle.bench_report.proofs.widen.Given as goal

abbrev pub invariant-loop-i : goal.invariant-loop-i
invariant-loop-i l = Widened l.plan l.list l.n l.initial.room l.room l.i
