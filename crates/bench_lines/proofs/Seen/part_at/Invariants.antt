use Rattle.plan.specs.File.{plan_of}
use Rattle.bench_lines.proofs.Printed.{Parting}
use Rattle.bench_lines.proofs.Seen.part_at.Given as goal

abbrev pub invariant-loop-j : goal.invariant-loop-j
invariant-loop-j l = Parting (plan_of l.self.plan.now.bytes.now) l.self.set l.i l.at l.j
