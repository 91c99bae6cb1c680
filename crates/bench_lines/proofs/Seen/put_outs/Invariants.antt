use mathlib.Core.Path.{◌≡◌}
use Rattle.numbers.specs.Bytes.{numbers}
use Rattle.bench_lines.proofs.Printed.{Outing}
use Rattle.bench_lines.proofs.Seen.put_outs.Given as goal

abbrev pub invariant-loop-o : goal.invariant-loop-o
invariant-loop-o l = record {
  same : l.text.room.ghost_name ≡ l.initial.text.room.ghost_name;
  put : Outing l.self.plan.now.bytes.now l.self.set (numbers l.self.view.now) l.self.plan.now.header.outs l.initial.text.written l.initial.text.room.now l.text.room.now l.text.written l.o;
}
