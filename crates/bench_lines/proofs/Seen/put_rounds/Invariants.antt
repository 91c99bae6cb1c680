use mathlib.Core.Path.{◌≡◌}
use Rattle.numbers.specs.Bytes.{numbers}
use Rattle.plan.specs.File.{plan_of}
use Rattle.bench_lines.proofs.Printed.{Rounding}
use Rattle.bench_lines.proofs.Seen.put_rounds.Given as goal

abbrev pub invariant-loop-round : goal.invariant-loop-round
invariant-loop-round l = record {
  same : l.text.room.ghost_name ≡ l.initial.text.room.ghost_name;
  put : Rounding (plan_of l.self.plan.now.bytes.now) l.i (numbers l.self.view.now) l.from l.rounds l.initial.text.written l.initial.text.room.now l.text.room.now l.text.written l.place l.round;
}
