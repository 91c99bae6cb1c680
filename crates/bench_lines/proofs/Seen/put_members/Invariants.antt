use mathlib.Core.Path.{◌≡◌}
use Rattle.numbers.specs.Bytes.{numbers}
use Rattle.plan.specs.File.{plan_of}
use Rattle.bench_lines.specs.Placed.{member_part}
use Rattle.bench_lines.proofs.Printed.{Calling}
use Rattle.bench_lines.proofs.Seen.put_members.Given as goal

abbrev pub invariant-loop-i : goal.invariant-loop-i
invariant-loop-i l = record {
  same : l.text.room.ghost_name ≡ l.initial.text.room.ghost_name;
  put : Calling (member_part (plan_of l.self.plan.now.bytes.now) l.self.set (numbers l.self.view.now)) l.self.set l.initial.text.written l.initial.text.room.now l.text.room.now l.text.written l.i;
}
