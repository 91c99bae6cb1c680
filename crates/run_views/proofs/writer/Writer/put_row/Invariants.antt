use mathlib.Core.Path.{◌≡◌}
use Rattle.run_views.proofs.ViewLaws.{Rowing}
use Rattle.run_views.proofs.writer.Writer.put_row.Given as goal

abbrev pub invariant-loop-v : goal.invariant-loop-v
invariant-loop-v l = record {
  same : l.self.out.ghost_name ≡ l.initial.self.out.ghost_name;
  put : Rowing l.row l.initial.self.at l.initial.self.out.now l.self.out.now l.self.at l.v-index;
}
