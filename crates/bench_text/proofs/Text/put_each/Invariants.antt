use mathlib.Core.Path.{◌≡◌}
use mathlib.Core.List.{flat_map}
use lib.ListN.{drop}
use Rattle.bench_text.specs.Decimals.{field}
use Rattle.bench_text.proofs.Appending.{Left}
use Rattle.bench_text.proofs.Text.put_each.Given as goal

abbrev pub invariant-loop-x : goal.invariant-loop-x
invariant-loop-x l = record {
  same : l.self.room.ghost_name ≡ l.initial.self.room.ghost_name;
  left : Left (flat_map field l.xs) l.initial.self.written l.initial.self.room.now l.self.room.now l.self.written (flat_map field (drop l.x-index l.xs));
}
