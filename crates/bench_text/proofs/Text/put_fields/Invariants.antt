use mathlib.Core.Path.{◌≡◌}
use mathlib.Core.List.{flat_map}
use lib.ListN.{take, drop}
use Rattle.numbers.specs.Bytes.{numbers}
use Rattle.bench_text.specs.Decimals.{field}
use Rattle.bench_text.proofs.Appending.{Left, fields_from}
use Rattle.bench_text.proofs.Text.put_fields.Given as goal

abbrev pub invariant-loop-i : goal.invariant-loop-i
invariant-loop-i l = record {
  same : l.self.room.ghost_name ≡ l.initial.self.room.ghost_name;
  left : Left (flat_map field (take l.count (drop l.from (numbers l.list)))) l.initial.self.written l.initial.self.room.now l.self.room.now l.self.written (fields_from (numbers l.list) l.from l.count l.i);
}
