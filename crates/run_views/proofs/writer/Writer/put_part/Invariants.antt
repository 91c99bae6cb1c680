use Prim.Native.Nat.{◌+◌}
use mathlib.Core.Path.{◌≡◌}
use lib.ListN.{get_or}
use Rattle.numbers.specs.Bytes.{numbers}
use Rattle.run_views.proofs.ViewLaws.{Tabbing}
use Rattle.run_views.proofs.writer.Writer.put_part.Given as goal

abbrev pub invariant-loop-j : goal.invariant-loop-j
invariant-loop-j l = record {
  same : l.self.out.ghost_name ≡ l.initial.self.out.ghost_name;
  put : Tabbing (λ k. get_or (numbers l.list) (l.from + k) 0) l.count l.initial.self.at l.initial.self.out.now l.self.out.now l.self.at l.j;
}
