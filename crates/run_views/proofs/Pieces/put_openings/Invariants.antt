use mathlib.Core.Path.{◌≡◌}
use Rattle.numbers.specs.Bytes.{numbers}
use Rattle.run_views.specs.Flat.{opens_in}
use Rattle.run_views.proofs.ViewLaws.{Rounding}
use Rattle.run_views.proofs.Pieces.put_openings.Given as goal

abbrev pub invariant-loop-j : goal.invariant-loop-j
invariant-loop-j l = record {
  same : l.out.out.ghost_name ≡ l.initial.out.out.ghost_name;
  put : Rounding (opens_in l.self.run.now.plan.now.header.field.p l.self.run.now.plan.now.header.n l.self.run.now.table.now (numbers l.self.run.now.triples.now) l.a l.b l.spent) l.self.run.now.plan.now.bytes.now l.initial.out.at l.initial.out.out.now l.out.out.now l.out.at l.j;
}
