use mathlib.Core.Path.{◌≡◌}
use Rattle.plan.specs.Plans.{is_input_of}
use Rattle.run_views.specs.Flat.{share_in}
use Rattle.run_views.proofs.ViewLaws.{Sifting}
use Rattle.run_views.proofs.Run.put_inputs_of.Given as goal

abbrev pub invariant-loop-g : goal.invariant-loop-g
invariant-loop-g l = record {
  same : l.out.out.ghost_name ≡ l.initial.out.out.ghost_name;
  put : Sifting (is_input_of l.j) (share_in l.self.plan.now.header.n l.self.table.now l.i) l.self.plan.now.bytes.now l.initial.out.at l.initial.out.out.now l.out.out.now l.out.at l.g;
}
