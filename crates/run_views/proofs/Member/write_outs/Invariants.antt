use mathlib.Core.Path.{◌≡◌}
use mathlib.Core.List.{map}
use Rattle.plan.specs.Plans.{out_wires}
use Rattle.plan.specs.File.{plan_of}
use Rattle.run_views.specs.Flat.{share_in}
use Rattle.run_views.proofs.ViewLaws.{Rounding}
use Rattle.run_views.proofs.Member.write_outs.Given as goal

abbrev pub invariant-loop-j : goal.invariant-loop-j
invariant-loop-j l = record {
  same : l.out.out.ghost_name ≡ l.initial.out.out.ghost_name;
  put : Rounding (λ u. map (share_in l.self.run.now.plan.now.header.n l.self.run.now.table.now u) (out_wires (plan_of l.self.run.now.plan.now.bytes.now) l.self.i)) l.self.run.now.plan.now.bytes.now l.initial.out.at l.initial.out.out.now l.out.out.now l.out.at l.j-counter;
}
