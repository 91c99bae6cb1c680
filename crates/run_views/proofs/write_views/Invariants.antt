use mathlib.Core.Path.{◌≡◌}
use Rattle.numbers.specs.Bytes.{numbers}
use Rattle.plan.specs.File.{plan_of}
use Rattle.run_views.specs.Flat.{view_in}
use Rattle.run_views.proofs.JoinLaws.{Viewed}
use Rattle.run_views.proofs.write_views.Given as goal

abbrev pub invariant-loop-i : goal.invariant-loop-i
invariant-loop-i l = record {
  same : l.writer.out.ghost_name ≡ l.initial.writer.out.ghost_name;
  put : Viewed (view_in (plan_of l.fn.run.plan.now.bytes.now) l.fn.run.plan.now.header l.table (numbers l.inputs) (numbers l.coins) (numbers l.triples)) l.set l.initial.writer.out.now l.writer.out.now l.writer.at l.i;
}
