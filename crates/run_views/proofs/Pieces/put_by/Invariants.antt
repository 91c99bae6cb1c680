use mathlib.Core.Path.{◌≡◌}
use Rattle.numbers.specs.Bytes.{numbers}
use Rattle.plan.specs.Plans.{point_of}
use Rattle.plan.specs.File.{plan_of}
use Rattle.run_views.proofs.ViewLaws.{Piecing}
use Rattle.run_views.proofs.Pieces.put_by.Given as goal

abbrev pub invariant-loop-d : goal.invariant-loop-d
invariant-loop-d g l = record {
  same : l.out.out.ghost_name ≡ l.initial.out.out.ghost_name;
  put : Piecing l.self.run.now.plan.now.header.field.p l.dealt.values.now l.dealt.t (numbers l.dealt.coins.now) l.dealt.at l.dealt.step (point_of (plan_of l.self.run.now.plan.now.bytes.now) l.self.i) l.initial.out.at l.initial.out.out.now l.out.out.now l.out.at l.d;
}
