use Rattle.numbers.specs.Bytes.{numbers}
use Rattle.plan.specs.File.{plan_of}
use Rattle.run_views.proofs.ViewLaws.{inputs_at, own_gates, inputs_put}
use Rattle.run_views.proofs.Member.write_inputs.Goals as goal

pub returns : goal.returns
returns c =
    let w =
    c.put_gates.ensures (inputs_at (plan_of c.args.self.now.run.now.plan.now.bytes.now) c.args.self.now.i (numbers c.args.self.now.run.now.inputs.now)) (λ x next from spent w v p. search own_gates) in
    record { same = w.same; wrote = inputs_put _ _ _ _ _ _ _ w.wrote }
