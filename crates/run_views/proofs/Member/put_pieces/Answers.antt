use Rattle.numbers.specs.Bytes.{numbers}
use Rattle.plan.specs.Plans.{point_of}
use Rattle.plan.specs.File.{plan_of}
use Rattle.run_views.specs.Flat.{pieces_in}
use Rattle.run_views.proofs.ViewLaws.{stepping}
use Rattle.run_views.proofs.Member.put_pieces.Goals as goal

pub returns : goal.returns
returns c =
    c.put_gates.ensures
    (pieces_in c.args.self.now.run.now.plan.now.header (plan_of c.args.self.now.run.now.plan.now.bytes.now).points c.args.self.now.run.now.table.now (numbers c.args.self.now.run.now.inputs.now) (numbers c.args.self.now.run.now.coins.now) (numbers c.args.self.now.run.now.triples.now) (point_of (plan_of c.args.self.now.run.now.plan.now.bytes.now) c.args.self.now.i))
    (λ x next from spent w v p. search stepping)
