use Prim.Native.Nat.{◌+◌}
use Rattle.run_views.specs.Flat.{share_in}
use Rattle.run_views.proofs.ViewLaws.{rounding}
use Rattle.run_views.proofs.Member.write_outs.Goals as goal

pub loop-j-preserved : goal.loop-j-preserved
loop-j-preserved c =
    let w = c.put_outs.ensures (share_in c.args.self.now.run.now.plan.now.header.n c.args.self.now.run.now.table.now (c.loop-j.j-counter + 1)) (λ w v l p. search rounding) in
    search (rounding, w)

pub returns : goal.returns
returns c = search rounding
