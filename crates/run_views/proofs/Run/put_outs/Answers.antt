use Rattle.run_views.proofs.ViewLaws.{outing}
use Rattle.run_views.proofs.Run.put_outs.Goals.{then-i-o, else-i-o}
use Rattle.run_views.proofs.Run.put_outs.Goals as goal

pub value-requires : goal.value-requires
value-requires g c = search (outing, c.requires)

pub loop-k-preserved : goal.loop-k-preserved
loop-k-preserved g c =
    elim c.if-i-o.branch [
      | then-i-o w ↦
          rw w.out-is
          (record {
            same = search outing;
            put = λ f h. search (outing, c.loop-k.invariant.put f h, h c.out_at-o.result.wire w.value.result (search outing) w.value.ensures);
          })
      | else-i-o w ↦ rw w.out-is (record { same = search outing; put = λ f h. search (outing, c.loop-k.invariant.put f h) })
    ]

pub returns : goal.returns
returns g c = λ f h. search (outing, c.loop-k.invariant.put f h)
