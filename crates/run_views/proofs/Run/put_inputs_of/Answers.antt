use Rattle.run_views.proofs.ViewLaws.{sifting}
use Rattle.run_views.proofs.Run.put_inputs_of.Goals.{then-is_input_at, else-is_input_at}
use Rattle.run_views.proofs.Run.put_inputs_of.Goals as goal

pub loop-g-init : goal.loop-g-init
loop-g-init c = search sifting

pub loop-g-preserved : goal.loop-g-preserved
loop-g-preserved c = elim c.if-is_input_at.branch [ then-is_input_at w ↦ rw w.out-is (search sifting) | else-is_input_at w ↦ rw w.out-is (search sifting) ]

pub returns : goal.returns
returns c = search sifting
