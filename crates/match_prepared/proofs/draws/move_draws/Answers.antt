use Rattle.match_prepared.proofs.DrawLaws.{draw_below2, moving}
use Rattle.match_prepared.proofs.draws.move_draws.Goals as goal

pub moved-moved-requires : goal.moved-moved-requires
moved-moved-requires c = draw_below2 _ _ _ _ _ c.args.draws.now c.args.f.ready c.requires.changes_value c.requires.draws_value c.read-draw.ensures.eq

pub loop-i-preserved : goal.loop-i-preserved
loop-i-preserved c = search moving
