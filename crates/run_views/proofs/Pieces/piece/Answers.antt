use lib.ListN.{get_or}
use Rattle.run_views.proofs.ViewLaws.{dealing, piece_room, next_pair, front_below, coefficients_below, value_below}
use Rattle.run_views.proofs.Pieces.piece.Goals as goal

pub overflow_mul-from : goal.overflow_mul-from
overflow_mul-from g c = search dealing

pub overflow_add-from : goal.overflow_add-from
overflow_add-from g c = search dealing

pub add_product-sum-requires-clause-below2 : goal.add_product-sum-requires-clause-below2
add_product-sum-requires-clause-below2 g c = search dealing

pub loop-j-init : goal.loop-j-init
loop-j-init g c = search dealing

pub overflow_add-from-in-loop-j : goal.overflow_add-from-in-loop-j
overflow_add-from-in-loop-j g c =
    let room = piece_room _ _ _ _ _ _ _ c.requires.seen _ c.requires.d_in_bounds in
    search (dealing, room)

pub number-coin-requires : goal.number-coin-requires
number-coin-requires g c = search dealing

pub add_product-sum-requires-in-loop-j-clause-below2 : goal.add_product-sum-requires-in-loop-j-clause-below2
add_product-sum-requires-in-loop-j-clause-below2 g c =
    let s = c.requires.seen in
    let row = c.args.self.now.row in
    let room = piece_room _ _ _ _ _ _ _ s _ c.requires.d_in_bounds in
    let pair = next_pair _ _ _ row _ s.few (get_or c.args.dealt.now.values.now c.args.d 0) _ _ room _ _ c.loop-j-test.true c.number-coin.ensures.eq in
    let front = front_below _ _ _ row _ s.few in
    let all = coefficients_below _ _ _ row _ s.few (get_or c.args.dealt.now.values.now c.args.d 0) _ _ room s.coins (value_below _ _ _ _ _ _ _ s _ c.requires.d_in_bounds) in
    let ready = c.args.self.now.run.now.ran.running.ready in
    search (dealing, pair, front, all, ready)

pub loop-j-preserved : goal.loop-j-preserved
loop-j-preserved g c =
    let s = c.requires.seen in
    let row = c.args.self.now.row in
    let room = piece_room _ _ _ _ _ _ _ s _ c.requires.d_in_bounds in
    let pair = next_pair _ _ _ row _ s.few (get_or c.args.dealt.now.values.now c.args.d 0) _ _ room _ _ c.loop-j-test.true c.number-coin.ensures.eq in
    let front = front_below _ _ _ row _ s.few in
    let all = coefficients_below _ _ _ row _ s.few (get_or c.args.dealt.now.values.now c.args.d 0) _ _ room s.coins (value_below _ _ _ _ _ _ _ s _ c.requires.d_in_bounds) in
    let ready = c.args.self.now.run.now.ran.running.ready in
    search (dealing, pair, front, all, ready)

pub returns : goal.returns
returns g c = search dealing
