use Rattle.match_prepared.proofs.PartLaws.{both-parts, room-parts, draws-part-long, parted, joined}
use Rattle.match_prepared.proofs.matching.matched.Goals as goal

pub slice_bounds-parts-end : goal.slice_bounds-parts-end
slice_bounds-parts-end c = draws-part-long c.args.pair.now.lists.plan.now.planned c.requires c.input_count-a.ensures.eq c.coin_count.ensures.eq

pub slice_bounds-parts-end-2 : goal.slice_bounds-parts-end-2
slice_bounds-parts-end-2 c = both-parts c.args.pair.now.lists.plan.now.planned c.requires c.input_count-a.ensures.eq c.coin_count.ensures.eq

pub slice_bounds-parts-count-2 : goal.slice_bounds-parts-count-2
slice_bounds-parts-count-2 c = both-parts c.args.pair.now.lists.plan.now.planned c.requires c.input_count-a.ensures.eq c.coin_count.ensures.eq

pub slice_bounds-parts-start-2 : goal.slice_bounds-parts-start-2
slice_bounds-parts-start-2 c = both-parts c.args.pair.now.lists.plan.now.planned c.requires c.input_count-a.ensures.eq c.coin_count.ensures.eq

pub split_at_mut-front-requires : goal.split_at_mut-front-requires
split_at_mut-front-requires c = room-parts c.args.pair.now.lists.plan.now.planned c.requires c.input_count-a.ensures.eq c.coin_count.ensures.eq

pub invariant_of-parts : goal.invariant_of-parts
invariant_of-parts c =
    record {
      parted = parted c.args.pair.now.lists.plan.now.planned c.requires c.input_count-a.ensures.eq c.coin_count.ensures.eq;
    }

pub returns : goal.returns
returns c =
    joined c.args.pair.now.lists.plan.now.planned c.requires c.input_count-a.ensures.eq c.coin_count.ensures.eq
    c.move_draws.ensures c.match_preparing.ensures c.match_main.ensures
