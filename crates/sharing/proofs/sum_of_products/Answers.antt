use Rattle.std.proofs.Common.{◌≤◌, length}
use Rattle.std.proofs.lemmas.List.{length_push}
use Rattle.std.proofs.lemmas.Slice.Zip.{zip_turn, zip_end}
use Rattle.sharing.proofs.Walks.{Pair, pair_at, all_paired}
use Rattle.sharing.proofs.Coding.{summing}
use Rattle.sharing.proofs.sum_of_products.Goals as goal

pub add_product-sum-requires-clause-below2 : goal.add_product-sum-requires-clause-below2
add_product-sum-requires-clause-below2 c =
    let t : Pair c.args.weights.now c.args.values.now (length c.loop-w.yielded) c.in-Some.w.now c.in-Some.v.now = pair_at _ _ _ _ _ (zip_turn c.args.weights.now c.args.values.now c.loop-w.yielded c.into_iter-w-iterator.result c.loop-w.w-iterator c.next.new.self _ (cc) (cc) c.loop-w.yielded_by (c.in-Some.w, c.in-Some.v) c.in-Some.is c.next.ensures.steps) in
    search summing

pub loop-w-preserved : goal.loop-w-preserved
loop-w-preserved c =
    let t : Pair c.args.weights.now c.args.values.now (length c.loop-w.yielded) c.in-Some.w.now c.in-Some.v.now = pair_at _ _ _ _ _ (zip_turn c.args.weights.now c.args.values.now c.loop-w.yielded c.into_iter-w-iterator.result c.loop-w.w-iterator c.next.new.self _ (cc) (cc) c.loop-w.yielded_by (c.in-Some.w, c.in-Some.v) c.in-Some.is c.next.ensures.steps) in
    let l = length_push c.loop-w.yielded (c.in-Some.w, c.in-Some.v) in
    search summing

pub returns-clause-rest : goal.returns-clause-rest
returns-clause-rest c =
    let t : length c.args.weights.now ≤ length c.loop-w.yielded = all_paired _ _ _ (zip_end c.args.weights.now c.args.values.now c.loop-w.yielded c.into_iter-w-iterator.result c.loop-w.w-iterator c.next.new.self _ (cc) (cc) c.loop-w.yielded_by c.in-None.is c.next.ensures.steps) c.requires.weights_in_bounds in
    search summing
