use Rattle.std.proofs.Common.{◌≤◌, length}
use Rattle.std.proofs.lemmas.List.{length_push}
use Rattle.std.proofs.lemmas.Iterator.Adapters.{YieldsList-from_rev_slice}
use Rattle.std.proofs.lemmas.Iterator.Consumers.{YieldsList-end}
use Rattle.sharing.proofs.Walks.{turn_back}
use Rattle.sharing_matrix.proofs.Factors.{basing, none-left}
use Rattle.sharing_matrix.proofs.low_basis.Goals as goal

pub loop-y-init : goal.loop-y-init
loop-y-init c = search basing

pub factor-below-requires-clause-below2 : goal.factor-below-requires-clause-below2
factor-below-requires-clause-below2 c =
    let n = turn_back _ _ _ c.args.points.now c.loop-y.yielded _ c.in-Some.y (cc) c.loop-y.yielded_by c.in-Some.is c.next.ensures.steps in
    search basing

pub loop-y-preserved : goal.loop-y-preserved
loop-y-preserved c =
    let n = turn_back _ _ _ c.args.points.now c.loop-y.yielded _ c.in-Some.y (cc) c.loop-y.yielded_by c.in-Some.is c.next.ensures.steps in
    let l = length_push c.loop-y.yielded c.in-Some.y in
    search basing

pub returns : goal.returns
returns c =
    let n : length c.args.points.now ≤ length c.loop-y.yielded = none-left _ _ (YieldsList-end (YieldsList-from_rev_slice c.args.points.now cc) c.loop-y.yielded _ c.loop-y.yielded_by _ _ c.in-None.is c.next.ensures.steps).1 in
    search basing
