use Rattle.std.proofs.Common.{◌≤◌, length}
use Rattle.std.proofs.lemmas.List.{length_push}
use Rattle.std.proofs.lemmas.Iterator.Adapters.{YieldsList-from_rev_slice}
use Rattle.std.proofs.lemmas.Iterator.Consumers.{YieldsList-end}
use Rattle.sharing.proofs.Walks.{turn_back}
use Rattle.sharing_delta.proofs.Factors.{growing, none-left}
use Rattle.sharing_delta.proofs.vanishing.Goals as goal

pub inverse-requires : goal.inverse-requires
inverse-requires c =
    let n = turn_back _ _ _ c.args.members.now c.loop-member.yielded _ c.in-Some.member (cc) c.loop-member.yielded_by c.in-Some.is c.next.ensures.steps in
    search growing

pub loop-member-preserved : goal.loop-member-preserved
loop-member-preserved c =
    let n = turn_back _ _ _ c.args.members.now c.loop-member.yielded _ c.in-Some.member (cc) c.loop-member.yielded_by c.in-Some.is c.next.ensures.steps in
    let l = length_push c.loop-member.yielded c.in-Some.member in
    search growing

pub returns : goal.returns
returns c =
    let n : length c.args.members.now ≤ length c.loop-member.yielded = none-left _ _ (YieldsList-end (YieldsList-from_rev_slice c.args.members.now cc) c.loop-member.yielded _ c.loop-member.yielded_by _ _ c.in-None.is c.next.ensures.steps).1 in
    search growing
