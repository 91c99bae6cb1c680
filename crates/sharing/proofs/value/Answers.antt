use Rattle.std.proofs.lemmas.List.{length_push}
use Rattle.std.proofs.lemmas.Iterator.Adapters.{YieldsList-from_rev_slice}
use Rattle.std.proofs.lemmas.Iterator.Consumers.{YieldsList-end}
use Rattle.sharing.proofs.Walks.{turn_back}
use Rattle.sharing.proofs.Coding.{valuing}
use Rattle.sharing.proofs.value.Goals as goal

pub overflow_add-acc : goal.overflow_add-acc
overflow_add-acc c =
    let n = turn_back _ _ _ c.args.coefficients.now c.loop-a.yielded _ c.in-Some.a (cc) c.loop-a.yielded_by c.in-Some.is c.next.ensures.steps in
    search valuing

pub loop-a-preserved : goal.loop-a-preserved
loop-a-preserved c =
    let n = turn_back _ _ _ c.args.coefficients.now c.loop-a.yielded _ c.in-Some.a (cc) c.loop-a.yielded_by c.in-Some.is c.next.ensures.steps in
    let l = length_push c.loop-a.yielded c.in-Some.a in
    search valuing

pub returns : goal.returns
returns c =
    let t = YieldsList-end (YieldsList-from_rev_slice c.args.coefficients.now cc) c.loop-a.yielded _ c.loop-a.yielded_by _ _ c.in-None.is c.next.ensures.steps in
    search (valuing, t.1)
