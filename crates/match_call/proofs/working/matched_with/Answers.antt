use Rattle.std.proofs.Common.{◌≡◌, ◌∙◌}
use Rattle.match_call.proofs.RunsLaws.{equip, absorb, working}
use Rattle.match_call.proofs.working.matched_with.Goals as goal

pub invariant_of-matcher : goal.invariant_of-matcher
invariant_of-matcher c =
    let e : c.new.result.plan.now ≡ c.args.lists.now.plan.now = c.new.ensures in
    let k = c.args.lists.now.plan.now.planned in
    record {
      equipped = rw e (equip _ _ _ _ _ _ _ _ _ _ k c.requires c.delta-delta.ensures.rest);
      absorbing = rw e (absorb _ _ _ _ _ _ _ _ _ _ k c.points_of-points.ensures (c.new-2.ensures.given.0 ∙ c.lowest-lowest.ensures) c.spares-spares.ensures c.new-2.ensures.given.1 c.new-2.ensures.fitted);
    }

pub returns-clause-numbers : goal.returns-clause-numbers
returns-clause-numbers c = let e : c.new.result.plan.now ≡ c.args.lists.now.plan.now = c.new.ensures in rw (← e) (search working)

pub returns-clause-bytes : goal.returns-clause-bytes
returns-clause-bytes c = search working
