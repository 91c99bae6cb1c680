use Rattle.match_prepared.proofs.DrawLaws.{values_small}
use Rattle.match_prepared.proofs.MatchingLaws.{first-small, second-small, draws-small, draws-fit, draws-done}
use Rattle.match_prepared.proofs.matching.Parts.move_draws.Goals as goal

pub values-requires-clause-inputs_value : goal.values-requires-clause-inputs_value
values-requires-clause-inputs_value c = let s = c.args.self.now in first-small s.pair.preparing.now.planned s.pair.lists.plan.now.planned s.parted

pub values-requires-2-clause-inputs_value : goal.values-requires-2-clause-inputs_value
values-requires-2-clause-inputs_value c = let s = c.args.self.now in second-small s.pair.preparing.now.planned s.pair.lists.plan.now.planned s.parted

pub invariant_of-values : goal.invariant_of-values
invariant_of-values c =
    let s = c.args.self.now in
    record {
      first = values_small _ _ s.pair.lists.plan.now.planned _ _ (first-small s.pair.preparing.now.planned s.pair.lists.plan.now.planned s.parted) c.values.ensures;
      second = values_small _ _ s.pair.lists.plan.now.planned _ _ (second-small s.pair.preparing.now.planned s.pair.lists.plan.now.planned s.parted) c.values-2.ensures;
    }

pub move_draws-requires-clause-draws_value : goal.move_draws-requires-clause-draws_value
move_draws-requires-clause-draws_value c = let s = c.args.self.now in draws-small s.pair.preparing.now.planned s.pair.lists.plan.now.planned s.parted

pub move_draws-requires-clause-room : goal.move_draws-requires-clause-room
move_draws-requires-clause-room c = let s = c.args.self.now in draws-fit s.pair.preparing.now.planned s.pair.lists.plan.now.planned s.parted _ _ _ _ _ c.spent_changes-k.ensures _ c.requires

pub returns : goal.returns
returns c =
    let s = c.args.self.now in
    draws-done s.pair.preparing.now.planned s.pair.lists.plan.now.planned s.parted _ _ _ _ _ c.spent_changes-k.ensures c.values.ensures c.values-2.ensures
    _ c.lowest-low.ensures _ _ c.requires c.move_draws.auto.out c.move_draws.ensures c.type_inv.out
