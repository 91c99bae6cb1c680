use mathlib.Core.Path.{◌∙◌}
use Rattle.run_dealings.proofs.DealingLaws.{front-is}
use Rattle.match_prepared.proofs.MatchingLaws.{none-spends, first-given, second-given, main-runs, main-done, spending_triples}
use Rattle.match_prepared.proofs.matching.Parts.match_main.Goals as goal

pub write_triples-requires-clause-no_spend : goal.write_triples-requires-clause-no_spend
write_triples-requires-clause-no_spend c = let s = c.args.self.now in none-spends s.pair.preparing.now.planned s.pair.lists.plan.now.planned s.parted

pub write_triples-requires-clause-given : goal.write_triples-requires-clause-given
write_triples-requires-clause-given c = let s = c.args.self.now in first-given s.pair.preparing.now.planned s.pair.lists.plan.now.planned s.parted

pub write_triples-requires-2-clause-no_spend : goal.write_triples-requires-2-clause-no_spend
write_triples-requires-2-clause-no_spend c = let s = c.args.self.now in none-spends s.pair.preparing.now.planned s.pair.lists.plan.now.planned s.parted

pub write_triples-requires-2-clause-given : goal.write_triples-requires-2-clause-given
write_triples-requires-2-clause-given c = let s = c.args.self.now in second-given s.pair.preparing.now.planned s.pair.lists.plan.now.planned s.parted c.requires.moved_value c.requires.coins_value

pub matched_with-requires : goal.matched_with-requires
matched_with-requires c =
    let s = c.args.self.now in
    main-runs s.pair.preparing.now.planned s.pair.lists.plan.now.planned s.parted c.requires.moved_value c.requires.coins_value
    (front-is _ _ _ (search spending_triples) c.write_triples.auto.out ∙ c.write_triples.ensures)
    (front-is _ _ _ (search spending_triples) c.write_triples-2.auto.out ∙ c.write_triples-2.ensures) c.requires.out_len

pub returns : goal.returns
returns c =
    let s = c.args.self.now in
    main-done s.pair.preparing.now.planned s.pair.lists.plan.now.planned s.parted c.requires.moved_value c.requires.coins_value
    (front-is _ _ _ (search spending_triples) c.write_triples.auto.out ∙ c.write_triples.ensures)
    (front-is _ _ _ (search spending_triples) c.write_triples-2.auto.out ∙ c.write_triples-2.ensures) c.matched_with.ensures.numbers c.matched_with.ensures.bytes
