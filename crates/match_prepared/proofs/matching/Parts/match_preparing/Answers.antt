use Rattle.match_prepared.proofs.MatchingLaws.{preparing-runs, preparing-done}
use Rattle.match_prepared.proofs.matching.Parts.match_preparing.Goals as goal

pub matched_with-requires : goal.matched_with-requires
matched_with-requires c = let s = c.args.self.now in preparing-runs s.pair.preparing.now.planned s.pair.lists.plan.now.planned s.parted c.requires.moved_value c.requires.out_len

pub returns : goal.returns
returns c =
    let s = c.args.self.now in
    preparing-done s.pair.preparing.now.planned s.pair.lists.plan.now.planned s.parted c.requires.moved_value c.matched_with.ensures.numbers c.matched_with.ensures.bytes
