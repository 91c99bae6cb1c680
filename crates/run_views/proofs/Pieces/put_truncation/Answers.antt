use mathlib.Core.Path.{◌∙◌}
use Rattle.run_views.proofs.ViewLaws.{truncation_pieces, left_row, right_row, rowed_as, masked_coined, masked_begin_fits, small_by_majority, masked_seen, masked_are, take_replicate, truncation_put}
use Rattle.run_views.proofs.Pieces.put_truncation.Goals as goal

pub masked-products-requires-clause-coined : goal.masked-products-requires-clause-coined
masked-products-requires-clause-coined c =
    let run = c.args.self.now.run.now in
    masked_coined _ _ run.plan.now.planned _ _ _ _ run.fitted _ _ run.ran.below c.requires.from_in_bounds

pub masked-products-requires-clause-rowed : goal.masked-products-requires-clause-rowed
masked-products-requires-clause-rowed c =
    let run = c.args.self.now.run.now in
    rowed_as _ _ run.plan.now.planned _ _ _ _ run.fitted _ _ (left_row _ _ _ _ _ _ run.ran _ _ c.requires.multiplies)

pub masked-products-requires-clause-rowed_2 : goal.masked-products-requires-clause-rowed_2
masked-products-requires-clause-rowed_2 c =
    let run = c.args.self.now.run.now in
    rowed_as _ _ run.plan.now.planned _ _ _ _ run.fitted _ _ (right_row _ _ _ _ _ _ run.ran _ _ c.requires.multiplies)

pub overflow_add-masked-2 : goal.overflow_add-masked-2
overflow_add-masked-2 c =
    let run = c.args.self.now.run.now in
    masked_begin_fits _ _ _ (small_by_majority _ _ _ c.requires.multiplies run.ran.running.few) c.requires.from_in_bounds run.lent.1

pub put-requires : goal.put-requires
put-requires c = search truncation_pieces

pub put-requires-2 : goal.put-requires-2
put-requires-2 c =
    let run = c.args.self.now.run.now in
    masked_seen _ _ _ _ _ _ run.ran _ _ c.args.self.now.row _ _ _ c.requires.multiplies c.requires.rule_value c.requires.from_in_bounds
    _ run.plan.now.planned _ _ _ _ run.fitted _ c.masked-products.ensures

pub put_truncated-requires-clause-seen : goal.put_truncated-requires-clause-seen
put_truncated-requires-clause-seen c =
    let run = c.args.self.now.run.now in
    masked_seen _ _ _ _ _ _ run.ran _ _ c.args.self.now.row _ _ _ c.requires.multiplies c.requires.rule_value c.requires.from_in_bounds
    _ run.plan.now.planned _ _ _ _ run.fitted _ c.masked-products.ensures

pub returns : goal.returns
returns c =
    let run = c.args.self.now.run.now in
    record {
      same = c.put_truncated.ensures.same ∙ c.put-2.ensures.same ∙ c.put.ensures.same;
      wrote =
          truncation_put _ _ _ _ _ _ _ _ _ _ _ _ _ _ _ _ _ _ (take_replicate _ 15 run.ran.running.few)
          (masked_are _ _ _ _ _ _ run.ran _ _ c.args.self.now.row _ _ _ c.requires.multiplies c.requires.rule_value c.requires.from_in_bounds
          _ run.plan.now.planned _ _ _ _ run.fitted _ c.masked-products.ensures)
          c.put.ensures.wrote c.put-2.ensures.wrote c.put_truncated.ensures.wrote;
    }
