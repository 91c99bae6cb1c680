use mathlib.Core.Path.{sym, ◌∙◌}
use Rattle.run_views.proofs.ViewLaws.{truncating, row_is_of, row_small, matrix_row_long, counted_as_points, truncated_put}
use Rattle.run_views.proofs.Pieces.put_truncated.Goals as goal

pub row-requires : goal.row-requires
row-requires c = search truncating

pub invariant_of-weighed : goal.invariant_of-weighed
invariant_of-weighed c =
    record {
      threshold = search truncating;
      parties = search truncating;
      powered = search truncating;
      dealers = search truncating;
      weights_below = row_small _ _ _ _ c.requires.cutting _ _ c.row.ensures (search truncating);
    }

pub weighed_row-requires-clause-values_len : goal.weighed_row-requires-clause-values_len
weighed_row-requires-clause-values_len c =
    counted_as_points _ _ c.args.self.now.run.now.plan.now.planned _ _ _ _ c.args.self.now.run.now.fitted _ c.requires.masked_len
    ∙ sym (matrix_row_long _ _ _ _ c.requires.cutting _ _ c.row.ensures)

pub weighed_row-requires-clause-spaced : goal.weighed_row-requires-clause-spaced
weighed_row-requires-clause-spaced c = search truncating

pub returns : goal.returns
returns c =
    record {
      same = c.put_row.ensures.same;
      wrote =
          truncated_put _ _ c.args.self.now.run.now.plan.now.planned _ _ _ _ c.args.self.now.run.now.fitted _ _ _ _ _ _ _ _ (row_is_of _ _ _ _ c.requires.cutting _ _ c.row.ensures)
          c.weighed_row.ensures c.put_row.ensures.wrote;
    }
