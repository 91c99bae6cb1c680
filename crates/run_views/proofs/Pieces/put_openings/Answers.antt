use mathlib.Core.Path.{◌∙◌}
use Rattle.run_views.proofs.ViewLaws.{row_stands, rowed_as, spent_next, openings_next}
use Rattle.run_views.proofs.Pieces.put_openings.Goals as goal

pub differences-left-requires-clause-spending : goal.differences-left-requires-clause-spending
differences-left-requires-clause-spending c =
    let run = c.args.self.now.run.now in
    spent_next _ _ run.plan.now.planned _ _ _ _ run.fitted _ _ c.requires.spending

pub differences-left-requires-clause-rowed : goal.differences-left-requires-clause-rowed
differences-left-requires-clause-rowed c =
    let run = c.args.self.now.run.now in
    rowed_as _ _ run.plan.now.planned _ _ _ _ run.fitted _ _ (row_stands _ _ _ _ _ _ run.ran _ c.requires.spends.left)

pub differences-right-requires-clause-spending : goal.differences-right-requires-clause-spending
differences-right-requires-clause-spending c =
    let run = c.args.self.now.run.now in
    spent_next _ _ run.plan.now.planned _ _ _ _ run.fitted _ _ c.requires.spending

pub differences-right-requires-clause-rowed : goal.differences-right-requires-clause-rowed
differences-right-requires-clause-rowed c =
    let run = c.args.self.now.run.now in
    rowed_as _ _ run.plan.now.planned _ _ _ _ run.fitted _ _ (row_stands _ _ _ _ _ _ run.ran _ c.requires.spends.right)

pub loop-j-preserved : goal.loop-j-preserved
loop-j-preserved c =
    let run = c.args.self.now.run.now in
    record {
      same = c.put_row.ensures.same ∙ c.loop-j.invariant.same;
      put = openings_next _ _ run.plan.now.planned _ _ _ _ run.fitted _ _ _ _ _ _ _ _ _ _ _ _ _ _ c.loop-j-test.true c.differences-left.ensures c.differences-right.ensures c.loop-j.invariant.put c.put_row.ensures.wrote;
    }
