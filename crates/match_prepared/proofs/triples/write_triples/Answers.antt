use mathlib.Core.Path.{◌≡◌}
use Rattle.match_prepared.proofs.TripleLaws.{leaving, columns_left}
use Rattle.match_prepared.proofs.triples.write_triples.Goals as goal

pub returns : goal.returns
returns c =
    let e : c.new-run.result.plan.now ≡ c.args.plan.now = c.new-run.ensures in
    columns_left _ _ c.args.plan.now.planned c.requires.no_spend _ _ c.requires.given c.fill.new.table (search leaving) (rw e at c.fill.ensures.table_after) _ c.write_columns.ensures
