use Rattle.pool_views.proofs.Viewed.{viewing, views_long}
use Rattle.pool_views.proofs.views_bytes.Goals as goal

pub returns-clause-is : goal.returns-clause-is
returns-clause-is c =
    (search viewing, views_long _ _ c.in_ok-plan.ensures.passed _ c.in_ok-plan.plan.planned _ _ c.set_ok.ensures c.if-not-set_ok.false _ c.settings-k.ensures.eq c.if-k-gt65536.false _ c.row_width.ensures.eq)
