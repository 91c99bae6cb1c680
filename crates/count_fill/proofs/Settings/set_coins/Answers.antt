use Rattle.count_fill.proofs.SettingLaws.{setting, setting_next}
use Rattle.count_fill.proofs.Settings.set_coins.Goals as goal

pub loop-c-preserved : goal.loop-c-preserved
loop-c-preserved c =
    setting_next _ _ _ _ _ _ _ _ _ _ c.loop-c.invariant _ _ _ _ _ _ c.loop-c-test.true (search setting) c.is_member-member.ensures c.coin-next.ensures.coin
    (search setting) c.coin-next.ensures.left c.write.ensures
