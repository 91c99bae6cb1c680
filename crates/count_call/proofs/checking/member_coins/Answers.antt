use Rattle.count_call.proofs.SizeLaws.{gathering}
use Rattle.count_call.proofs.checking.member_coins.Goals as goal

pub loop-i-preserved : goal.loop-i-preserved
loop-i-preserved c = search gathering

pub returns : goal.returns
returns c = search gathering
