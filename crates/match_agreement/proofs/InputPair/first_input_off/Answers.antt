use Rattle.match_agreement.proofs.AgreeLaws.{comparing}
use Rattle.match_agreement.proofs.InputPair.first_input_off.Goals as goal

pub loop-g-init : goal.loop-g-init
loop-g-init c = search comparing

pub overflow_add-result : goal.overflow_add-result
overflow_add-result c = search comparing

pub returns-in-Some : goal.returns-in-Some
returns-in-Some c = search comparing

pub loop-g-preserved : goal.loop-g-preserved
loop-g-preserved c = search comparing

pub returns : goal.returns
returns c = search comparing
