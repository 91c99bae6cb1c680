use Rattle.match_call.proofs.RunsLaws.{matching_runs}
use Rattle.match_call.proofs.working.Matcher.work.Goals as goal

pub loop-g-init : goal.loop-g-init
loop-g-init c = search matching_runs

pub step-at-requires : goal.step-at-requires
step-at-requires c = search matching_runs

pub returns : goal.returns
returns c = search matching_runs
