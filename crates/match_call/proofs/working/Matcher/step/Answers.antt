use Rattle.match_call.proofs.StepMatchLaws.{matching_step}
use Rattle.match_call.proofs.working.Matcher.step.Goals as goal

pub step_both-requires : goal.step_both-requires
step_both-requires c = search matching_step

pub returns : goal.returns
returns c = search matching_step
