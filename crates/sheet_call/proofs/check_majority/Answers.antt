use Rattle.sheet_call.proofs.Calls.{majorities}
use Rattle.sheet_call.proofs.check_majority.Goals as goal

pub survey-requires : goal.survey-requires
survey-requires c = search majorities

pub write-requires-clause-compilable : goal.write-requires-clause-compilable
write-requires-clause-compilable c = search majorities

pub returns : goal.returns
returns c = search majorities
