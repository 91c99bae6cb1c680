use Rattle.import_call.proofs.Calls.{majorities}
use Rattle.import_call.proofs.Circuit.check_majority.Goals as goal

pub returns : goal.returns
returns c = search majorities
