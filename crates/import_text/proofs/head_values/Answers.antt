use Rattle.import_text.proofs.Scanned.{heading}
use Rattle.import_text.proofs.head_values.Goals as goal

pub returns-in_err-inputs : goal.returns-in_err-inputs
returns-in_err-inputs c = search (heading, c.in_err-inputs.was)

pub returns-in_err-outputs : goal.returns-in_err-outputs
returns-in_err-outputs c = search (heading, c.in_ok-inputs.was, c.in_err-outputs.was)

pub returns : goal.returns
returns c = search (heading, c.in_ok-inputs.was, c.in_ok-outputs.was)
