use Rattle.match_agreement.proofs.AgreeLaws.{inputting}
use Rattle.match_agreement.proofs.InputPair.check_inputs.Goals as goal

pub returns-in-Some-first_over : goal.returns-in-Some-first_over
returns-in-Some-first_over c = search inputting
