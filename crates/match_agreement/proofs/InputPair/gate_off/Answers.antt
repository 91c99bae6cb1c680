use Rattle.match_agreement.proofs.AgreeLaws.{gating}
use Rattle.match_agreement.proofs.InputPair.gate_off.Goals as goal

pub returns-then-same_input : goal.returns-then-same_input
returns-then-same_input c = search gating

pub returns-else-same_input : goal.returns-else-same_input
returns-else-same_input c = search gating
