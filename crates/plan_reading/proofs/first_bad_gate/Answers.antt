use Rattle.plan_reading.proofs.Reading.{gates}
use Rattle.plan_reading.proofs.first_bad_gate.Goals.{then-not-gate_ok-via-then-not-gate_ok, then-not-gate_ok-via-else-not-gate_ok+then-spent-gt-SPEND_LIMIT}
use Rattle.plan_reading.proofs.first_bad_gate.Goals as goal

pub loop-g-init : goal.loop-g-init
loop-g-init c = search gates

pub returns-then-not-gate_ok : goal.returns-then-not-gate_ok
returns-then-not-gate_ok c = elim c.then-not-gate_ok.branch [
  | then-not-gate_ok-via-then-not-gate_ok w ↦ search gates
  | then-not-gate_ok-via-else-not-gate_ok+then-spent-gt-SPEND_LIMIT w ↦ search gates
]

pub loop-g-preserved : goal.loop-g-preserved
loop-g-preserved c = search gates
