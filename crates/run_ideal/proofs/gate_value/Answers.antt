use Rattle.run_ideal.proofs.IdealLaws.{valuing}
use Rattle.run_ideal.proofs.gate_value.Goals as goal

pub mul-requires : goal.mul-requires
mul-requires c = search valuing

pub add-requires-in-Offset : goal.add-requires-in-Offset
add-requires-in-Offset c = search valuing

pub returns-in-Input : goal.returns-in-Input
returns-in-Input c = search valuing

pub returns-in-Random : goal.returns-in-Random
returns-in-Random c = search valuing
