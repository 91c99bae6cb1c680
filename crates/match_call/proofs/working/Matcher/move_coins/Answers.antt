use Rattle.match_call.proofs.StepMatchLaws.{matching_coins}
use Rattle.match_call.proofs.working.Matcher.move_coins.Goals as goal

pub invariant_of-mover : goal.invariant_of-mover
invariant_of-mover c = search matching_coins

pub gate-requires-2-clause-gate_value : goal.gate-requires-2-clause-gate_value
gate-requires-2-clause-gate_value c = search matching_coins

pub gate-requires-2-clause-gate_value_2 : goal.gate-requires-2-clause-gate_value_2
gate-requires-2-clause-gate_value_2 c = search matching_coins

pub gate-requires-2-clause-lent : goal.gate-requires-2-clause-lent
gate-requires-2-clause-lent c = search matching_coins

pub returns : goal.returns
returns c = search matching_coins
