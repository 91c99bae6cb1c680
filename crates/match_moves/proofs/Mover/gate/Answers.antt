use Rattle.match_moves.proofs.GateMoveLaws.{moving_gate}
use Rattle.match_moves.proofs.Mover.gate.Goals as goal

pub dealing-requires-clause-before_lt_p : goal.dealing-requires-clause-before_lt_p
dealing-requires-clause-before_lt_p c = search moving_gate

pub dealing-requires-clause-lent : goal.dealing-requires-clause-lent
dealing-requires-clause-lent c = search moving_gate

pub multiply-requires-clause-t_bound : goal.multiply-requires-clause-t_bound
multiply-requires-clause-t_bound c = search moving_gate

pub multiply-requires-clause-rowed : goal.multiply-requires-clause-rowed
multiply-requires-clause-rowed c = search moving_gate

pub multiply-requires-clause-rowed_2 : goal.multiply-requires-clause-rowed_2
multiply-requires-clause-rowed_2 c = search moving_gate

pub multiply-requires-clause-lent : goal.multiply-requires-clause-lent
multiply-requires-clause-lent c = search moving_gate

pub returns-in-Input : goal.returns-in-Input
returns-in-Input c = search moving_gate

pub truncated-requires-clause-t_bound : goal.truncated-requires-clause-t_bound
truncated-requires-clause-t_bound c = search moving_gate

pub truncated-requires-clause-rowed : goal.truncated-requires-clause-rowed
truncated-requires-clause-rowed c = search moving_gate

pub truncated-requires-clause-rowed_2 : goal.truncated-requires-clause-rowed_2
truncated-requires-clause-rowed_2 c = search moving_gate

pub truncated-requires-clause-lent : goal.truncated-requires-clause-lent
truncated-requires-clause-lent c = search moving_gate

pub returns-in-Reduction : goal.returns-in-Reduction
returns-in-Reduction c = search moving_gate

pub returns-in-Truncation : goal.returns-in-Truncation
returns-in-Truncation c = search moving_gate

pub returns-in_default : goal.returns-in_default
returns-in_default c = search moving_gate

pub random-requires : goal.random-requires
random-requires c = search moving_gate

pub returns-in-Random : goal.returns-in-Random
returns-in-Random c = search moving_gate
