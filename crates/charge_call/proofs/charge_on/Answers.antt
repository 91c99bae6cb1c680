use Rattle.charge_call.proofs.Charging.{charging}
use Rattle.charge_call.proofs.charge_on.Goals as goal

pub returns-then-price-gt1000000-clause-answer : goal.returns-then-price-gt1000000-clause-answer
returns-then-price-gt1000000-clause-answer c = search charging

pub returns-then-price-gt1000000-clause-out : goal.returns-then-price-gt1000000-clause-out
returns-then-price-gt1000000-clause-out c = search charging

pub returns-then-out-plan-clause-answer : goal.returns-then-out-plan-clause-answer
returns-then-out-plan-clause-answer c = search charging

pub returns-then-out-plan-clause-out : goal.returns-then-out-plan-clause-out
returns-then-out-plan-clause-out c = search charging

pub returns-clause-answer : goal.returns-clause-answer
returns-clause-answer c = search charging

pub returns-clause-out : goal.returns-clause-out
returns-clause-out c = search charging
