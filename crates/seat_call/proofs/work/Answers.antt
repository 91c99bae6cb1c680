use Rattle.seat_call.proofs.CallLaws.{working}
use Rattle.seat_call.proofs.work.Goals as goal

pub returns-clause-triples : goal.returns-clause-triples
returns-clause-triples c = search working

pub returns-clause-state : goal.returns-clause-state
returns-clause-state c = search working

pub returns-clause-out : goal.returns-clause-out
returns-clause-out c = search working
