use Rattle.charge_call.proofs.Charging.{listing}
use Rattle.charge_call.proofs.write_charge.Goals as goal

pub share-requires-clause-fact : goal.share-requires-clause-fact
share-requires-clause-fact c = search listing

pub returns-clause-bill : goal.returns-clause-bill
returns-clause-bill c = search listing

pub returns-clause-out : goal.returns-clause-out
returns-clause-out c = search listing
