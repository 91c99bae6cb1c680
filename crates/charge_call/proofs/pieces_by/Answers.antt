use Rattle.charge_call.proofs.Charging.{listing}
use Rattle.charge_call.proofs.pieces_by.Goals as goal

pub returns-in-Truncation : goal.returns-in-Truncation
returns-in-Truncation c = search listing
