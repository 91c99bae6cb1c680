use Rattle.pool_sizes.proofs.Sized.{counting}
use Rattle.pool_sizes.proofs.seat_count.Goals as goal

pub returns-in-2 : goal.returns-in-2
returns-in-2 c = search counting
