use Rattle.seat_sending.proofs.TripleLaws.{taking_off}
use Rattle.seat_sending.proofs.Sender.difference.Goals as goal

pub sub-requires : goal.sub-requires
sub-requires c = search taking_off
