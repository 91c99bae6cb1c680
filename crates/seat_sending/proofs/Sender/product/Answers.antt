use Rattle.seat_sending.proofs.GateLaws.{multiplying_shares}
use Rattle.seat_sending.proofs.Sender.product.Goals as goal

pub mul-requires : goal.mul-requires
mul-requires c = search multiplying_shares

pub returns : goal.returns
returns c = search multiplying_shares
