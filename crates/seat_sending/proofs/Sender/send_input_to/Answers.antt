use Rattle.seat_sending.proofs.InputLaws.{sharing_one}
use Rattle.seat_sending.proofs.Sender.send_input_to.Goals as goal

pub invariant_of-dealt : goal.invariant_of-dealt
invariant_of-dealt c = search sharing_one

pub returns : goal.returns
returns c = search sharing_one
