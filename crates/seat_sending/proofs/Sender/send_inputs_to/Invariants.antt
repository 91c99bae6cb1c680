use Rattle.seat_sending.proofs.InputLaws.{Inputting}
use Rattle.seat_sending.proofs.Sender.send_inputs_to.Given as goal

abbrev pub invariant-loop-g : goal.invariant-loop-g
invariant-loop-g l = Inputting l.self.seat.now.plan.now.bytes.now l.self.seat.now.party l.self.lists.now.inputs.now l.self.lists.now.coins.now l.x l.at l.initial.out l.out l.place l.passed l.g
