use lib.ListN.{length, get_or}
use Rattle.numbers.specs.Bytes.{numbers}
use Rattle.plan.specs.Plans.{input_wires}
use Rattle.plan.specs.File.{plan_of}
use Rattle.seat_sending.specs.Sending.{input_shares}
use Rattle.seat_sending.proofs.SendLaws.{Rows}
use Rattle.seat_sending.proofs.Sender.send_inputs.Given as goal

abbrev pub invariant-loop-x : goal.invariant-loop-x
invariant-loop-x l =
    Rows
    (λ j. input_shares (plan_of l.self.seat.now.plan.now.bytes.now) l.self.seat.now.party (input_wires (plan_of l.self.seat.now.plan.now.bytes.now) l.self.seat.now.party) (numbers l.self.lists.now.inputs.now) (numbers l.self.lists.now.coins.now) (get_or l.x-items j 0))
    1024 (length l.x-items) l.initial.out l.out l.at l.x-index
