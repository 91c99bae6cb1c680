use Prim.Native.Nat.{◌+◌}
use Rattle.numbers.specs.Bytes.{numbers}
use Rattle.plan.specs.Plans.{out_wires}
use Rattle.plan.specs.File.{plan_of}
use Rattle.seat_sending.specs.Sending.{out_shares}
use Rattle.seat_sending.proofs.SendLaws.{Rows}
use Rattle.seat_sending.proofs.Sender.send_outs.Given as goal

abbrev pub invariant-loop-j : goal.invariant-loop-j
invariant-loop-j l = Rows (λ j. out_shares (numbers l.self.shares.now) (out_wires (plan_of l.self.seat.now.plan.now.bytes.now) (j + 1))) 64 l.self.seat.now.plan.now.header.n l.initial.out l.out l.at l.j
