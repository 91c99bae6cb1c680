use Rattle.numbers.specs.Bytes.{numbers}
use Rattle.seat_sending.proofs.OutLaws.{Outing}
use Rattle.seat_sending.proofs.Sender.send_outs_to.Given as goal

abbrev pub invariant-loop-o : goal.invariant-loop-o
invariant-loop-o l = Outing l.self.seat.now.plan.now.bytes.now l.party (numbers l.self.shares.now) l.at l.initial.out l.out l.place l.o
