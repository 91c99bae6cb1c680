use Rattle.seat_sending.proofs.TripleLaws.{Paired}
use Rattle.seat_sending.proofs.Sender.send_pairs.Given as goal

abbrev pub invariant-loop-j : goal.invariant-loop-j
invariant-loop-j l = Paired l.d l.e l.self.seat.now.plan.now.header.n l.initial.out l.out l.j
