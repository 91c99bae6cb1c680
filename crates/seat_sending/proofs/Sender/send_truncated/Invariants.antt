use Rattle.seat_sending.proofs.CutLaws.{Pieced}
use Rattle.seat_sending.proofs.Sender.send_truncated.Given as goal

abbrev pub invariant-loop-j : goal.invariant-loop-j
invariant-loop-j l = Pieced l.pieces l.self.seat.now.plan.now.header.n l.initial.out l.out l.j
