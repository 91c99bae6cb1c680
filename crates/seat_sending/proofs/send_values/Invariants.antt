use Rattle.seat_sending.proofs.DealLaws.{Handed}
use Rattle.seat_sending.proofs.send_values.Given as goal

abbrev pub invariant-loop-j : goal.invariant-loop-j
invariant-loop-j l = Handed l.f.p l.polynomial l.points l.initial.out l.out l.j
