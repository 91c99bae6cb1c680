use Rattle.numbers.specs.Bytes.{numbers}
use Rattle.seat_messages.proofs.SumLaws.{Summed}
use Rattle.seat_messages.proofs.sum_all.Given as goal

abbrev pub invariant-loop-j : goal.invariant-loop-j
invariant-loop-j l = Summed l.f.p (numbers l.mail) l.sum l.j
