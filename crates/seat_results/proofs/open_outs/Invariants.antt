use Rattle.numbers.specs.Bytes.{numbers}
use Rattle.seat_results.proofs.ResultLaws.{Opened}
use Rattle.seat_results.proofs.open_outs.Given as goal

abbrev pub invariant-loop-j : goal.invariant-loop-j
invariant-loop-j l = Opened l.h.field.p l.weights l.h.n l.own (numbers l.mail) l.initial.out l.out l.j
