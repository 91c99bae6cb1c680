use Rattle.numbers.specs.Bytes.{numbers}
use Rattle.seat_results.proofs.ResultLaws.{Copied}
use Rattle.seat_results.proofs.from_each.Given as goal

abbrev pub invariant-loop-i : goal.invariant-loop-i
invariant-loop-i l = Copied l.n l.own l.j (numbers l.mail) l.shares l.i
