use Rattle.numbers.specs.Bytes.{numbers}
use Rattle.seat_sending.proofs.DealLaws.{Begun}
use Rattle.seat_sending.proofs.Dealt.polynomial.Given as goal

abbrev pub invariant-loop-j : goal.invariant-loop-j
invariant-loop-j l = Begun l.self.secret (numbers l.self.coins.now) l.self.at l.self.k l.polynomial l.j
