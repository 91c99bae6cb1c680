use lib.ListN.{length}
use Rattle.numbers.specs.Bytes.{numbers}
use Rattle.match_moves.proofs.MoveLaws.{moved_at, Writing}
use Rattle.match_moves.proofs.Mover.shift.Given as goal

abbrev pub invariant-loop-j : goal.invariant-loop-j
invariant-loop-j l = Writing (moved_at l.self.header.field.p l.d l.coefficients (numbers l.coins) l.at) (length l.coefficients) l.at l.initial.out l.out l.j
