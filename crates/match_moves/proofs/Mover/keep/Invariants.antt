use Rattle.numbers.specs.Bytes.{numbers}
use Rattle.match_moves.proofs.MoveLaws.{Writing}
use Rattle.match_moves.proofs.TruncationLaws.{coin_at}
use Rattle.match_moves.proofs.Mover.keep.Given as goal

abbrev pub invariant-loop-j : goal.invariant-loop-j
invariant-loop-j l = Writing (coin_at (numbers l.coins) l.at) l.k l.at l.initial.out l.out l.j
