use Prim.Native.Nat.{◌*◌}
use lib.ListN.{length}
use Rattle.numbers.specs.Bytes.{numbers}
use Rattle.numbers.proofs.Fills.{Numbered}
use Rattle.match_prepared.specs.PreparedParts.{moved_at}
use Rattle.match_prepared.proofs.draws.move_draws.Given as goal

abbrev pub invariant-loop-i : goal.invariant-loop-i
invariant-loop-i l = Numbered (moved_at l.f.p l.n l.low l.changes (numbers l.draws)) (l.n * length l.changes) l.initial.out l.out l.i
