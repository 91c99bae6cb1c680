use Rattle.numbers.specs.Bytes.{numbers}
use lib.ListN.{length}
use Rattle.match_moves.proofs.MoveLaws.{Blocking}
use Rattle.match_moves.proofs.Mover.dealings.Given as goal

abbrev pub invariant-loop-i : goal.invariant-loop-i
invariant-loop-i l = Blocking l.self.header.field.p l.self.set l.self.delta.now l.before l.after (numbers l.self.coins.now) l.at (length l.before) l.initial.out l.out l.place l.i
