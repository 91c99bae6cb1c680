use Rattle.match_moves.proofs.MoveLaws.{Gathered}
use Rattle.match_moves.proofs.members.Given as goal

abbrev pub invariant-loop-i : goal.invariant-loop-i
invariant-loop-i l = Gathered l.points l.set l.room l.k l.i
