use mathlib.Core.Path.{◌≡◌}
use lib.ListN.{get_or}
use Rattle.sharing.proofs.Weighing.{Weighed}
use Rattle.sharing.proofs.weight.Given as goal

abbrev pub invariant-loop-y : goal.invariant-loop-y
invariant-loop-y l = (l.x ≡ get_or l.points l.i 0) × Weighed l.f.p l.z l.points l.x l.above l.below l.y-index
