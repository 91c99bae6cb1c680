use lib.ListN.{get_or}
use Rattle.numbers.proofs.Fills.{Filled}
use Rattle.sharing_laws.specs.Interp.{weight}
use Rattle.sharing.proofs.weights.Given as goal

abbrev pub invariant-loop-i : goal.invariant-loop-i
invariant-loop-i l = Filled (λ k. weight l.f.p l.z l.points (get_or l.points k 0)) l.initial.out l.out l.i
