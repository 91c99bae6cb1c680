use lib.ListN.{get_or}
use Rattle.numbers.proofs.Fills.{Filled}
use Rattle.sharing_laws.specs.Poly.{eval}
use Rattle.sharing.proofs.deal.Given as goal

abbrev pub invariant-loop-k : goal.invariant-loop-k
invariant-loop-k l = Filled (λ j. eval l.f.p l.polynomial (get_or l.points j 0)) l.initial.shares l.shares l.k
