use lib.ListN.{length}
use Rattle.sharing.proofs.Coding.{Summed}
use Rattle.sharing.proofs.sum_of_products.Given as goal

abbrev pub invariant-loop-w : goal.invariant-loop-w
invariant-loop-w l = Summed l.sums.field.p l.weights l.values l.sum (length l.yielded)
