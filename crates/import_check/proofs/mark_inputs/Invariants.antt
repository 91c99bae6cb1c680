use mathlib.Core.Bool.{cond}
use lib.Dec.{ltb}
use Rattle.numbers.proofs.Fills.{Filled}
use Rattle.import_check.proofs.mark_inputs.Given as goal

abbrev pub invariant-loop-w : goal.invariant-loop-w
invariant-loop-w l = Filled (λ w. cond (ltb w l.inputs) 1 0) l.initial.marks l.marks l.w
