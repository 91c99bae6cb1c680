use Rattle.numbers.proofs.Fills.{Filled}
use Rattle.import_write.proofs.hold_own.Given as goal

abbrev pub invariant-loop-w : goal.invariant-loop-w
invariant-loop-w l = Filled (λ w. w) l.initial.held l.held l.w
