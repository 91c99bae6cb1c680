use mathlib.Core.List.{◌∷◌}
use lib.ListN.{take, drop, get_or}
use Rattle.numbers.specs.Bytes.{numbers}
use Rattle.numbers.proofs.Fills.{Filled}
use Rattle.run_dealings.proofs.polynomial.Given as goal

abbrev pub invariant-loop-i : goal.invariant-loop-i
invariant-loop-i l = Filled (λ k. get_or (l.value ∷ take l.t (drop l.at (numbers l.coins))) k 0) l.initial.out l.out l.i
