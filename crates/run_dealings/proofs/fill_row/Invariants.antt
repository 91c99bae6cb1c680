use Prim.Native.Nat.{ℕ, ◌<◌}
use Rattle.std.proofs.Common.{◌≡◌}
use lib.ListN.{length}
use Rattle.numbers.proofs.Fills.{Filled}
use Rattle.run_dealings.proofs.fill_row.Given as goal

abbrev pub invariant-loop-j : goal.invariant-loop-j
invariant-loop-j g l = (entry : ℕ → ℕ) → ((j r : ℕ) → j < length l.initial.row → goal.F-post g l.rule j r → r ≡ entry j) → Filled entry l.initial.row l.row l.j
