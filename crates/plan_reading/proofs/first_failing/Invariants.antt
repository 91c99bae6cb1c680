use Prim.Native.Nat.{ℕ, ◌<◌}
use Rattle.std.proofs.Common.{Bool, ◌≡◌}
use Rattle.numbers.proofs.Searches.{Seeking}
use Rattle.plan_reading.proofs.first_failing.Given as goal

abbrev pub invariant-loop-i : goal.invariant-loop-i
invariant-loop-i g l = (test : ℕ → Bool) → ((i : ℕ) (t : Bool) → i < l.n → goal.F-post g l.ok i t → t ≡ test i) → Seeking test l.n l.i
