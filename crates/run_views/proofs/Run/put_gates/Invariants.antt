use Prim.Native.Nat.{ℕ}
use mathlib.Core.Path.{◌≡◌}
use mathlib.Core.List.{List}
use Rattle.plan.specs.declared.Gate.{Gate}
use Rattle.run_views.specs.Writing.{Put}
use Rattle.run_views.proofs.ViewLaws.{Placed, Gathering}
use Rattle.run_views.proofs.Run.put_gates.Given as goal

abbrev pub invariant-loop-g : goal.invariant-loop-g
invariant-loop-g g l = record {
  placed : Placed l.self.plan.now.bytes.now l.i l.from l.spent l.g;
  put : (f : Gate → ℕ → ℕ → ℕ → List ℕ) → ((x : Gate) (i from spent : ℕ) (w w_ : _) → goal.F-post g l.put x i from spent w tt w_ → Put (f x i from spent) w.now w_.now)
      → (l.out.out.ghost_name ≡ l.initial.out.out.ghost_name) × Gathering f l.self.plan.now.bytes.now l.initial.out.at l.initial.out.out.now l.out.out.now l.out.at l.i l.from l.spent l.g;
}
