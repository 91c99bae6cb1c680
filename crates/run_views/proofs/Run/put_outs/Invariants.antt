use Prim.Native.Nat.{ℕ, ◌<◌}
use mathlib.Core.Path.{◌≡◌}
use Rattle.run_views.proofs.ViewLaws.{Outing}
use Rattle.run_views.proofs.Run.put_outs.Given as goal

abbrev pub invariant-loop-k : goal.invariant-loop-k
invariant-loop-k g l = record {
  same : l.out.out.ghost_name ≡ l.initial.out.out.ghost_name;
  put : (f : ℕ → ℕ) → ((w v : ℕ) → w < l.self.plan.now.header.gates → goal.F-post g l.value w v → v ≡ f w) → Outing l.i f l.self.plan.now.bytes.now l.initial.out.at l.initial.out.out.now l.out.out.now l.out.at l.k;
}
