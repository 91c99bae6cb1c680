use mathlib.Core.Path.{◌≡◌, ap, ◌∙◌}
use mathlib.Core.List.{List}
use Prim.Native.Nat.{ℕ, ◌≤◌}
use native.Mathlib.Omega.{arith}
use Rattle.plan.specs.File.{gate_at}
use Rattle.run_views.proofs.ViewLaws.{gathering}
use Rattle.run_views.proofs.Run.put_gates.Goals as goal

pub loop-g-init : goal.loop-g-init
loop-g-init g c = record { placed = search gathering; put = λ f k. search gathering }

pub put-requires : goal.put-requires
put-requires g c =
    let is : c.gate-gate.result ≡ gate_at c.args.self.now.plan.now.bytes.now c.loop-g.g = c.gate-gate.ensures ∙ ap (λ (bs : List ℕ). gate_at bs c.loop-g.g) c.gates-gates.ensures.bytes in
    search (gathering, c.requires, is)

pub overflow_add-from : goal.overflow_add-from
overflow_add-from g c = search gathering

pub loop-g-preserved : goal.loop-g-preserved
loop-g-preserved g c =
    let few : c.coins_taken-from.result ≤ 630 = omega (arith, c.coins_taken-from.ensures.most) in
    let is : c.gate-gate.result ≡ gate_at c.args.self.now.plan.now.bytes.now c.loop-g.g = c.gate-gate.ensures ∙ ap (λ (bs : List ℕ). gate_at bs c.loop-g.g) c.gates-gates.ensures.bytes in
    record {
      placed = search (gathering, is);
      put =
          λ f k.
          let w = c.loop-g.invariant.put f k in
          let v = k c.gate-gate.result c.loop-g.i c.loop-g.from c.loop-g.spent _ _ c.put.ensures in
          (v.same ∙ w.0, search (gathering, is, w.1, v.wrote));
    }

pub returns : goal.returns
returns g c = λ f k. let w = c.loop-g.invariant.put f k in search (gathering, w.0, w.1)
