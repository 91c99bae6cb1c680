use Prim.Native.Nat.{ℕ}
use mathlib.Core.Path.{◌≡◌, ap, ◌∙◌}
use mathlib.Core.List.{List}
use Rattle.plan.specs.File.{gate_at}
use Rattle.run_tables.proofs.FillLaws.{filling_table}
use Rattle.run_tables.proofs.RunPlan.fill.Goals as goal

pub loop-g-init : goal.loop-g-init
loop-g-init c = search filling_table

pub step-requires-clause-taking : goal.step-requires-clause-taking
step-requires-clause-taking c = search filling_table

pub step-requires-clause-standing : goal.step-requires-clause-standing
step-requires-clause-standing c = search filling_table

pub loop-g-preserved : goal.loop-g-preserved
loop-g-preserved c =
    let here : c.gate-gate.result ≡ gate_at c.args.self.now.plan.now.bytes.now c.loop-g.g = c.gate-gate.ensures ∙ ap (λ (bytes : List ℕ). gate_at bytes c.loop-g.g) c.gates-gates.ensures.bytes in
    search (filling_table, here)

pub returns-clause-table_after : goal.returns-clause-table_after
returns-clause-table_after c = search filling_table

pub step-requires-clause-spending : goal.step-requires-clause-spending
step-requires-clause-spending c = search filling_table
