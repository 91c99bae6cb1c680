use Rattle.plan_counts.proofs.Counts.{counting_one}
use Rattle.plan_counts.proofs.PlanGates.with_gate.Goals as goal

pub returns-then-k-gt-MULTIPLY : goal.returns-then-k-gt-MULTIPLY
returns-then-k-gt-MULTIPLY c = search counting_one

pub returns-then-k-eq-MULTIPLY : goal.returns-then-k-eq-MULTIPLY
returns-then-k-eq-MULTIPLY c = search counting_one

pub returns-then-k-eq-INPUT : goal.returns-then-k-eq-INPUT
returns-then-k-eq-INPUT c = search counting_one

pub returns : goal.returns
returns c = search counting_one
