use Rattle.numbers.specs.Bytes.{numbers}
use Rattle.run_tables.proofs.FillLaws.{Filling}
use Rattle.run_tables.proofs.RunPlan.fill.Given as goal

abbrev pub invariant-loop-g : goal.invariant-loop-g
invariant-loop-g l = Filling l.self.plan.now.bytes.now l.self.plan.now.header (numbers l.inputs) (numbers l.coins) (numbers l.triples) l.initial.table l.table l.i l.at l.spent l.g
