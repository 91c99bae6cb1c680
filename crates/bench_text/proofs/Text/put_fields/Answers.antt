use native.Mathlib.Omega.{arith}
use Rattle.bench_text.proofs.Appending.{fields_end}
use Rattle.bench_text.proofs.Text.put_fields.Goals as goal

pub returns-clause-put : goal.returns-clause-put
returns-clause-put c = fields_end _ _ _ _ _ _ _ _ _ c.loop-i.invariant.left c.min-i-end.ensures (omega arith)
