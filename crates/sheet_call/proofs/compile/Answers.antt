use Rattle.plan.proofs.Handed.{handed_on}
use Rattle.sheet_call.proofs.Calls.{compiling}
use Rattle.sheet_call.proofs.compile.Goals as goal

pub measure_in-requires : goal.measure_in-requires
measure_in-requires c = search compiling

pub returns-in_err-counts-clause-answer : goal.returns-in_err-counts-clause-answer
returns-in_err-counts-clause-answer c = rw (handed_on _ _ c.from_residual.ensures.1) (search (compiling, c.in_err-counts.was))

pub write-requires-clause-compilable : goal.write-requires-clause-compilable
write-requires-clause-compilable c = search (compiling, c.in_ok-counts.was)
