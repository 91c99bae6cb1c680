use Rattle.plan.proofs.Handed.{handed_on}
use Rattle.import_call.proofs.Calls.{importing, import-refused}
use Rattle.import_call.proofs.import_plan.Goals as goal

pub returns-in_err-c-clause-answer : goal.returns-in_err-c-clause-answer
returns-in_err-c-clause-answer c =
    rw (handed_on _ _ c.from_residual.ensures.1) (import-refused _ _ _ _ _ c.measure_text.ensures _ c.in_err-c.was _)

pub write_text-requires : goal.write_text-requires
write_text-requires c = search (importing, c.in_ok-c.was)
