use Rattle.sheet_call.proofs.Calls.{compiling}
use Rattle.sheet_call.proofs.measure_sheet.Goals as goal

pub measure_in-requires : goal.measure_in-requires
measure_in-requires c = search compiling
