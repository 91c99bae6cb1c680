use Rattle.sheet_write.proofs.Passing.{compiling}
use Rattle.sheet_write.proofs.Sheet.write.Goals as goal

pub put_contents-requires : goal.put_contents-requires
put_contents-requires c = search compiling

pub put_inputs-requires : goal.put_inputs-requires
put_inputs-requires c = search compiling

pub returns-in_default : goal.returns-in_default
returns-in_default c = search compiling

pub returns : goal.returns
returns c = search compiling

pub slice_bounds-put_inputs-end : goal.slice_bounds-put_inputs-end
slice_bounds-put_inputs-end c = search compiling

pub slice_bounds-put_inputs-end-2 : goal.slice_bounds-put_inputs-end-2
slice_bounds-put_inputs-end-2 c = search compiling
