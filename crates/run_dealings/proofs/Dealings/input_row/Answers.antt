use Rattle.run_dealings.proofs.DealingLaws.{inputs}
use Rattle.run_dealings.proofs.Dealings.input_row.Goals as goal

pub slice_bounds-dealt-end : goal.slice_bounds-dealt-end
slice_bounds-dealt-end c = search inputs

pub returns : goal.returns
returns c = search inputs
