use Rattle.run_dealings.proofs.SumLaws.{summed_sharing}
use Rattle.run_dealings.proofs.Dealings.summed_row.Goals as goal

pub slice_bounds-sum-end : goal.slice_bounds-sum-end
slice_bounds-sum-end c = search summed_sharing

pub returns : goal.returns
returns c = search summed_sharing
