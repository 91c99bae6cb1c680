use Rattle.run_dealings.proofs.MixtureLaws.{mixed_sharing}
use Rattle.run_dealings.proofs.Product.mixed.Goals as goal

pub slice_bounds-mixed-end : goal.slice_bounds-mixed-end
slice_bounds-mixed-end c = search mixed_sharing

pub returns : goal.returns
returns c = search mixed_sharing
