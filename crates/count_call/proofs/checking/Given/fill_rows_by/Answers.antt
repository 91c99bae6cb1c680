use Rattle.count_call.proofs.CallLaws.{rooming}
use Rattle.count_call.proofs.checking.Given.fill_rows_by.Goals as goal

pub owners-requires : goal.owners-requires
owners-requires c = search rooming

pub slice_bounds-owners-end-2 : goal.slice_bounds-owners-end-2
slice_bounds-owners-end-2 c = search rooming

pub slice_bounds-settings-end : goal.slice_bounds-settings-end
slice_bounds-settings-end c = search rooming

pub invariant_of-settings : goal.invariant_of-settings
invariant_of-settings c = record { lent = search rooming }
