use Rattle.import_write.proofs.Whole.{importing}
use Rattle.import_write.proofs.write_text.Goals as goal

pub returns-in_default : goal.returns-in_default
returns-in_default c = search importing

pub slice_bounds-room-end : goal.slice_bounds-room-end
slice_bounds-room-end c = search importing

pub slice_bounds-put_file-end : goal.slice_bounds-put_file-end
slice_bounds-put_file-end c = search importing

pub put_file-requires : goal.put_file-requires
put_file-requires c = search importing

pub returns : goal.returns
returns c = search importing
