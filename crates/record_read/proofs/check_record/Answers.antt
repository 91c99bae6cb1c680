use Rattle.record_read.proofs.Contents.{tiling}
use Rattle.record_read.proofs.check_record.Goals as goal

pub returns-then-file-at : goal.returns-then-file-at
returns-then-file-at c = search tiling

pub loop-k-init : goal.loop-k-init
loop-k-init c = search tiling

pub loop-k-preserved : goal.loop-k-preserved
loop-k-preserved c = search tiling
