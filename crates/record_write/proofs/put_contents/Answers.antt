use Rattle.record_write.proofs.Contents.{listing}
use Rattle.record_write.proofs.put_contents.Goals as goal

pub loop-k-init : goal.loop-k-init
loop-k-init c = search listing

pub loop-k-preserved : goal.loop-k-preserved
loop-k-preserved c = search listing
