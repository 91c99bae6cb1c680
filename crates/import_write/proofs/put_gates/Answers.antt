use Rattle.import_write.proofs.Bytes.{gating}
use Rattle.import_write.proofs.put_gates.Goals as goal

pub loop-k-preserved : goal.loop-k-preserved
loop-k-preserved c = search gating
