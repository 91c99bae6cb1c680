use Rattle.import_write.proofs.Bytes.{naming}
use Rattle.import_write.proofs.put_inputs.Goals as goal

pub overflow_add-g : goal.overflow_add-g
overflow_add-g c = search naming

pub loop-k-preserved : goal.loop-k-preserved
loop-k-preserved c = search naming
