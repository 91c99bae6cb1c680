use Rattle.import_write.proofs.Bytes.{putting}
use Rattle.import_write.proofs.hold_own.Goals as goal

pub loop-w-init : goal.loop-w-init
loop-w-init c = search putting
