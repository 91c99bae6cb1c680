use Rattle.record_write.proofs.Contents.{sizing}
use Rattle.record_write.proofs.body_size.Goals as goal

pub returns : goal.returns
returns c = search sizing
