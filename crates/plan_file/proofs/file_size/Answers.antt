use Rattle.plan_file.proofs.Writing.{sizing}
use Rattle.plan_file.proofs.file_size.Goals as goal

pub returns : goal.returns
returns c = search sizing
