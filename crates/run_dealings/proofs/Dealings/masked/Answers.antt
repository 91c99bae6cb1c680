use Rattle.run_dealings.proofs.MaskLaws.{masked}
use Rattle.run_dealings.proofs.Dealings.masked.Goals as goal

pub returns : goal.returns
returns c = search masked
