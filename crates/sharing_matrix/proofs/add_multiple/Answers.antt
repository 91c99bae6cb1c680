use Rattle.sharing_matrix.proofs.Fitting.{adding}
use Rattle.sharing_matrix.proofs.add_multiple.Goals as goal

pub loop-j-preserved : goal.loop-j-preserved
loop-j-preserved c = search adding
