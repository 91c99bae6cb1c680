use Rattle.sharing_matrix.proofs.Ruling.{valuing}
use Rattle.sharing_matrix.proofs.Bases.row.Goals as goal

pub loop-j-preserved : goal.loop-j-preserved
loop-j-preserved c = search valuing
