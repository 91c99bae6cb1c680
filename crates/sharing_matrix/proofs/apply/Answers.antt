use Rattle.sharing_matrix.proofs.Ruling.{dealing, applied-is}
use Rattle.sharing_matrix.proofs.apply.Goals as goal

pub returns : goal.returns
returns c = applied-is _ _ _ _ _ _ _ c.deal.ensures (search dealing) (search dealing) (search dealing) (search dealing) (search dealing)
