use Rattle.sharing_matrix.proofs.Fitting.{fitting, mix-none}
use Rattle.sharing_matrix.proofs.Bases.fit.Goals as goal

pub loop-i-init : goal.loop-i-init
loop-i-init c = mix-none _ _ _ _ _ _ (c.fill.ensures.after (λ y e. e)) c.requires.out_len

pub loop-i-preserved : goal.loop-i-preserved
loop-i-preserved c = search fitting

pub returns : goal.returns
returns c = search fitting
