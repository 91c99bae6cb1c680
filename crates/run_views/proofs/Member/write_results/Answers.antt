use Rattle.run_views.proofs.ViewLaws.{resulting}
use Rattle.run_views.proofs.Member.write_results.Goals as goal

pub returns : goal.returns
returns c = c.put_outs.ensures _ (λ w v l p. search resulting)
