use Rattle.run_views.proofs.ViewLaws.{owning}
use Rattle.run_views.proofs.Member.own_multiply.Goals as goal

pub returns-then-self-t : goal.returns-then-self-t
returns-then-self-t c = search owning

pub returns-else-self-t : goal.returns-else-self-t
returns-else-self-t c = search owning

pub returns-in-Truncation : goal.returns-in-Truncation
returns-in-Truncation c = search owning
