use Rattle.run_views.proofs.ViewLaws.{owning}
use Rattle.run_views.proofs.Member.own_inputs.Goals as goal

pub returns-then-party-self : goal.returns-then-party-self
returns-then-party-self c = search owning

pub returns-else-party-self : goal.returns-else-party-self
returns-else-party-self c = search owning

pub returns-in-Random : goal.returns-in-Random
returns-in-Random c = search owning

pub returns-in_default : goal.returns-in_default
returns-in_default c = search owning
