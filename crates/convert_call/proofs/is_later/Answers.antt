use mathlib.Core.Path.{ap, ◌∙◌}
use Rattle.plan.specs.File.{between}
use Rattle.plan.proofs.Ranges.{contains_is}
use Rattle.convert_call.proofs.Reading.{not_begun}
use Rattle.convert_call.proofs.is_later.Goals as goal

pub returns-else-contains : goal.returns-else-contains
returns-else-contains c =
    not_begun _ _ _
    (contains_is _ _ _ _ _ c.new.ensures.start c.new.ensures.end c.new.ensures.exhausted c.contains.ensures.value ∙ ap (between 3 4) c.byte.ensures.eq)
    c.if-contains.false
