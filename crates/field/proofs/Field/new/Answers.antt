use Rattle.field.proofs.Elements.{methods}
use Rattle.field.proofs.Field.new.Goals as goal

pub invariant_of-result : goal.invariant_of-result
invariant_of-result c = search methods
