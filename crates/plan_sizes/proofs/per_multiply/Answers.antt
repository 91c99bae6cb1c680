use Rattle.plan_sizes.proofs.Sizes.{totalling}
use Rattle.plan_sizes.proofs.per_multiply.Goals as goal

pub returns-in-Reduction : goal.returns-in-Reduction
returns-in-Reduction c = search totalling

pub returns-in-Truncation : goal.returns-in-Truncation
returns-in-Truncation c = search totalling
