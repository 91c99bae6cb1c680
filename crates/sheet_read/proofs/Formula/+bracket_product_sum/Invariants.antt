use Rattle.std.proofs.Common.{◌*◌, ◌+◌, ◌-◌, length}
use Rattle.sheet_read.specs.declared.Level.TheVariants as level
use Rattle.sheet_read.proofs.Readers.{Chaining}
use Rattle.sheet_read.proofs.Formula.+bracket_product_sum.Given as goal

abbrev pub decreases-bracket : goal.decreases-bracket
decreases-bracket l = 3 * (16 - l.depth)

abbrev pub decreases-product : goal.decreases-product
decreases-product l = 3 * (16 - l.depth) + 1

abbrev pub decreases-sum : goal.decreases-sum
decreases-sum l = 3 * (16 - l.depth) + 2

abbrev pub invariant-product-loop-operator : goal.invariant-product-loop-operator
invariant-product-loop-operator l = Chaining level.Product l.self.text.now l.at l.depth l.self.n l.self.p l.g l.fn.names l.fn.out l.left l.names l.out

abbrev pub decreases-product-loop-operator : goal.decreases-product-loop-operator
decreases-product-loop-operator l = length l.self.text.now - l.left.at

abbrev pub invariant-sum-loop-operator : goal.invariant-sum-loop-operator
invariant-sum-loop-operator l = Chaining level.Sum l.self.text.now l.at l.depth l.self.n l.self.p l.g l.fn.names l.fn.out l.left l.names l.out

abbrev pub decreases-sum-loop-operator : goal.decreases-sum-loop-operator
decreases-sum-loop-operator l = length l.self.text.now - l.left.at
