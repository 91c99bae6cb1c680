use Rattle.sheet_read.specs.declared.Level.TheVariants as level
use Rattle.sheet_read.proofs.Readers.{reading, chain_broken, chain_lost, chain_done}
use Rattle.sheet_read.proofs.Formula.+bracket_product_sum.Goals as goal

pub bracket-returns-then-b-ne40 : goal.bracket-returns-then-b-ne40
bracket-returns-then-b-ne40 t c = search reading

pub bracket-returns-then-depth-ge16 : goal.bracket-returns-then-depth-ge16
bracket-returns-then-depth-ge16 t c = search reading

pub bracket-returns-in_err-inner : goal.bracket-returns-in_err-inner
bracket-returns-in_err-inner t c = search (reading, c.in_err-inner.was)

pub bracket-returns : goal.bracket-returns
bracket-returns t c = search (reading, c.in_ok-inner.was)

pub product-returns-in_err-left : goal.product-returns-in_err-left
product-returns-in_err-left t c = search (reading, chain_broken level.Product, c.in_err-left.was)

pub product-loop-operator-init : goal.product-loop-operator-init
product-loop-operator-init t c = search (reading, c.in_ok-left.was)

pub product-returns-in_err-right : goal.product-returns-in_err-right
product-returns-in_err-right t c = search (reading, chain_lost level.Product, c.in_err-right.was)

pub product-loop-operator-smaller : goal.product-loop-operator-smaller
product-loop-operator-smaller t c = search (reading, c.in_ok-right.was)

pub product-loop-operator-preserved : goal.product-loop-operator-preserved
product-loop-operator-preserved t c = search (reading, c.in_ok-right.was)

pub product-after-from-requires : goal.product-after-from-requires
product-after-from-requires t c = search reading

pub product-bracket-requires-in-Some : goal.product-bracket-requires-in-Some
product-bracket-requires-in-Some t c = search reading

pub product-returns : goal.product-returns
product-returns t c = search (reading, chain_done level.Product)

pub sum-returns-in_err-left : goal.sum-returns-in_err-left
sum-returns-in_err-left t c = search (reading, chain_broken level.Sum, c.in_err-left.was)

pub sum-loop-operator-init : goal.sum-loop-operator-init
sum-loop-operator-init t c = search (reading, c.in_ok-left.was)

pub sum-returns-in_err-right : goal.sum-returns-in_err-right
sum-returns-in_err-right t c = search (reading, chain_lost level.Sum, c.in_err-right.was)

pub sum-loop-operator-smaller : goal.sum-loop-operator-smaller
sum-loop-operator-smaller t c = search (reading, c.in_ok-right.was)

pub sum-loop-operator-preserved : goal.sum-loop-operator-preserved
sum-loop-operator-preserved t c = search (reading, c.in_ok-right.was)

pub sum-after-from-requires : goal.sum-after-from-requires
sum-after-from-requires t c = search reading

pub sum-product-requires-in-Some : goal.sum-product-requires-in-Some
sum-product-requires-in-Some t c = search reading

pub sum-returns : goal.sum-returns
sum-returns t c = search (reading, chain_done level.Sum)
