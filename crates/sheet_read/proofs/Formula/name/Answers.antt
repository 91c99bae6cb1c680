use Rattle.sheet_read.proofs.Leaves.{leaving}
use Rattle.sheet_read.proofs.Formula.name.Goals as goal

pub overflow_mul-v : goal.overflow_mul-v
overflow_mul-v c = search (leaving, c.in_ok-v.was)

pub overflow_add-v : goal.overflow_add-v
overflow_add-v c = search (leaving, c.in_ok-v.was)

pub overflow_add-v-2 : goal.overflow_add-v-2
overflow_add-v-2 c = search (leaving, c.in_ok-v.was)

pub returns-clause-table : goal.returns-clause-table
returns-clause-table c = search (leaving, c.in_ok-v.was)

pub returns-clause-ahead : goal.returns-clause-ahead
returns-clause-ahead c = search (leaving, c.in_ok-v.was)
