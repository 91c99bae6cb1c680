use borrow.Author.Rules.{rules}
use Rattle.run_dealings.proofs.SpendLaws.{number-fits, triple-fits}
use Rattle.run_dealings.proofs.triple_number.Goals as goal

pub overflow_add-at : goal.overflow_add-at
overflow_add-at c = number-fits c.args.n _ c.args.d _ _ c.requires.triples_in_bounds c.requires.d_lt_n (search rules)

pub overflow_add-each : goal.overflow_add-each
overflow_add-each c = triple-fits c.args.n _ c.args.d _ _ c.requires.triples_in_bounds c.requires.d_lt_n (search rules)
