use Rattle.run_dealings.proofs.DealingLaws.{weighing}
use Rattle.run_dealings.proofs.Dealings.weighed_in.Goals as goal

pub polynomials-requires-clause-t_lt_k : goal.polynomials-requires-clause-t_lt_k
polynomials-requires-clause-t_lt_k c = search weighing

pub returns-in-Grid : goal.returns-in-Grid
returns-in-Grid c = search weighing

pub returns-in-Sum : goal.returns-in-Sum
returns-in-Sum c = search weighing

pub polynomials-requires-clause-values_in_bounds : goal.polynomials-requires-clause-values_in_bounds
polynomials-requires-clause-values_in_bounds c = search weighing
