use Rattle.run_dealings.specs.Rows.{products_of}
use Rattle.run_dealings.proofs.RowLaws.{product_at, row_reading}
use Rattle.run_dealings.proofs.products.Goals as goal

pub row_by-requires-clause-callable : goal.row_by-requires-clause-callable
row_by-requires-clause-callable c = λ j l. search row_reading

pub returns-clause-result_value : goal.returns-clause-result_value
unfolding products_of
returns-clause-result_value c = (c.row_by.ensures (product_at c.args.sums.field.p c.args.n c.args.a c.args.b c.args.table.now) (λ j r l q. search row_reading)).0

pub returns-clause-result_value_2 : goal.returns-clause-result_value_2
returns-clause-result_value_2 c = (c.row_by.ensures (product_at c.args.sums.field.p c.args.n c.args.a c.args.b c.args.table.now) (λ j r l q. search row_reading)).1
