use lib.ListN.{get_or}
use Rattle.run_dealings.proofs.MaskLaws.{halving, whole_is, doubled, row_some}
use Rattle.run_dealings.proofs.Dealings.whole_value.Goals as goal

pub dot_by-low-requires-clause-values_value : goal.dot_by-low-requires-clause-values_value
dot_by-low-requires-clause-values_value c = search halving

pub dot_by-high-requires-clause-values_value : goal.dot_by-high-requires-clause-values_value
dot_by-high-requires-clause-values_value c = search halving

pub mul-next-requires : goal.mul-next-requires
mul-next-requires c = search halving

pub returns : goal.returns
returns c =
    whole_is _ _ _ c.power_row-row.result.now c.args.polynomial.now _ _ _ (row_some _ _ c.power_row-row.ensures.some) c.power_row-row.ensures.are
    (doubled c.args.self.now.sums.field.p c.args.self.now.t (get_or c.args.self.now.points.now c.args.j 0) _ _ c.power_row-row.ensures.long c.requires.polynomial_len) _ c.dot_by-low.ensures c.dot_by-high.ensures
    c.mul-next.ensures c.dot_by.ensures
