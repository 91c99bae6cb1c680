use Rattle.run_views.proofs.ViewLaws.{left_row, right_row, rowed_in, products_are, products_seen, products_put}
use Rattle.run_views.proofs.Pieces.put_products.Goals as goal

pub products-products-requires-clause-rowed : goal.products-products-requires-clause-rowed
products-products-requires-clause-rowed c =
    let run = c.args.self.now.run.now in
    rowed_in _ _ run.plan.now.planned _ _ _ _ run.fitted _ _ (left_row _ _ _ _ _ _ run.ran _ _ c.requires.multiplies)

pub products-products-requires-clause-rowed_2 : goal.products-products-requires-clause-rowed_2
products-products-requires-clause-rowed_2 c =
    let run = c.args.self.now.run.now in
    rowed_in _ _ run.plan.now.planned _ _ _ _ run.fitted _ _ (right_row _ _ _ _ _ _ run.ran _ _ c.requires.multiplies)

pub put-requires : goal.put-requires
put-requires c =
    let run = c.args.self.now.run.now in
    products_seen _ _ _ _ _ _ run.ran _ _ c.args.self.now.row _ _ _ _ c.requires.multiplies c.requires.from_in_bounds
    (products_are _ _ run.plan.now.planned _ _ _ _ run.fitted _ _ _ _ _ c.products-products.ensures.result_value)

pub returns : goal.returns
returns c =
    let run = c.args.self.now.run.now in
    record {
      same = c.put.ensures.same;
      wrote =
          products_put _ _ _ _ _ _ _ _ _ _ _ _ _
          (products_are _ _ run.plan.now.planned _ _ _ _ run.fitted _ _ _ _ _ c.products-products.ensures.result_value) c.put.ensures.wrote;
    }
