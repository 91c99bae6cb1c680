use Rattle.run_dealings.proofs.TruncationLaws.{cutting_products}
use Rattle.run_dealings.proofs.Dealings.cut_products.Goals as goal

pub shares-requires-clause-values_value : goal.shares-requires-clause-values_value
shares-requires-clause-values_value c = search cutting_products
