use lib.ListN.{get_or}
use borrow.Author.Rules.{rules}
use Rattle.numbers.specs.Bytes.{numbers}
use Rattle.run_dealings.specs.Rows.{draws_of}
use Rattle.run_dealings.proofs.draws.Goals as goal

pub returns : goal.returns
unfolding draws_of
returns c = (c.row_by.ensures (λ d. get_or (numbers c.args.inputs.now) d 0) (λ j r l q. search rules)).0
