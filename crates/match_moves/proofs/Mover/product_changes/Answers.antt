use Rattle.match_moves.proofs.TruncationLaws.{entry_change, changing}
use Rattle.match_moves.proofs.Mover.product_changes.Goals as goal

pub returns : goal.returns
returns c =
    let made = (c.row_by.ensures (entry_change c.args.self.now.header.field.p c.products-first.result c.products-second.result) (λ j r l q. search changing)).0 in
    search changing
