use Rattle.match_moves.specs.Truncations.{gain_of}
use Rattle.match_moves.proofs.TruncationLaws.{gaining}
use Rattle.match_moves.proofs.Mover.gains.Goals as goal

pub returns : goal.returns
returns c =
    let made = (c.row_by.ensures (gain_of c.args.self.now.header.field.p c.args.self.now.delta.now c.args.change.now) (λ j r l q. search gaining)).0 in
    search gaining
