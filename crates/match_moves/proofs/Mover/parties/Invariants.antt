use Prim.Native.Nat.{◌*◌}
use lib.ListN.{drop}
use Rattle.numbers.specs.Bytes.{numbers}
use Rattle.match_moves.specs.Truncations.{party_at}
use Rattle.match_moves.proofs.TruncationLaws.{Parting}
use Rattle.match_moves.proofs.Mover.parties.Given as goal

abbrev pub invariant-loop-i : goal.invariant-loop-i
invariant-loop-i l =
    Parting
    (party_at l.self.header.field.p l.self.header.t l.self.set l.self.truncation.now.lowest l.self.delta.now l.self.truncation.now.spares.now l.e l.gains
    (drop l.at (numbers l.self.coins.now)))
    (3 * l.self.header.t) l.self.header.n l.at l.initial.out l.out l.place l.i
