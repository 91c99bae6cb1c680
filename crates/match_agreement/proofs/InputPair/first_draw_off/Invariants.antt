use Prim.Native.Nat.{suc}
use Rattle.numbers.specs.Tables.{tab}
use Rattle.numbers.specs.Bytes.{numbers}
use Rattle.numbers.proofs.Searches.{Seeking}
use Rattle.match_agreement.specs.MatchParts.{gate_agrees}
use Rattle.match_agreement.proofs.InputPair.first_draw_off.Given as goal

abbrev pub invariant-loop-j : goal.invariant-loop-j
invariant-loop-j l =
    Seeking (gate_agrees l.self.set (tab suc l.self.plan.now.header.n) (numbers l.self.first.now) (numbers l.self.second.now) l.next) l.self.plan.now.header.n l.j
