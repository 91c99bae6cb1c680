use mathlib.Core.List.{◌∷◌}
use Prim.Native.Nat.{◌+◌, ◌*◌}
use Rattle.numbers.specs.Bytes.{numbers}
use Rattle.sharing.proofs.Coding.{Summed}
use lib.ListN.{take, drop, get_or}
use Rattle.run_views.proofs.Pieces.piece.Given as goal

abbrev pub invariant-loop-j : goal.invariant-loop-j
invariant-loop-j g l = Summed l.self.run.now.plan.now.header.field.p (take (l.dealt.t + 1) l.self.powers.now) (get_or l.dealt.values.now l.d 0 ∷ take l.dealt.t (drop (l.dealt.at + l.dealt.step * l.d) (numbers l.dealt.coins.now))) l.sum (l.j + 1)
