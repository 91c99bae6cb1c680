use Prim.Native.Nat.{◌+◌, ◌*◌, ◌/◌}
use lib.ListN.{length}
use Rattle.numbers.specs.Bytes.{width, numbers}
use Rattle.count_fill.proofs.RowLaws.{Filling}
use Rattle.count_fill.proofs.Settings.fill_by.Given as goal

abbrev pub invariant-loop-s : goal.invariant-loop-s
invariant-loop-s l = Filling l.self.run.now.plan.now.bytes.now l.self.set (numbers l.self.inputs.now) (numbers l.self.given.now) l.self.view_len (length l.initial.out / (width * (l.self.view_len + 1))) l.size l.coins l.initial.out l.out l.s
