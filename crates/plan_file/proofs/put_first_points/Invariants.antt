use Prim.Native.Nat.{suc}
use Rattle.numbers.specs.Tables.{tab}
use Rattle.plan_file.proofs.Writing.{Pointed}
use Rattle.plan_file.proofs.put_first_points.Given as goal

abbrev pub invariant-loop-i : goal.invariant-loop-i
invariant-loop-i l = Pointed l.version l.at (tab suc l.n) l.initial.out l.i l.out
