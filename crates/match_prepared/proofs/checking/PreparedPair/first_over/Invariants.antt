use Prim.Native.Nat.{◌/◌}
use lib.ListN.{length}
use Rattle.numbers.specs.Bytes.{width, numbers}
use Rattle.numbers.proofs.Searches.{Seeking}
use Rattle.plan.specs.File.{plan_of}
use Rattle.match_prepared.specs.PreparedCalls.{joint_below}
use Rattle.match_prepared.proofs.checking.PreparedPair.first_over.Given as goal

abbrev pub invariant-loop-i : goal.invariant-loop-i
invariant-loop-i l =
    Seeking (joint_below (plan_of l.self.preparing.now.bytes.now) (plan_of l.self.lists.plan.now.bytes.now) (numbers l.coins)) (length l.coins / width) l.i
