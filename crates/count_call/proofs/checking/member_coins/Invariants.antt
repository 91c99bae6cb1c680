use Rattle.count_call.proofs.SizeLaws.{Gathering}
use Rattle.count_call.proofs.checking.member_coins.Given as goal

abbrev pub invariant-loop-i : goal.invariant-loop-i
invariant-loop-i l = Gathering l.plan.bytes.now l.set l.k l.i
