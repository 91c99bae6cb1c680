use Rattle.plan.specs.File.{plan_of}
use Rattle.plan_file.proofs.Writing.{Pointed}
use Rattle.convert_call.proofs.put_points.Given as goal

abbrev pub invariant-loop-i : goal.invariant-loop-i
invariant-loop-i l = Pointed 3 l.at (plan_of l.plan.bytes.now).points l.initial.out l.i l.out
