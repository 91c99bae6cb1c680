use Rattle.numbers.specs.Bytes.{numbers}
use Rattle.plan.specs.File.{plan_of}
use Rattle.plan.proofs.Refusals.{Tried}
use Rattle.seat_admission.specs.Parts.{out_check}
use Rattle.seat_admission.proofs.check_outs.Given as goal

abbrev pub invariant-loop-j : goal.invariant-loop-j
invariant-loop-j l = Tried (out_check (plan_of l.seat.plan.now.bytes.now) l.own (numbers l.mail)) l.own l.j
