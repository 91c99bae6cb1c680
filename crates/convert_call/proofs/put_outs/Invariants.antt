use Rattle.convert_call.proofs.Converting.{OutsPut}
use Rattle.convert_call.proofs.put_outs.Given as goal

abbrev pub invariant-loop-o : goal.invariant-loop-o
invariant-loop-o l = OutsPut l.plan.bytes.now l.plan.header l.initial.out l.o l.out
