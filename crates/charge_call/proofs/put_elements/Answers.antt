use Rattle.std.proofs.Common.{arith}
use Rattle.charge_call.proofs.Charging.{listing, listed}
use Rattle.charge_call.proofs.put_elements.Goals as goal

pub loop-i-init : goal.loop-i-init
loop-i-init c = search listing

pub loop-i-preserved : goal.loop-i-preserved
loop-i-preserved c = search listing

pub returns : goal.returns
returns c = listed c.args.plan.now.bytes.now c.args.plan.now.header c.args.plan.now.planned c.loop-i.es c.loop-i.i c.loop-i.invariant (omega arith)
