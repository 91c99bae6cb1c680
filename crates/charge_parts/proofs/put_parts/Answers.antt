use mathlib.Core.Path.{refl}
use native.Mathlib.Omega.{arith}
use Rattle.charge_parts.proofs.Loops.{part_put, parts_put, putting}
use Rattle.charge_parts.proofs.put_parts.Goals as goal

pub loop-i-init : goal.loop-i-init
loop-i-init c = search putting

pub loop-i-preserved : goal.loop-i-preserved
loop-i-preserved c = part_put c.args.portions.now c.args.out.now c.loop-i.out c.loop-i.i c.loop-i.invariant _ _ c.write.new.s c.loop-i-test.true refl c.write.ensures

pub returns : goal.returns
returns c = parts_put c.args.portions.now c.args.out.now c.loop-i.out c.loop-i.i c.loop-i.invariant (omega arith) c.requires
