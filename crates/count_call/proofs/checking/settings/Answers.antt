use native.Mathlib.Omega.{arith}
use Rattle.count_call.proofs.SizeLaws.{others-counted, sizing}
use Rattle.count_call.proofs.checking.settings.Goals as goal

pub overflow_sub-all : goal.overflow_sub-all
overflow_sub-all c = search sizing

pub returns-then-tally-ne0 : goal.returns-then-tally-ne0
returns-then-tally-ne0 c = record { eq = others-counted _ _ c.tally_of-tally.ensures _ c.if-tally-ne0.true; le = omega arith }

pub returns : goal.returns
returns c = record { eq = search sizing; le = omega (arith, c.min.ensures) }
