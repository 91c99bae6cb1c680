-- How many wires a plan's lists of wires have.
-- Assumes nothing.
use Prim.Native.Nat.{ℕ, suc, ◌≤◌}
use mathlib.Core.Path.{◌≡◌, refl, ap}
use mathlib.Core.Bool.{Bool, true, false, cond}
use mathlib.Core.List.{List, [], ◌∷◌}
use native.Mathlib.Omega.{arith}
use lib.Dec.{eqb}
use lib.ListN.{length}
use Rattle.numbers.specs.Tables.{count_where}
use Rattle.plan.specs.declared.Gate.{Gate}
use Rattle.plan.specs.declared.Output.{Output}
use Rattle.plan.specs.Plans.{Plan, wires_from, is_input_of, input_wires, out_wires_of}

-- the wires whose gates pass a test
module _ (f : Gate → Bool) where
  count-length : (b : Bool) (g n : ℕ) (ws : List ℕ) → length ws ≡ n → length (cond b (g ∷ ws) ws) ≡ cond b (suc n) n
  count-length true g n ws e = ap suc e
  count-length false g n ws e = e

  pub length_wires : (g : ℕ) (gs : List Gate) → length (wires_from f g gs) ≡ count_where f gs
  unfolding wires_from count_where
  length_wires g [] = refl
  length_wires g (x ∷ gs) = count-length (f x) g (count_where f gs) (wires_from f (suc g) gs) (length_wires (suc g) gs)

pub length-input_wires : (plan : Plan) (i : ℕ) → length (input_wires plan i) ≡ count_where (is_input_of i) plan.gates
unfolding input_wires
length-input_wires plan i = length_wires (is_input_of i) 0 plan.gates

-- a party's outs
pub out_wires_few : (i : ℕ) (os : List Output) → length (out_wires_of i os) ≤ length os
unfolding out_wires_of
out_wires_few i [] = omega arith
out_wires_few i (o ∷ os) = step (eqb i o.party) (out_wires_few i os)
  where
    step : (b : Bool) → length (out_wires_of i os) ≤ length os → length (cond b (o.wire ∷ out_wires_of i os) (out_wires_of i os)) ≤ suc (length os)
    step true l = omega (arith, l)
    step false l = omega (arith, l)
