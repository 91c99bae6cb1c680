-- Laws of lists in parts.
--     members_split, wires-append      the members of a set, a party's outs
-- Assumes nothing.
use mathlib.Core.Path.{◌≡◌, refl}
use mathlib.Core.Bool.{Bool, true, false, cond}
use mathlib.Core.List.{List, [], ◌∷◌, ◌++◌}
use Prim.Native.Nat.{ℕ, zero, suc, ◌+◌}
use native.Mathlib.Omega.{arith}
use lib.Dec.{eqb}
use Rattle.plan.specs.declared.Output.{Output}
use Rattle.plan.specs.Plans.{out_wires_of}
use Rattle.plan_coalition.specs.Coalitions.{in_set, members_from}

pub members_split : (set : ℕ) (a i b : ℕ) → members_from set i (a + b) ≡ members_from set i a ++ members_from set (i + a) b
unfolding members_from
members_split set zero i b =
    let e : 0 + b ≡ b = omega arith in
    let f : i + 0 ≡ i = omega arith in
    rw (e, f)
members_split set (suc a) i b =
    let e : suc a + b ≡ suc (a + b) = omega arith in
    let f : i + suc a ≡ suc i + a = omega arith in
    rw (e, f, members_split set a (suc i) b) (pick (in_set set i))
  where
    pick : (t : Bool) → cond t (i ∷ (members_from set (suc i) a ++ members_from set (suc i + a) b)) (members_from set (suc i) a ++ members_from set (suc i + a) b)
        ≡ cond t (i ∷ members_from set (suc i) a) (members_from set (suc i) a) ++ members_from set (suc i + a) b
    pick true = refl
    pick false = refl

pub wires-append : (i : ℕ) (a b : List Output) → out_wires_of i (a ++ b) ≡ out_wires_of i a ++ out_wires_of i b
unfolding out_wires_of
wires-append i [] b = refl
wires-append i (x ∷ a) b = rw (wires-append i a b) (pick (eqb i x.party))
  where
    pick : (t : Bool) → cond t (x.wire ∷ (out_wires_of i a ++ out_wires_of i b)) (out_wires_of i a ++ out_wires_of i b) ≡ cond t (x.wire ∷ out_wires_of i a) (out_wires_of i a) ++ out_wires_of i b
    pick true = refl
    pick false = refl
