-- The plan's own arithmetic gives numbers below p.
--     value-below, granted-below
--     values_length        and there is one for each gate
-- Assumes nothing.
use mathlib.Core.Path.{◌≡◌, ◌∙◌}
use mathlib.Core.Bool.{true}
use mathlib.Core.List.{List, [], ◌∷◌, ◌++◌}
use Prim.Native.Nat.{ℕ, zero, suc, ◌+◌, ◌<◌}
use native.Mathlib.Omega.{arith}
use lib.ListN.{length, take, drop, get_or, length-append}
use lib.Seq.{get_or-drop}
use Rattle.numbers.specs.Bytes.{all_below}
use Rattle.numbers.proofs.Below.{map_below, input_below}
use Rattle.field.proofs.Solve.{add_canon, mul_canon, canon-lt}
use Rattle.sharing_laws.proofs.Sums.{list_canon}
use Rattle.plan.specs.declared.Gate.{Gate}
use Rattle.plan.specs.declared.Gate.TheVariants.{Input, Add, Scale, Offset, Multiply, Random, Spend}
use Rattle.plan.specs.Plans.{Plan, party_count, out_wires}
use Rattle.run_protocol.specs.Ideal.{inputs_taken, gate_value, values_from, values, granted}

snoc_below : (p : ℕ) (env : List ℕ) (v : ℕ) → 0 < p → v < p → ((w : ℕ) → get_or env w 0 < p) → (w : ℕ) → get_or (env ++ (v ∷ [])) w 0 < p
snoc_below p [] v above l h zero = l
snoc_below p [] v above l h (suc w) = above
snoc_below p (x ∷ env) v above l h zero = h 0
snoc_below p (x ∷ env) v above l h (suc w) = snoc_below p env v above l (λ k. h (suc k)) w

module _ (plan : Plan) (above : 0 < plan.p) where
  gate-below : (g : Gate) (env xs : List ℕ) → ((k : ℕ) → get_or xs k 0 < plan.p) → gate_value plan g env xs < plan.p
  unfolding gate_value
  gate-below (Input s) env xs small = small 0
  gate-below (Add a b) env xs small = canon-lt above (add_canon _ _)
  gate-below (Scale a c) env xs small = canon-lt above (mul_canon _ _)
  gate-below (Offset a c) env xs small = canon-lt above (add_canon _ _)
  gate-below (Multiply a b) env xs small = canon-lt above (mul_canon _ _)
  gate-below Random env xs small = canon-lt above (list_canon plan.p (take (party_count plan) xs))
  gate-below (Spend a b) env xs small = canon-lt above (mul_canon _ _)

  values-below : (gs : List Gate) (env xs : List ℕ) → ((k : ℕ) → get_or xs k 0 < plan.p) → ((w : ℕ) → get_or env w 0 < plan.p)
      → (w : ℕ) → get_or (values_from plan gs env xs) w 0 < plan.p
  unfolding values_from
  values-below [] env xs small h w = h w
  values-below (g ∷ gs) env xs small h w =
      values-below gs (env ++ (gate_value plan g env xs ∷ [])) (drop (inputs_taken plan g) xs)
      (λ k. rw (get_or-drop (inputs_taken plan g) xs k 0) (small (inputs_taken plan g + k)))
      (snoc_below plan.p env (gate_value plan g env xs) above (gate-below g env xs small) h) w

  module _ (xs : List ℕ) (small : all_below plan.p xs ≡ true) where
    pub value-below : (w : ℕ) → get_or (values plan xs) w 0 < plan.p
    unfolding values
    value-below w = values-below plan.gates [] xs (input_below plan.p xs above small) (λ k. above) w

    pub granted-below : (i : ℕ) → all_below plan.p (granted plan xs i) ≡ true
    unfolding granted
    granted-below i = map_below plan.p (λ w. get_or (values plan xs) w 0) (out_wires plan i) value-below

-- ---- one for each gate
length_from : (plan : Plan) (gs : List Gate) (env xs : List ℕ) → length (values_from plan gs env xs) ≡ length env + length gs
unfolding values_from
length_from plan [] env xs = omega arith
length_from plan (g ∷ gs) env xs =
    omega (
      arith,
      length_from plan gs (env ++ (gate_value plan g env xs ∷ [])) (drop (inputs_taken plan g) xs),
      length-append env (gate_value plan g env xs ∷ []),
    )

pub values_length : (plan : Plan) (xs : List ℕ) → length (values plan xs) ≡ length plan.gates
unfolding values
values_length plan xs = length_from plan plan.gates [] xs ∙ omega arith
