-- The figures of the plan that a circuit makes, and who gets its results.
--     made-owners     who puts in each figure
--     made_count      one for each input wire
--     made-own        input value k belongs to party k
--     made-others     only party 1 gets results
-- Assumes nothing.
use Prim.Native.Nat.{ℕ, zero, suc, ◌+◌, ◌-◌, ◌<◌}
use mathlib.Core.Path.{◌≡◌, refl, ap, ap₂, ◌∙◌}
use mathlib.Core.List.{List, [], ◌∷◌, ◌++◌, flat_map, append-nil}
use native.Mathlib.Omega.{arith}
use borrow.Author.Tests.{ne_eqb}
use lib.ListN.{length, get_or, take, drop, replicate, length-append, length-replicate, length-drop}
use lib.Seq.{drop-drop}
use Rattle.numbers.specs.Tables.{tab}
use Rattle.sharing_laws.proofs.Lists.{flat_map-append}
use Rattle.plan.specs.declared.Gate.TheVariants.{Input}
use Rattle.plan.specs.Plans.{Plan, input_owners_at, input_owners, own_of, own_inputs, input_count, out_wires_of, out_wires}
use Rattle.plan_file.specs.Bodies.{plan_with}
use Rattle.run_protocol.specs.Ideal.{granted}
use Rattle.run_protocol.proofs.Owners.{own-append, own_same, own-other}
use Rattle.import_lines.specs.Places.{sum_of}
use Rattle.import_text.specs.declared.LogicGate.{LogicGate}
use Rattle.import_text.specs.declared.LogicGate.TheVariants.{Xor, And, Inv}
use Rattle.import_text.specs.Circuits.{Circuit}
use Rattle.import_circuit.specs.Wires.{input_wires, output_wires}
use Rattle.import_circuit.specs.Making.{input_gates, first_holders, gate_size, xor_gates, made_by, held_by, gates_from, held_after, circuit_gates, outs_of, circuit_outs, circuit_bodies}

-- ---- whose
-- the owner of each input of these values, the first of which belongs to party k
value_owners : ℕ → List ℕ → List ℕ
value_owners k [] = []
value_owners k (w ∷ ws) = replicate w k ++ value_owners (suc k) ws

module _ (plan : Plan) where
  owners-party : (k w : ℕ) → flat_map (input_owners_at plan) (replicate w (Input k)) ≡ replicate w k
  unfolding flat_map input_owners_at
  owners-party k zero = refl
  owners-party k (suc w) = ap (λ (l : List ℕ). k ∷ l) (owners-party k w)

  owners-inputs : (k : ℕ) (ws : List ℕ) → flat_map (input_owners_at plan) (input_gates k ws) ≡ value_owners k ws
  unfolding input_gates value_owners
  owners-inputs k [] = unfold flat_map in refl
  owners-inputs k (w ∷ ws) =
      flat_map-append (input_owners_at plan) (replicate w (Input k)) (input_gates (suc k) ws) ∙ ap₂ (λ (a b : List ℕ). a ++ b) (owners-party k w) (owners-inputs (suc k) ws)

  owners-made : (p g : ℕ) (held : List ℕ) (x : LogicGate) → flat_map (input_owners_at plan) (made_by p g held x) ≡ []
  unfolding made_by xor_gates flat_map input_owners_at
  owners-made p g held (Xor a b c) = refl
  owners-made p g held (And a b c) = refl
  owners-made p g held (Inv a c) = refl

  owners_from : (p g : ℕ) (held : List ℕ) (xs : List LogicGate) → flat_map (input_owners_at plan) (gates_from p g held xs) ≡ []
  unfolding gates_from
  owners_from p g held [] = unfold flat_map in refl
  owners_from p g held (x ∷ xs) =
      flat_map-append (input_owners_at plan) (made_by p g held x) (gates_from p (g + gate_size x) (held_by g held x) xs)
      ∙ ap₂ (λ (a b : List ℕ). a ++ b) (owners-made p g held x) (owners_from p (g + gate_size x) (held_by g held x) xs)

  owners-circuit : (p : ℕ) (c : Circuit) → flat_map (input_owners_at plan) (circuit_gates p c) ≡ value_owners 1 c.inputs
  unfolding circuit_gates
  owners-circuit p c =
      flat_map-append (input_owners_at plan) (input_gates 1 c.inputs) (gates_from p (input_wires c) (first_holders c) c.gates)
      ∙ ap₂ (λ (a b : List ℕ). a ++ b) (owners-inputs 1 c.inputs) (owners_from p (input_wires c) (first_holders c) c.gates)
      ∙ append-nil (value_owners 1 c.inputs)

count-values : (k : ℕ) (ws : List ℕ) → length (value_owners k ws) ≡ sum_of ws
unfolding value_owners sum_of
count-values k [] = refl
count-values k (w ∷ ws) = omega (arith, length-append (replicate w k) (value_owners (suc k) ws), length-replicate {A = ℕ} w k, count-values (suc k) ws)

-- ---- what a party puts in
module _ (i : ℕ) where
  past_value : (j w : ℕ) (ws ys : List ℕ) → own_of i (value_owners j (w ∷ ws)) ys ≡ own_of i (replicate w j) ys ++ own_of i (value_owners (suc j) ws) (drop w ys)
  unfolding value_owners
  past_value j w ws ys =
      own-append i (replicate w j) (value_owners (suc j) ws) ys
      ∙ ap (λ (m : ℕ). own_of i (replicate w j) ys ++ own_of i (value_owners (suc j) ws) (drop m ys)) (length-replicate {A = ℕ} w j)

  none-later : (j : ℕ) (ws ys : List ℕ) → i < j → own_of i (value_owners j ws) ys ≡ []
  none-later j [] ys l = unfold value_owners in unfold own_of in refl
  none-later j (w ∷ ws) ys l =
      past_value j w ws ys ∙ ap₂ (λ (a b : List ℕ). a ++ b) (own-other i w j ys (λ e. omega (arith, e))) (none-later (suc j) ws (drop w ys) (omega arith))

  own_value : (j k : ℕ) (ws ys : List ℕ) → i ≡ j + k → length ys ≡ sum_of ws → own_of i (value_owners j ws) ys ≡ take (get_or ws k 0) (drop (sum_of (take k ws)) ys)
  unfolding sum_of
  own_value j k [] ys e l = unfold value_owners in unfold own_of in refl
  own_value j zero (w ∷ ws) ys e l =
      let same : j ≡ i = omega (arith, e) in
      past_value j w ws ys
      ∙ ap₂ (λ (a b : List ℕ). a ++ b) (ap (λ (q : ℕ). own_of i (replicate w q) ys) same ∙ own_same i w ys (omega (arith, l))) (none-later (suc j) ws (drop w ys) (omega arith))
      ∙ append-nil (take w ys)
  own_value j (suc k) (w ∷ ws) ys e l =
      past_value j w ws ys
      ∙ ap₂ (λ (a b : List ℕ). a ++ b) (own-other i w j ys (λ q. omega (arith, e, q)))
      (own_value (suc j) k ws (drop w ys) (omega (arith, e)) (length-drop w ys ∙ omega (arith, l)) ∙ ap (take (get_or ws k 0)) (drop-drop (sum_of (take k ws)) w ys))

-- ---- the plan
module _ (n t p : ℕ) (c : Circuit) where
  made-owners : input_owners (plan_with n t p (circuit_bodies p c)) ≡ value_owners 1 c.inputs
  unfolding input_owners plan_with circuit_bodies
  made-owners = owners-circuit (plan_with n t p (circuit_bodies p c)) p c

  pub made_count : input_count (plan_with n t p (circuit_bodies p c)) ≡ input_wires c
  unfolding input_count
  made_count = ap length made-owners ∙ count-values 1 c.inputs

  -- input value k, counted from 0, is what party k + 1 puts in
  pub made-own : (k : ℕ) (xs : List ℕ) → length xs ≡ input_wires c
      → own_inputs (plan_with n t p (circuit_bodies p c)) (suc k) xs ≡ take (get_or c.inputs k 0) (drop (sum_of (take k c.inputs)) xs)
  unfolding own_inputs
  made-own k xs l = ap (λ (os : List ℕ). own_of (suc k) os xs) made-owners ∙ own_value (suc k) 1 k c.inputs xs (omega arith) l

  no_outs : (i : ℕ) (f : ℕ → ℕ) (k : ℕ) → (i ≡ 1 → ⊥) → out_wires_of i (tab (λ o. record { party = 1; wire = f o }) k) ≡ []
  unfolding out_wires_of tab
  no_outs i f zero m = refl
  no_outs i f (suc k) m = rw (ne_eqb i 1 m) (no_outs i (λ o. f (suc o)) k m)

  pub made-others : (i : ℕ) (xs : List ℕ) → (i ≡ 1 → ⊥) → granted (plan_with n t p (circuit_bodies p c)) xs i ≡ []
  unfolding granted out_wires plan_with circuit_bodies circuit_outs outs_of
  made-others i xs m =
      rw (no_outs i (λ o. get_or (held_after (input_wires c) (first_holders c) c.gates) (c.wires - output_wires c + o) 0) (output_wires c) m)
