-- What the plan's own arithmetic makes of bits is the circuit's bits.
--     xor-value, inv-value      a + b - 2ab and 1 - a, on bits
--     made-right                the gates that a circuit makes, at its last wires
-- Assumes nothing.
use Prim.Native.Nat.{ℕ, zero, suc, ◌+◌, ◌-◌, ◌*◌, ◌%◌, ◌<◌, ◌≤◌}
use mathlib.Core.Path.{◌≡◌, refl, sym, ap, ap₂, ◌∙◌}
use mathlib.Core.Bool.{true}
use mathlib.Core.List.{List, [], ◌∷◌, ◌++◌, map, append-nil, append_assoc}
use native.Mathlib.Nat.{zero-mod, mod-lt, mod-eq_of_lt, mod_self, mod-add-mod}
use native.Mathlib.Omega.{arith}
use lib.ListN.{length, get_or, take, drop, set, replicate, length-append, length-drop, length-set, length-replicate, take-append-drop, get_or-append}
use lib.Seq.{get_or-append-add, get_or-set_same, get_or-set_other, length-take-le}
use Rattle.numbers.specs.Tables.{tab}
use Rattle.numbers.specs.Bytes.{all_below}
use Rattle.numbers.proofs.Below.{all_below_at}
use Rattle.numbers.proofs.Tables.{tab-ext, tab-map, drop-tab, list-tab}
use Rattle.numbers.proofs.Truth.{both_true}
use Rattle.field.specs.Mod.{add, mul}
use Rattle.plan.specs.declared.Gate.{Gate}
use Rattle.plan.specs.declared.Gate.TheVariants.{Input, Add, Scale, Offset, Multiply}
use Rattle.plan.specs.Plans.{Plan, input_owners_at, out_wires_of, out_wires}
use Rattle.plan_file.specs.Bodies.{plan_with}
use Rattle.run_protocol.specs.Ideal.{inputs_taken, gate_value, values_from, values, granted}
use Rattle.import_lines.specs.Places.{sum_of}
use Rattle.import_text.specs.declared.LogicGate.{LogicGate}
use Rattle.import_text.specs.declared.LogicGate.TheVariants.{Xor, And, Inv}
use Rattle.import_text.specs.Circuits.{Circuit}
use Rattle.import_circuit.specs.Wires.{input_wires, output_wires, input_marks, gate_fits, set_by, marked, gates_fit, last_marks, circuit_ok}
use Rattle.import_circuit.specs.Bits.{bits_by, bits_after, circuit_bits}
use Rattle.import_circuit.specs.Making.{input_gates, first_holders, gate_size, xor_gates, made_by, held_by, gates_from, held_after, circuit_gates, outs_of, circuit_outs, circuit_bodies}
use Rattle.import_circuit.proofs.Wires.{can-set, fits-set, length_last, length_inputs, kept}
use Rattle.import_circuit.proofs.Sound.{kept-after, reads_two, reads-one, first-set, first-holder, first_long, last_set}

-- ---- bits modulo p
module _ (p : ℕ) (some : 2 ≤ p) where
  small : (x : ℕ) → x < 2 → x % p ≡ x
  small x l = mod-eq_of_lt (omega arith)

  -- the sum a, the product m and the scaled product s, one after the other
  in-steps : (x y a m s r : ℕ) → (x + y) % p ≡ a → (x * y) % p ≡ m → (m * (p - 2)) % p ≡ s → (a + s) % p ≡ r → add p (add p x y) (mul p (mul p x y) (p - 2)) ≡ r
  unfolding add mul
  in-steps x y a m s r e f g h = rw (e, f, g) h

  nothing : (k : ℕ) → (0 * k) % p ≡ 0
  nothing k = let z : 0 * k ≡ 0 = omega arith in rw z (zero-mod p)

  xor-value : (x y : ℕ) → x < 2 → y < 2 → add p (add p x y) (mul p (mul p x y) (p - 2)) ≡ (x + y) % 2
  xor-value zero zero l m = in-steps 0 0 0 0 0 0 (zero-mod p) (zero-mod p) (nothing (p - 2)) (zero-mod p)
  xor-value zero (suc zero) l m = in-steps 0 1 1 0 0 1 (small 1 (omega arith)) (zero-mod p) (nothing (p - 2)) (small 1 (omega arith))
  xor-value (suc zero) zero l m = in-steps 1 0 1 0 0 1 (small 1 (omega arith)) (zero-mod p) (nothing (p - 2)) (small 1 (omega arith))
  xor-value (suc zero) (suc zero) l m =
      let once : (1 * (p - 2)) % p ≡ p - 2 = let z : 1 * (p - 2) ≡ p - 2 = omega arith in rw z (mod-eq_of_lt (omega arith)) in
      let whole : 2 + (p - 2) ≡ p = omega arith in
      in-steps 1 1 (2 % p) 1 (p - 2) 0 refl (small 1 (omega arith)) once (mod-add-mod 2 p (p - 2) ∙ ap (λ (k : ℕ). k % p) whole ∙ mod_self p)
  xor-value (suc (suc x)) y l m = absurd (omega arith)
  xor-value zero (suc (suc y)) l m = absurd (omega arith)
  xor-value (suc zero) (suc (suc y)) l m = absurd (omega arith)

  and-value : (x y : ℕ) → x < 2 → y < 2 → mul p x y ≡ x * y
  unfolding mul
  and-value zero y l m = let z : 0 * y ≡ 0 = omega arith in rw z (zero-mod p)
  and-value (suc zero) y l m = let z : 1 * y ≡ y = omega arith in rw z (small y m)
  and-value (suc (suc x)) y l m = absurd (omega arith)

  inv-value : (x : ℕ) → x < 2 → add p (mul p x (p - 1)) 1 ≡ 1 - x
  unfolding add mul
  inv-value zero l = rw (nothing (p - 1)) (small 1 (omega arith))
  inv-value (suc zero) l =
      let once : (1 * (p - 1)) % p ≡ p - 1 = let z : 1 * (p - 1) ≡ p - 1 = omega arith in rw z (mod-eq_of_lt (omega arith)) in
      let whole : p - 1 + 1 ≡ p = omega arith in
      rw (once, whole) (mod_self p)
  inv-value (suc (suc x)) l = absurd (omega arith)

  bit_and : (x y : ℕ) → x < 2 → y < 2 → x * y < 2
  bit_and zero y l m = let z : 0 * y ≡ 0 = omega arith in rw z (omega arith)
  bit_and (suc zero) y l m = let z : 1 * y ≡ y = omega arith in rw z m
  bit_and (suc (suc x)) y l m = absurd (omega arith)

-- ---- wires that are held
-- a wire of the circuit with its bit, held by wire h of the plan
record Holds (env bits : List ℕ) (w h : ℕ) : Type 0 where
  place : h < length env
  value : get_or env h 0 ≡ get_or bits w 0
  bit : get_or bits w 0 < 2

record Holding (marks held bits env : List ℕ) : Type 0 where
  long_held : length held ≡ length marks
  long-bits : length bits ≡ length marks
  each : (w : ℕ) → get_or marks w 0 ≡ 1 → Holds env bits w (get_or held w 0)

-- one wire more, of which the value stands among those that were added
held_more : (marks held bits env vs : List ℕ) (c h r : ℕ) → Holding marks held bits env → c < length marks
    → h < length (env ++ vs) → get_or (env ++ vs) h 0 ≡ r → r < 2 → Holding (set marks c 1) (set held c h) (set bits c r) (env ++ vs)
held_more marks held bits env vs c h r k l place value bit = record {
  long_held = length-set held c h ∙ k.long_held ∙ sym (length-set marks c 1);
  long-bits = length-set bits c r ∙ k.long-bits ∙ sym (length-set marks c 1);
  each = kept-after (λ w v. Holds (env ++ vs) (set bits c r) w v) marks held c h (omega (arith, l, k.long_held))
      (let same : get_or (set bits c r) c 0 ≡ r = get_or-set_same bits c r 0 (omega (arith, l, k.long-bits)) in
      record { place = place; value = value ∙ sym same; bit = rw same bit })
      (λ w n e.
      let o : Holds env bits w (get_or held w 0) = k.each w e in
      let same : get_or (set bits c r) w 0 ≡ get_or bits w 0 = get_or-set_other bits c w r 0 n in
      record {
        place = omega (arith, o.place, length-append env vs);
        value = get_or-append env vs 0 (get_or held w 0) o.place ∙ o.value ∙ sym same;
        bit = rw same o.bit;
      });
}

-- ---- gates in a row
module _ (plan : Plan) (some : 2 ≤ plan.p) where
  abbrev p : ℕ
  p = plan.p

  -- the wires' values after one gate that takes no input
  step : (x : Gate) (xs : List Gate) (env vs : List ℕ) (v : ℕ) (ys : List ℕ) → inputs_taken plan x ≡ 0 → gate_value plan x (env ++ vs) ys ≡ v
      → values_from plan (x ∷ xs) (env ++ vs) ys ≡ values_from plan xs (env ++ (vs ++ (v ∷ []))) ys
  unfolding values_from
  step x xs env vs v ys t e = rw (t, e, append_assoc env vs (v ∷ []))

  at_new : (env vs : List ℕ) (i g : ℕ) → g ≡ length env + i → get_or (env ++ vs) g 0 ≡ get_or vs i 0
  at_new env vs i g e = rw e (get_or-append-add env vs i 0)

  module _ (env : List ℕ) (a b x y : ℕ) (la : a < length env) (lb : b < length env) (ea : get_or env a 0 ≡ x) (eb : get_or env b 0 ≡ y) where
    two : (vs : List ℕ) → (get_or (env ++ vs) a 0 ≡ x) × (get_or (env ++ vs) b 0 ≡ y)
    two vs = (get_or-append env vs 0 a la ∙ ea, get_or-append env vs 0 b lb ∙ eb)

    xor-values : (xs : List Gate) (ys : List ℕ)
        → values_from plan (Multiply a b ∷ Scale (length env) (p - 2) ∷ Add a b ∷ Add (length env + 2) (length env + 1) ∷ xs) (env ++ []) ys
        ≡ values_from plan xs (env ++ (mul p x y ∷ mul p (mul p x y) (p - 2) ∷ add p x y ∷ add p (add p x y) (mul p (mul p x y) (p - 2)) ∷ [])) ys
    unfolding inputs_taken input_owners_at gate_value
    xor-values xs ys =
        step (Multiply a b) (Scale (length env) (p - 2) ∷ Add a b ∷ Add (length env + 2) (length env + 1) ∷ xs) env [] (mul p x y) ys refl
        (ap₂ (mul p) (two []).0 (two []).1)
        ∙ step (Scale (length env) (p - 2)) (Add a b ∷ Add (length env + 2) (length env + 1) ∷ xs) env (mul p x y ∷ []) (mul p (mul p x y) (p - 2)) ys refl
        (ap (λ (k : ℕ). mul p k (p - 2)) (at_new env (mul p x y ∷ []) 0 (length env) (omega arith)))
        ∙ step (Add a b) (Add (length env + 2) (length env + 1) ∷ xs) env (mul p x y ∷ mul p (mul p x y) (p - 2) ∷ []) (add p x y) ys refl
        (ap₂ (add p) (two (mul p x y ∷ mul p (mul p x y) (p - 2) ∷ [])).0 (two (mul p x y ∷ mul p (mul p x y) (p - 2) ∷ [])).1)
        ∙ step (Add (length env + 2) (length env + 1)) xs env (mul p x y ∷ mul p (mul p x y) (p - 2) ∷ add p x y ∷ []) (add p (add p x y) (mul p (mul p x y) (p - 2))) ys refl
        (ap₂ (add p) (at_new env (mul p x y ∷ mul p (mul p x y) (p - 2) ∷ add p x y ∷ []) 2 (length env + 2) refl) (at_new env (mul p x y ∷ mul p (mul p x y) (p - 2) ∷ add p x y ∷ []) 1 (length env + 1) refl))

    and-values : (xs : List Gate) (ys : List ℕ) → values_from plan (Multiply a b ∷ xs) (env ++ []) ys ≡ values_from plan xs (env ++ (mul p x y ∷ [])) ys
    unfolding inputs_taken input_owners_at gate_value
    and-values xs ys = step (Multiply a b) xs env [] (mul p x y) ys refl (ap₂ (mul p) (two []).0 (two []).1)

  inv-values : (env : List ℕ) (a x : ℕ) → a < length env → get_or env a 0 ≡ x → (xs : List Gate) (ys : List ℕ)
      → values_from plan (Scale a (p - 1) ∷ Offset (length env) 1 ∷ xs) (env ++ []) ys ≡ values_from plan xs (env ++ (mul p x (p - 1) ∷ add p (mul p x (p - 1)) 1 ∷ [])) ys
  unfolding inputs_taken input_owners_at gate_value
  inv-values env a x la ea xs ys =
      step (Scale a (p - 1)) (Offset (length env) 1 ∷ xs) env [] (mul p x (p - 1)) ys refl (ap (λ (k : ℕ). mul p k (p - 1)) (get_or-append env [] 0 a la ∙ ea))
      ∙ step (Offset (length env) 1) xs env (mul p x (p - 1) ∷ []) (add p (mul p x (p - 1)) 1) ys refl (ap (λ (k : ℕ). add p k 1) (at_new env (mul p x (p - 1) ∷ []) 0 (length env) (omega arith)))

  -- ---- a circuit's gate
  record Stepped (marks held bits env : List ℕ) (x : LogicGate) : Type 0 where
    new : List ℕ
    long : length (env ++ new) ≡ length env + gate_size x
    values : (xs : List Gate) (ys : List ℕ) → values_from plan (made_by p (length env) held x ++ xs) env ys ≡ values_from plan xs (env ++ new) ys
    holds : Holding (marked marks x) (held_by (length env) held x) (bits_by bits x) (env ++ new)

  long-new : (env vs : List ℕ) (k : ℕ) → length vs ≡ k → length (env ++ vs) ≡ length env + k
  long-new env vs k e = length-append env vs ∙ ap (λ (m : ℕ). length env + m) e

  from-none : (xs : List Gate) (env ys : List ℕ) → values_from plan xs env ys ≡ values_from plan xs (env ++ []) ys
  from-none xs env ys = ap (λ (e : List ℕ). values_from plan xs e ys) (sym (append-nil env))

  step_right : (marks held bits env : List ℕ) (x : LogicGate) → Holding marks held bits env → gate_fits marks x ≡ true → Stepped marks held bits env x
  unfolding made_by xor_gates marked held_by bits_by set_by gate_size
  step_right marks held bits env (Xor a b c) k e =
      let r = reads_two marks a b c (unfold gate_fits in e) in
      let oa : Holds env bits a (get_or held a 0) = k.each a r.0 in
      let ob : Holds env bits b (get_or held b 0) = k.each b r.1 in
      let x : ℕ = get_or bits a 0 in
      let y : ℕ = get_or bits b 0 in
      let vs : List ℕ = mul p x y ∷ mul p (mul p x y) (p - 2) ∷ add p x y ∷ add p (add p x y) (mul p (mul p x y) (p - 2)) ∷ [] in
      let here : length env + 4 - 1 ≡ length env + 3 = omega arith in
      record {
        new = vs;
        long = long-new env vs 4 refl;
        values = λ xs ys. from-none _ env ys ∙ xor-values env (get_or held a 0) (get_or held b 0) x y oa.place ob.place oa.value ob.value xs ys;
        holds = held_more marks held bits env vs c (length env + 4 - 1) ((x + y) % 2) k (can-set marks c (fits-set marks (Xor a b c) e)).0
            (omega (arith, long-new env vs 4 refl))
            (at_new env vs 3 (length env + 4 - 1) here ∙ xor-value p some x y oa.bit ob.bit)
            (mod-lt (x + y) (omega arith));
      }
  step_right marks held bits env (And a b c) k e =
      let r = reads_two marks a b c (unfold gate_fits in e) in
      let oa : Holds env bits a (get_or held a 0) = k.each a r.0 in
      let ob : Holds env bits b (get_or held b 0) = k.each b r.1 in
      let x : ℕ = get_or bits a 0 in
      let y : ℕ = get_or bits b 0 in
      let here : length env + 1 - 1 ≡ length env + 0 = omega arith in
      record {
        new = mul p x y ∷ [];
        long = long-new env (mul p x y ∷ []) 1 refl;
        values = λ xs ys. from-none _ env ys ∙ and-values env (get_or held a 0) (get_or held b 0) x y oa.place ob.place oa.value ob.value xs ys;
        holds = held_more marks held bits env (mul p x y ∷ []) c (length env + 1 - 1) (x * y) k (can-set marks c (fits-set marks (And a b c) e)).0
            (omega (arith, long-new env (mul p x y ∷ []) 1 refl))
            (at_new env (mul p x y ∷ []) 0 (length env + 1 - 1) here ∙ and-value p some x y oa.bit ob.bit)
            (bit_and p some x y oa.bit ob.bit);
      }
  step_right marks held bits env (Inv a c) k e =
      let oa : Holds env bits a (get_or held a 0) = k.each a (reads-one marks a c (unfold gate_fits in e)) in
      let x : ℕ = get_or bits a 0 in
      let vs : List ℕ = mul p x (p - 1) ∷ add p (mul p x (p - 1)) 1 ∷ [] in
      let here : length env + 2 - 1 ≡ length env + 1 = omega arith in
      record {
        new = vs;
        long = long-new env vs 2 refl;
        values = λ xs ys. from-none _ env ys ∙ inv-values env (get_or held a 0) x oa.place oa.value xs ys;
        holds = held_more marks held bits env vs c (length env + 2 - 1) (1 - x) k (can-set marks c (fits-set marks (Inv a c) e)).0
            (omega (arith, long-new env vs 2 refl))
            (at_new env vs 1 (length env + 2 - 1) here ∙ inv-value p some x oa.bit)
            (omega arith);
      }

  record Ran (marks held bits env : List ℕ) (xs : List LogicGate) (ys : List ℕ) : Type 0 where
    end : List ℕ
    values : values_from plan (gates_from p (length env) held xs) env ys ≡ end
    holds : Holding (last_marks marks xs) (held_after (length env) held xs) (bits_after bits xs) end

  run-right : (marks held bits env : List ℕ) (xs : List LogicGate) (ys : List ℕ) → Holding marks held bits env → gates_fit marks xs ≡ true → Ran marks held bits env xs ys
  unfolding gates_from last_marks held_after bits_after gates_fit
  run-right marks held bits env [] ys k e = record { end = env; values = unfold values_from in refl; holds = k }
  run-right marks held bits env (x ∷ xs) ys k e =
      let t = both_true (gate_fits marks x) (gates_fit (marked marks x) xs) e in
      let s : Stepped marks held bits env x = step_right marks held bits env x k t.0 in
      let r : Ran (marked marks x) (held_by (length env) held x) (bits_by bits x) (env ++ s.new) xs ys =
      run-right (marked marks x) (held_by (length env) held x) (bits_by bits x) (env ++ s.new) xs ys s.holds t.1 in
      record {
        end = r.end;
        values = s.values (gates_from p (length env + gate_size x) (held_by (length env) held x) xs) ys
            ∙ ap (λ (g : ℕ). values_from plan (gates_from p g (held_by (length env) held x) xs) (env ++ s.new) ys) (sym s.long) ∙ r.values;
        holds = rw (← s.long) r.holds;
      }

  -- ---- the input gates
  party-values : (k w : ℕ) (xs ys env : List ℕ) (rest : List Gate) → length xs ≡ w → values_from plan (replicate w (Input k) ++ rest) env (xs ++ ys) ≡ values_from plan rest (env ++ xs) ys
  unfolding values_from gate_value inputs_taken input_owners_at
  party-values k zero [] ys env rest l = ap (λ (e : List ℕ). values_from plan rest e ys) (sym (append-nil env))
  party-values k zero (x ∷ xs) ys env rest l = absurd (omega (arith, l))
  party-values k (suc w) [] ys env rest l = absurd (omega (arith, l))
  party-values k (suc w) (x ∷ xs) ys env rest l =
      party-values k w xs ys (env ++ (x ∷ [])) rest (omega (arith, l)) ∙ ap (λ (e : List ℕ). values_from plan rest e ys) (append_assoc env (x ∷ []) xs)

  inputs-values : (k : ℕ) (ws xs ys env : List ℕ) (rest : List Gate) → length xs ≡ sum_of ws → values_from plan (input_gates k ws ++ rest) env (xs ++ ys) ≡ values_from plan rest (env ++ xs) ys
  unfolding input_gates sum_of
  inputs-values k [] [] ys env rest l = ap (λ (e : List ℕ). values_from plan rest e ys) (sym (append-nil env))
  inputs-values k [] (x ∷ xs) ys env rest l = absurd (omega (arith, l))
  inputs-values k (w ∷ ws) xs ys env rest l =
      let cut : take w xs ++ drop w xs ≡ xs = take-append-drop w xs in
      ap₂ (λ (gs : List Gate) (zs : List ℕ). values_from plan gs env zs) (append_assoc (replicate w (Input k)) (input_gates (suc k) ws) rest)
      (ap (λ (zs : List ℕ). zs ++ ys) (sym cut) ∙ append_assoc (take w xs) (drop w xs) ys)
      ∙ party-values k w (take w xs) (drop w xs ++ ys) env (input_gates (suc k) ws ++ rest) (length-take-le w xs (omega (arith, l)))
      ∙ inputs-values (suc k) ws (drop w xs) ys (env ++ take w xs) rest (length-drop w xs ∙ omega (arith, l))
      ∙ ap (λ (e : List ℕ). values_from plan rest e ys) (append_assoc env (take w xs) (drop w xs) ∙ ap (λ (zs : List ℕ). env ++ zs) cut)

  -- ---- the whole circuit
  module _ (n : ℕ) (c : Circuit) (ok : circuit_ok n c ≡ true) (xs : List ℕ) (long : length xs ≡ input_wires c) (bits : all_below 2 xs ≡ true) where
    first-bits : List ℕ
    first-bits = xs ++ replicate (c.wires - input_wires c) 0

    first-holding : Holding (input_marks c) (first_holders c) first-bits xs
    unfolding first-bits
    first-holding = record {
      long_held = first_long c;
      long-bits = length-append xs (replicate (c.wires - input_wires c) 0) ∙ omega (arith, length-replicate {A = ℕ} (c.wires - input_wires c) 0, length_inputs c, (kept n c ok).inputs);
      each = λ w e.
          let s = first-set c w e in
          let l : w < length xs = omega (arith, s.0) in
          let same : get_or first-bits w 0 ≡ get_or xs w 0 = unfold first-bits in get_or-append xs (replicate (c.wires - input_wires c) 0) 0 w l in
          rw (first-holder c w s.1) (record { place = l; value = sym same; bit = rw same (all_below_at 2 xs w bits l) });
    }

    ran : Ran (input_marks c) (first_holders c) first-bits xs c.gates []
    ran = run-right (input_marks c) (first_holders c) first-bits xs c.gates [] first-holding (kept n c ok).fit

    all-values : values_from plan (circuit_gates p c) [] xs ≡ ran.end
    unfolding circuit_gates
    all-values =
        ap (λ (zs : List ℕ). values_from plan (circuit_gates p c) [] zs) (sym (append-nil xs))
        ∙ (unfold circuit_gates in inputs-values 1 c.inputs xs [] [] (gates_from p (input_wires c) (first_holders c) c.gates) long)
        ∙ ap (λ (g : ℕ). values_from plan (gates_from p g (first_holders c) c.gates) xs []) (sym long)
        ∙ ran.values

    abbrev held : List ℕ
    held = held_after (input_wires c) (first_holders c) c.gates

    last-bits : List ℕ
    last-bits = bits_after first-bits c.gates

    -- at every wire the plan's value is the circuit's bit
    wire-right : (w : ℕ) → w < c.wires → get_or ran.end (get_or held w 0) 0 ≡ get_or last-bits w 0
    unfolding last-bits
    wire-right w l = ap (λ (g : ℕ). get_or ran.end (get_or (held_after g (first_holders c) c.gates) w 0) 0) (sym long) ∙ (ran.holds.each w (last_set n p c ok w l)).value

    last-long : length last-bits ≡ c.wires
    unfolding last-bits
    last-long = ran.holds.long-bits ∙ length_last (input_marks c) c.gates ∙ length_inputs c

    bits-tab : circuit_bits c xs ≡ tab (λ i. get_or last-bits (c.wires - output_wires c + i) 0) (output_wires c)
    unfolding circuit_bits last-bits first-bits
    bits-tab =
        let e : length last-bits - (c.wires - output_wires c) ≡ output_wires c = omega (arith, last-long, (kept n c ok).outputs) in
        ap (drop (c.wires - output_wires c)) (list-tab last-bits 0)
        ∙ drop-tab (λ i. get_or last-bits i 0) (length last-bits) (c.wires - output_wires c)
        ∙ ap (tab (λ i. get_or last-bits (c.wires - output_wires c + i) 0)) e

out_wires_lem : (f : ℕ → ℕ) (k : ℕ) → out_wires_of 1 (tab (λ i. record { party = 1; wire = f i }) k) ≡ tab f k
unfolding out_wires_of tab
out_wires_lem f zero = refl
out_wires_lem f (suc k) = ap (λ (l : List ℕ). f 0 ∷ l) (out_wires_lem (λ i. f (suc i)) k)

-- what the plan grants to party 1 is the circuit's output bits
module _ (p : ℕ) (some : 2 ≤ p) (n : ℕ) (c : Circuit) (ok : circuit_ok n c ≡ true) (xs : List ℕ) (long : length xs ≡ input_wires c) (bits : all_below 2 xs ≡ true) (t : ℕ) where
  abbrev made : Plan
  made = plan_with n t p (circuit_bodies p c)

  pub made-right : granted made xs 1 ≡ circuit_bits c xs
  unfolding granted out_wires values plan_with circuit_bodies circuit_outs outs_of
  made-right =
      let held : List ℕ = held_after (input_wires c) (first_holders c) c.gates in
      let end : List ℕ = (ran made some n c ok xs long bits).end in
      ap₂ (λ (v ws : List ℕ). map (λ w. get_or v w 0) ws) (all-values made some n c ok xs long bits)
      (out_wires_lem (λ i. get_or held (c.wires - output_wires c + i) 0) (output_wires c))
      ∙ tab-map (λ w. get_or end w 0) (λ i. get_or held (c.wires - output_wires c + i) 0) (output_wires c)
      ∙ tab-ext _ _ (output_wires c) (λ i l. wire-right made some n c ok xs long bits (c.wires - output_wires c + i) (omega (arith, (kept n c ok).outputs)))
      ∙ sym (bits-tab made some n c ok xs long bits)
