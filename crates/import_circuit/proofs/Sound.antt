-- The gates and outs that a circuit makes keep the rules of a plan.
--     kept-after      what holds of each set wire, after one more is set
--     made-sound      refusals 7 and 8 fall on no gate and no out
-- Assumes nothing.
use Prim.Native.Nat.{ℕ, zero, suc, ◌+◌, ◌-◌, ◌<◌, ◌≤◌}
use mathlib.Core.Path.{◌≡◌, refl, sym, ap, ◌∙◌}
use mathlib.Core.Bool.{Bool, true, false, cond, ◌&&◌}
use mathlib.Core.List.{List, [], ◌∷◌, ◌++◌}
use native.Mathlib.Omega.{arith}
use borrow.Author.Tests.{eqb-true, eqb-false, ltb-true, ltb-false, lt-ltb, leb-true, le-leb}
use lib.Dec.{eqb, leb, ltb}
use lib.ListN.{length, get_or, set, replicate, length-set}
use lib.Seq.{get_or-set_same, get_or-set_other}
use Rattle.numbers.proofs.Tables.{length-tab, get_or-tab, get_or-tab-past}
use Rattle.numbers.proofs.Truth.{both_true}
use Rattle.plan.specs.declared.Gate.{Gate}
use Rattle.plan.specs.declared.Gate.TheVariants.{Input}
use Rattle.plan.specs.Plans.{kind_of}
use Rattle.plan.specs.File.{between, gate_ok, out_ok}
use Rattle.plan_file.proofs.Files.{Sound}
use Rattle.import_lines.specs.Lines.{every}
use Rattle.import_text.specs.declared.LogicGate.{LogicGate}
use Rattle.import_text.specs.declared.LogicGate.TheVariants.{Xor, And, Inv}
use Rattle.import_text.specs.Circuits.{Circuit}
use Rattle.import_circuit.specs.Wires.{input_wires, output_wires, input_marks, is_set, can_set, gate_fits, set_by, marked, gates_fit, last_marks, circuit_ok}
use Rattle.import_circuit.specs.Making.{input_gates, first_holders, gate_size, size_of, xor_gates, made_by, held_by, gates_from, held_after, circuit_gates, outs_of, circuit_outs, circuit_bodies}
use Rattle.import_circuit.proofs.Wires.{can-set, fits-set, length_last, length_inputs, length-made_by, length-input_gates, length_made, Kept, kept}

-- ---- set wires
-- of each set wire and what holds it: also after wire c is set, and held at v
pub kept-after : (P : ℕ → ℕ → Type 0) (marks held : List ℕ) (c v : ℕ) → c < length held → P c v
    → ((w : ℕ) → (w ≡ c → ⊥) → get_or marks w 0 ≡ 1 → P w (get_or held w 0))
    → (w : ℕ) → get_or (set marks c 1) w 0 ≡ 1 → P w (get_or (set held c v) w 0)
kept-after P marks held c v l new old w e = by (eqb w c) refl
  where
    by : (t : Bool) → eqb w c ≡ t → P w (get_or (set held c v) w 0)
    by true q = rw (eqb-true w c q, get_or-set_same held c v 0 l) new
    by false q =
        rw (get_or-set_other held c w v 0 (eqb-false w c q))
        (old w (eqb-false w c q) (sym (get_or-set_other marks c w 1 0 (eqb-false w c q)) ∙ e))

pub set_is : (marks : List ℕ) (w : ℕ) → is_set marks w ≡ true → get_or marks w 0 ≡ 1
unfolding is_set
set_is marks w e = eqb-true (get_or marks w 0) 1 e

-- what a gate that fits reads
pub reads_two : (marks : List ℕ) (a b c : ℕ) → (is_set marks a && (is_set marks b && can_set marks c)) ≡ true → (get_or marks a 0 ≡ 1) × (get_or marks b 0 ≡ 1)
reads_two marks a b c e =
    let t = both_true (is_set marks a) (is_set marks b && can_set marks c) e in
    (set_is marks a t.0, set_is marks b (both_true (is_set marks b) (can_set marks c) t.1).0)

pub reads-one : (marks : List ℕ) (a c : ℕ) → (is_set marks a && can_set marks c) ≡ true → get_or marks a 0 ≡ 1
reads-one marks a c e = set_is marks a (both_true (is_set marks a) (can_set marks c) e).0

pub size-some : (x : LogicGate) → 1 ≤ gate_size x
unfolding gate_size
size-some (Xor a b c) = omega arith
size-some (And a b c) = omega arith
size-some (Inv a c) = omega arith

-- ---- gates in a row
module _ (n p : ℕ) where
  -- gate g has a kind of version 1 and keeps its rule
  made_ok : ℕ → Gate → Bool
  made_ok g x = leb (kind_of x) 5 && gate_ok n p g x

  ok_from : ℕ → List Gate → Bool
  ok_from g [] = true
  ok_from g (x ∷ xs) = made_ok g x && ok_from (suc g) xs

  ok-append : (g : ℕ) (xs ys : List Gate) → ok_from g xs ≡ true → ok_from (g + length xs) ys ≡ true → ok_from g (xs ++ ys) ≡ true
  unfolding ok_from
  ok-append g [] ys e f = let z : g + 0 ≡ g = omega arith in rw z at f
  ok-append g (x ∷ xs) ys e f =
      let t = both_true (made_ok g x) (ok_from (suc g) xs) e in
      let z : g + suc (length xs) ≡ suc g + length xs = omega arith in
      rw t.0 (ok-append (suc g) xs ys t.1 (rw z at f))

  ok_at : (g : ℕ) (xs : List Gate) (i : ℕ) → ok_from g xs ≡ true → i < length xs → made_ok (g + i) (get_or xs i (Input 0)) ≡ true
  unfolding ok_from
  ok_at g [] i e l = absurd (omega arith)
  ok_at g (x ∷ xs) zero e l = let z : g + 0 ≡ g = omega arith in rw z (both_true (made_ok g x) (ok_from (suc g) xs) e).0
  ok_at g (x ∷ xs) (suc i) e l =
      let z : g + suc i ≡ suc g + i = omega arith in
      rw z (ok_at (suc g) xs i (both_true (made_ok g x) (ok_from (suc g) xs) e).1 (omega arith))

  -- input gates
  party-ok : (g k w : ℕ) → 1 ≤ k → k ≤ n → ok_from g (replicate w (Input k)) ≡ true
  unfolding ok_from made_ok kind_of gate_ok between
  party-ok g k zero l m = refl
  party-ok g k (suc w) l m = rw (le-leb 1 k l, le-leb k n m) (party-ok (suc g) k w l m)

  inputs-ok : (g k : ℕ) (ws : List ℕ) → 1 ≤ k → k + length ws ≤ suc n → ok_from g (input_gates k ws) ≡ true
  unfolding input_gates
  inputs-ok g k [] l m = unfold ok_from in refl
  inputs-ok g k (w ∷ ws) l m =
      ok-append g (replicate w (Input k)) (input_gates (suc k) ws) (party-ok g k w l (omega arith))
      (inputs-ok (g + length (replicate w (Input k))) (suc k) ws (omega arith) (omega arith))

  -- a gate of the circuit; p is at least 2
  module _ (p-some : 2 ≤ p) where
    abbrev Held : List ℕ → List ℕ → ℕ → Type 0
    Held marks held g = (w : ℕ) → get_or marks w 0 ≡ 1 → get_or held w 0 < g

    made_ok_lem : (marks held : List ℕ) (g : ℕ) (x : LogicGate) → Held marks held g → gate_fits marks x ≡ true → ok_from g (made_by p g held x) ≡ true
    unfolding ok_from made_ok kind_of gate_ok made_by xor_gates gate_fits
    made_ok_lem marks held g (Xor a b c) h e =
        let r = reads_two marks a b c e in
        let ha : get_or held a 0 < g = h a r.0 in
        let hb : get_or held b 0 < g = h b r.1 in
        rw (
          lt-ltb (get_or held a 0) g ha,
          lt-ltb (get_or held b 0) g hb,
          lt-ltb g (suc g) (omega arith),
          lt-ltb (p - 2) p (omega arith),
          lt-ltb (get_or held a 0) (suc (suc g)) (omega arith),
          lt-ltb (get_or held b 0) (suc (suc g)) (omega arith),
          lt-ltb (g + 2) (suc (suc (suc g))) (omega arith),
          lt-ltb (g + 1) (suc (suc (suc g))) (omega arith),
        )
    made_ok_lem marks held g (And a b c) h e =
        let r = reads_two marks a b c e in
        rw (lt-ltb (get_or held a 0) g (h a r.0), lt-ltb (get_or held b 0) g (h b r.1))
    made_ok_lem marks held g (Inv a c) h e =
        rw (lt-ltb (get_or held a 0) g (h a (reads-one marks a c e)), lt-ltb (p - 1) p (omega arith), lt-ltb g (suc g) (omega arith), lt-ltb 1 p (omega arith))

    held_next : (marks held : List ℕ) (g : ℕ) (x : LogicGate) → length held ≡ length marks → Held marks held g → gate_fits marks x ≡ true
        → Held (marked marks x) (held_by g held x) (g + gate_size x)
    unfolding marked held_by
    held_next marks held g x long h e =
        let k = can-set marks (set_by x) (fits-set marks x e) in
        kept-after (λ w v. v < g + gate_size x) marks held (set_by x) (g + gate_size x - 1) (omega (arith, k.0)) (omega (arith, size-some x)) (λ w n q. omega (arith, h w q))

    from-ok : (marks held : List ℕ) (g : ℕ) (xs : List LogicGate) → length held ≡ length marks → Held marks held g → gates_fit marks xs ≡ true
        → (ok_from g (gates_from p g held xs) ≡ true) × Held (last_marks marks xs) (held_after g held xs) (g + size_of xs)
    unfolding gates_from gates_fit last_marks held_after size_of
    from-ok marks held g [] long h e = (unfold ok_from in refl, λ w q. omega (arith, h w q))
    from-ok marks held g (x ∷ xs) long h e =
        let t = both_true (gate_fits marks x) (gates_fit (marked marks x) xs) e in
        let long' : length (held_by g held x) ≡ length (marked marks x) = unfold marked in unfold held_by in (length-set held (set_by x) (g + gate_size x - 1) ∙ long ∙ sym (length-set marks (set_by x) 1)) in
        let r = from-ok (marked marks x) (held_by g held x) (g + gate_size x) xs long' (held_next marks held g x long h t.0) t.1 in
        let z : g + length (made_by p g held x) ≡ g + gate_size x = ap (λ (k : ℕ). g + k) (length-made_by p g held x) in (
          ok-append g (made_by p g held x) (gates_from p (g + gate_size x) (held_by g held x) xs) (made_ok_lem marks held g x h t.0) (rw z r.0),
          λ w q. omega (arith, r.1 w q),
        )

-- ---- the wires at first, and in the end
module _ (c : Circuit) where
  pub first-set : (w : ℕ) → get_or (input_marks c) w 0 ≡ 1 → (w < input_wires c) × (w < c.wires)
  unfolding input_marks
  first-set w e = by (ltb w c.wires) refl
    where
      by : (t : Bool) → ltb w c.wires ≡ t → (w < input_wires c) × (w < c.wires)
      by false q = absurd (omega (arith, sym (get_or-tab-past (λ w. cond (ltb w (input_wires c)) 1 0) c.wires w 0 (ltb-false w c.wires q)) ∙ (unfold input_marks in e)))
      by true q = (input (ltb w (input_wires c)) refl (sym (get_or-tab (λ w. cond (ltb w (input_wires c)) 1 0) c.wires w 0 (ltb-true w c.wires q)) ∙ (unfold input_marks in e)), ltb-true w c.wires q)
        where
          input : (t : Bool) → ltb w (input_wires c) ≡ t → ◌≡◌ {A = ℕ} (cond t 1 0) 1 → w < input_wires c
          input true f g = ltb-true w (input_wires c) f
          input false f g = absurd (omega (arith, g))

  pub first-holder : (w : ℕ) → w < c.wires → get_or (first_holders c) w 0 ≡ w
  unfolding first_holders
  first-holder w l = get_or-tab (λ w. w) c.wires w 0 l

  pub first_long : length (first_holders c) ≡ length (input_marks c)
  unfolding first_holders
  first_long = length-tab (λ w. w) c.wires ∙ sym (length_inputs c)

pub every_at : (marks : List ℕ) (w : ℕ) → every (eqb 1) marks ≡ true → w < length marks → get_or marks w 0 ≡ 1
unfolding every
every_at [] w e l = absurd (omega arith)
every_at (m ∷ ms) zero e l = sym (eqb-true 1 m (both_true (eqb 1 m) (every (eqb 1) ms) e).0)
every_at (m ∷ ms) (suc w) e l = every_at ms w (both_true (eqb 1 m) (every (eqb 1) ms) e).1 (omega arith)

module _ (n p : ℕ) (c : Circuit) (ok : circuit_ok n c ≡ true) where
  its : Kept n c
  its = kept n c ok

  -- every wire is set in the end
  pub last_set : (w : ℕ) → w < c.wires → get_or (last_marks (input_marks c) c.gates) w 0 ≡ 1
  last_set w l = every_at (last_marks (input_marks c) c.gates) w its.all (omega (arith, length_last (input_marks c) c.gates, length_inputs c))

  pub outs_long : length (circuit_outs c) ≡ output_wires c
  unfolding circuit_outs outs_of
  outs_long = length-tab (λ i. record { party = 1; wire = get_or (held_after (input_wires c) (first_holders c) c.gates) (c.wires - output_wires c + i) 0 }) (output_wires c)

  module _ (n-some : 1 ≤ n) (p-some : 2 ≤ p) where
    from : (ok_from n p (input_wires c) (gates_from p (input_wires c) (first_holders c) c.gates) ≡ true)
        × ((w : ℕ) → get_or (last_marks (input_marks c) c.gates) w 0 ≡ 1 → get_or (held_after (input_wires c) (first_holders c) c.gates) w 0 < input_wires c + size_of c.gates)
    from =
        from-ok n p p-some (input_marks c) (first_holders c) (input_wires c) c.gates (first_long c)
        (λ w e. let s = first-set c w e in omega (arith, s.0, first-holder c w s.1)) its.fit

    all-ok : ok_from n p 0 (circuit_gates p c) ≡ true
    unfolding circuit_gates
    all-ok =
        ok-append n p 0 (input_gates 1 c.inputs) (gates_from p (input_wires c) (first_holders c) c.gates)
        (inputs-ok n p 0 1 c.inputs (omega arith) (omega (arith, its.values)))
        (let z : 0 + length (input_gates 1 c.inputs) ≡ input_wires c = omega (arith, length-input_gates 1 c.inputs) in rw z from.0)

    out_at : (o : ℕ) → o < output_wires c
        → get_or (circuit_outs c) o (record { party = 0; wire = 0 }) ≡ record { party = 1; wire = get_or (held_after (input_wires c) (first_holders c) c.gates) (c.wires - output_wires c + o) 0 }
    unfolding circuit_outs outs_of
    out_at o l = get_or-tab (λ i. record { party = 1; wire = get_or (held_after (input_wires c) (first_holders c) c.gates) (c.wires - output_wires c + i) 0 }) (output_wires c) o (record { party = 0; wire = 0 }) l

    gate-made : (g : ℕ) → g < length (circuit_gates p c) → (leb (kind_of (get_or (circuit_gates p c) g (Input 0))) 5 ≡ true) × (gate_ok n p g (get_or (circuit_gates p c) g (Input 0)) ≡ true)
    unfolding made_ok
    gate-made g l =
        let z : 0 + g ≡ g = omega arith in
        both_true (leb (kind_of (get_or (circuit_gates p c) g (Input 0))) 5) (gate_ok n p g (get_or (circuit_gates p c) g (Input 0))) (rw z at (ok_at n p 0 (circuit_gates p c) g all-ok l))

    pub made-sound : Sound n p (circuit_bodies p c)
    unfolding circuit_bodies out_ok between
    made-sound = record {
      low = λ g l. leb-true (kind_of (get_or (circuit_gates p c) g (Input 0))) 5 (gate-made g l).0;
      gates = λ g l. (gate-made g l).1;
      outs = λ o l.
          let k : o < output_wires c = omega (arith, l, outs_long) in
          let w : ℕ = c.wires - output_wires c + o in
          let small : w < c.wires = omega (arith, its.outputs) in
          rw (out_at o k, le-leb 1 n n-some, lt-ltb (get_or (held_after (input_wires c) (first_holders c) c.gates) w 0) (length (circuit_gates p c)) (omega (arith, from.1 w (last_set w small), length_made p c)));
    }
