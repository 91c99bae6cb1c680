-- Marks counted: all wires are set just where there are as many as inputs and gates; so a plan has a gate for each wire.
--     length_last, all_set        the marks after all gates
--     length_from, length_made    how many gates a circuit makes
--     few_wires                   no more wires than gates of the plan
-- Assumes nothing.
use Prim.Native.Nat.{ℕ, zero, suc, ◌+◌, ◌-◌, ◌<◌, ◌≤◌}
use mathlib.Core.Path.{◌≡◌, refl, sym, ap, ◌∙◌}
use mathlib.Core.Bool.{Bool, true, false, cond, ◌&&◌}
use mathlib.Core.List.{List, [], ◌∷◌}
use native.Mathlib.Omega.{arith}
use borrow.Author.Tests.{eqb-true, eq-eqb, ne_eqb, eqb-false, ltb-true, lt-ltb, le-ltb, leb-true}
use lib.Dec.{eqb, leb, ltb}
use lib.ListN.{length, get_or, set, replicate, length-append, length-set, length-replicate}
use Rattle.numbers.specs.Tables.{tab, count_where}
use Rattle.numbers.proofs.Tables.{length-tab, tab-append}
use Rattle.numbers.proofs.Counts.{count_where-append, count_where-le-length}
use Rattle.numbers.proofs.Truth.{both_true}
use Rattle.plan.specs.declared.Gate.TheVariants.{Input}
use Rattle.import_lines.specs.Lines.{every}
use Rattle.import_lines.specs.Places.{sum_of}
use Rattle.import_text.specs.declared.LogicGate.{LogicGate}
use Rattle.import_text.specs.declared.LogicGate.TheVariants.{Xor, And, Inv}
use Rattle.import_text.specs.Circuits.{Circuit}
use Rattle.import_circuit.specs.Wires.{input_wires, output_wires, input_marks, is_set, can_set, gate_fits, set_by, marked, gates_fit, last_marks, circuit_ok}
use Rattle.import_circuit.specs.Making.{input_gates, first_holders, gate_size, size_of, xor_gates, made_by, held_by, gates_from, circuit_gates}

-- ---- marks
abbrev set_count : List ℕ → ℕ
set_count marks = count_where (eqb 1) marks

module _ (marks : List ℕ) where
  pub can-set : (w : ℕ) → can_set marks w ≡ true → (w < length marks) × (get_or marks w 0 ≡ 0)
  unfolding can_set
  can-set w e = let t = both_true (ltb w (length marks)) (eqb (get_or marks w 0) 0) e in (ltb-true w (length marks) t.0, eqb-true (get_or marks w 0) 0 t.1)

  -- what a gate that fits says
  pub fits-set : (g : LogicGate) → gate_fits marks g ≡ true → can_set marks (set_by g) ≡ true
  unfolding gate_fits set_by
  fits-set (Xor a b c) e = (both_true (is_set marks b) (can_set marks c) (both_true (is_set marks a) (is_set marks b && can_set marks c) e).1).1
  fits-set (And a b c) e = (both_true (is_set marks b) (can_set marks c) (both_true (is_set marks a) (is_set marks b && can_set marks c) e).1).1
  fits-set (Inv a c) e = (both_true (is_set marks a) (can_set marks c) e).1

count-one : (marks : List ℕ) (w : ℕ) → w < length marks → get_or marks w 0 ≡ 0 → set_count (set marks w 1) ≡ suc (set_count marks)
unfolding count_where
count-one [] w l e = absurd (omega arith)
count-one (m ∷ ms) zero l e = rw e
count-one (m ∷ ms) (suc w) l e = by (eqb 1 m) (count-one ms w (omega arith) e)
  where
    by : (t : Bool) → set_count (set ms w 1) ≡ suc (set_count ms)
        → cond t (suc (set_count (set ms w 1))) (set_count (set ms w 1)) ≡ suc (cond t (suc (set_count ms)) (set_count ms))
    by true h = ap suc h
    by false h = h

pub length_last : (marks : List ℕ) (gs : List LogicGate) → length (last_marks marks gs) ≡ length marks
unfolding last_marks marked
length_last marks [] = refl
length_last marks (g ∷ gs) = length_last (set marks (set_by g) 1) gs ∙ length-set marks (set_by g) 1

count_last : (marks : List ℕ) (gs : List LogicGate) → gates_fit marks gs ≡ true → set_count (last_marks marks gs) ≡ set_count marks + length gs
unfolding gates_fit last_marks
count_last marks [] e = omega arith
count_last marks (g ∷ gs) e =
    let t = both_true (gate_fits marks g) (gates_fit (marked marks g) gs) e in
    let k = can-set marks (set_by g) (fits-set marks g t.0) in
    let one : set_count (marked marks g) ≡ suc (set_count marks) = unfold marked in count-one marks (set_by g) k.0 k.1 in
    omega (arith, count_last (marked marks g) gs t.1, one)

every_count : (marks : List ℕ) → every (eqb 1) marks ≡ eqb (set_count marks) (length marks)
unfolding every count_where
every_count [] = refl
every_count (m ∷ ms) = by (eqb 1 m) (every_count ms)
  where
    by : (t : Bool) → every (eqb 1) ms ≡ eqb (set_count ms) (length ms)
        → (t && every (eqb 1) ms) ≡ eqb (cond t (suc (set_count ms)) (set_count ms)) (suc (length ms))
    by false h = sym (ne_eqb (set_count ms) (suc (length ms)) (λ e. omega (arith, e, count_where-le-length (eqb 1) ms)))
    by true h = h ∙ same (eqb (set_count ms) (length ms)) refl
      where
        same : (t : Bool) → eqb (set_count ms) (length ms) ≡ t → t ≡ eqb (suc (set_count ms)) (suc (length ms))
        same true e = sym (eq-eqb (suc (set_count ms)) (suc (length ms)) (ap suc (eqb-true (set_count ms) (length ms) e)))
        same false e = sym (ne_eqb (suc (set_count ms)) (suc (length ms)) (λ q. eqb-false (set_count ms) (length ms) e (omega (arith, q))))

count_ones : (f : ℕ → ℕ) (k : ℕ) → ((i : ℕ) → i < k → f i ≡ 1) → set_count (tab f k) ≡ k
unfolding tab count_where
count_ones f zero h = refl
count_ones f (suc k) h = rw (h 0 (omega arith), count_ones (λ i. f (suc i)) k (λ i l. h (suc i) (omega arith)))

count_none : (f : ℕ → ℕ) (k : ℕ) → ((i : ℕ) → i < k → f i ≡ 0) → set_count (tab f k) ≡ 0
unfolding tab count_where
count_none f zero h = refl
count_none f (suc k) h = rw (h 0 (omega arith)) (count_none (λ i. f (suc i)) k (λ i l. h (suc i) (omega arith)))

pub length_inputs : (c : Circuit) → length (input_marks c) ≡ c.wires
unfolding input_marks
length_inputs c = length-tab (λ w. cond (ltb w (input_wires c)) 1 0) c.wires

abbrev mark : Circuit → ℕ → ℕ
mark c w = cond (ltb w (input_wires c)) 1 0

count_inputs : (c : Circuit) → input_wires c ≤ c.wires → set_count (input_marks c) ≡ input_wires c
unfolding input_marks
count_inputs c l =
    let e : c.wires ≡ input_wires c + (c.wires - input_wires c) = omega arith in
    ap (λ (n : ℕ). set_count (tab (mark c) n)) e
    ∙ ap set_count (tab-append (mark c) (input_wires c) (c.wires - input_wires c))
    ∙ count_where-append (eqb 1) (tab (mark c) (input_wires c)) (tab (λ k. mark c (input_wires c + k)) (c.wires - input_wires c))
    ∙ rw (
      count_ones (mark c) (input_wires c) (λ w k. rw (lt-ltb w (input_wires c) k)),
      count_none (λ k. mark c (input_wires c + k)) (c.wires - input_wires c) (λ k m. rw (le-ltb (input_wires c + k) (input_wires c) (omega arith))),
    )
    (omega arith)

pub all_set : (c : Circuit) → input_wires c ≤ c.wires → gates_fit (input_marks c) c.gates ≡ true
    → every (eqb 1) (last_marks (input_marks c) c.gates) ≡ eqb (input_wires c + length c.gates) c.wires
all_set c l e =
    every_count (last_marks (input_marks c) c.gates)
    ∙ rw (count_last (input_marks c) c.gates e, count_inputs c l, length_last (input_marks c) c.gates, length_inputs c)

-- ---- how many gates a circuit makes
pub length-made_by : (p g : ℕ) (held : List ℕ) (x : LogicGate) → length (made_by p g held x) ≡ gate_size x
unfolding made_by xor_gates gate_size
length-made_by p g held (Xor a b c) = refl
length-made_by p g held (And a b c) = refl
length-made_by p g held (Inv a c) = refl

pub length_from : (p g : ℕ) (held : List ℕ) (xs : List LogicGate) → length (gates_from p g held xs) ≡ size_of xs
unfolding gates_from size_of
length_from p g held [] = refl
length_from p g held (x ∷ xs) =
    length-append (made_by p g held x) (gates_from p (g + gate_size x) (held_by g held x) xs)
    ∙ rw (length-made_by p g held x, length_from p (g + gate_size x) (held_by g held x) xs)

pub length-input_gates : (k : ℕ) (ws : List ℕ) → length (input_gates k ws) ≡ sum_of ws
unfolding input_gates sum_of
length-input_gates k [] = refl
length-input_gates k (w ∷ ws) =
    length-append (replicate w (Input k)) (input_gates (suc k) ws) ∙ rw (length-replicate w (Input k), length-input_gates (suc k) ws)

pub length_made : (p : ℕ) (c : Circuit) → length (circuit_gates p c) ≡ input_wires c + size_of c.gates
unfolding circuit_gates
length_made p c =
    length-append (input_gates 1 c.inputs) (gates_from p (input_wires c) (first_holders c) c.gates)
    ∙ rw (length-input_gates 1 c.inputs, length_from p (input_wires c) (first_holders c) c.gates)

size_least : (xs : List LogicGate) → length xs ≤ size_of xs
unfolding size_of
size_least [] = omega arith
size_least (x ∷ xs) = omega (arith, size_least xs, one x)
  where
    one : (x : LogicGate) → 1 ≤ gate_size x
    one (Xor a b c) = unfold gate_size in omega arith
    one (And a b c) = unfold gate_size in omega arith
    one (Inv a c) = unfold gate_size in omega arith

-- the rules of a circuit that keeps them
pub record Kept (n : ℕ) (c : Circuit) : Type 0 where
  pub values : length c.inputs ≤ n
  pub inputs : input_wires c ≤ c.wires
  pub outputs : output_wires c ≤ c.wires
  pub fit : gates_fit (input_marks c) c.gates ≡ true
  pub all : every (eqb 1) (last_marks (input_marks c) c.gates) ≡ true

pub kept : (n : ℕ) (c : Circuit) → circuit_ok n c ≡ true → Kept n c
unfolding circuit_ok
kept n c e =
    let a = both_true (leb (length c.inputs) n) _ e in
    let b = both_true (leb (input_wires c) c.wires) _ a.1 in
    let d = both_true (leb (output_wires c) c.wires) _ b.1 in
    let f = both_true (gates_fit (input_marks c) c.gates) (every (eqb 1) (last_marks (input_marks c) c.gates)) d.1 in
    record {
      values = leb-true (length c.inputs) n a.0;
      inputs = leb-true (input_wires c) c.wires b.0;
      outputs = leb-true (output_wires c) c.wires d.0;
      fit = f.0;
      all = f.1;
    }

pub few_wires : (n p : ℕ) (c : Circuit) → circuit_ok n c ≡ true → c.wires ≤ length (circuit_gates p c)
few_wires n p c e =
    let k = kept n c e in
    omega (arith, eqb-true (input_wires c + length c.gates) c.wires (sym (all_set c k.inputs k.fit) ∙ k.all), length_made p c, size_least c.gates)
