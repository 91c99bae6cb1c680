-- A tree worked through as the readers do it makes the names and the gates of the definition.
--     work_names, work_gates     the first pass: the table of names, and the count
--     work_emits                 the second pass: the gates, after those that the file has
-- Assumes nothing.
use Prim.Native.Nat.{ℕ, suc, ◌+◌, ◌-◌, ◌<◌, ◌≤◌}
use mathlib.Core.Path.{◌≡◌, refl, sym, ap, ◌∙◌}
use mathlib.Core.Bool.{Bool, true, false, cond}
use mathlib.Core.List.{List, [], ◌∷◌, ◌++◌}
use native.Mathlib.Omega.{arith}
use borrow.Author.Tests.{le-leb, lt-leb, leb-true, leb-false}
use lib.Dec.{leb}
use lib.ListN.{length, length-append}
use Rattle.plan.specs.declared.Gate.{Gate}
use Rattle.plan.specs.declared.Gate.TheVariants.{Add, Scale, Offset, Multiply}
use Rattle.plan_file.specs.Bodies.{written, gates_bytes, place_in, version_for}
use Rattle.plan_file.proofs.Rows.{gates_then, one_put}
use Rattle.sheet_text.specs.Trees.{Tree, name_index, names_from, Emitted, ending, emit_number, emit_plus, emit_times, emit_minus, right_after, emit, gate_count}
use Rattle.sheet_text.proofs.Formula.{Proper}
use Rattle.sheet_text.proofs.Sound.{emit_long}
use Rattle.sheet_read.specs.declared.Operator.{Operator}
use Rattle.sheet_read.specs.declared.Operator.TheVariants as operator
use Rattle.sheet_read.specs.Working.{capped_next, put_gate, number_out, join_out, join_wire, join_by, after_left, Work, work}
use Rattle.sheet_write.specs.Passes.{table_of, up_to}
use Rattle.sheet_write.proofs.Tables.{table_hold, table_place, with_same}

-- ---- the first pass
pub work_names : (p m : ℕ) (x : Tree) (ns out : List ℕ) (g : ℕ) → (work p x (table_of m ns) out g).names ≡ table_of m (names_from ns x)
unfolding work names_from after_left join_by
work_names p m (Tree.Number v) ns out g = refl
work_names p m (Tree.Name x) ns out g = table_hold m x ns
work_names p m (Tree.Plus l r) ns out g = rw (work_names p m l ns out g) (work_names p m r (names_from ns l) (work p l (table_of m ns) out g).out (work p l (table_of m ns) out g).gates)
work_names p m (Tree.Minus l r) ns out g = rw (work_names p m l ns out g) (work_names p m r (names_from ns l) (work p l (table_of m ns) out g).out (work p l (table_of m ns) out g).gates)
work_names p m (Tree.Times l r) ns out g = rw (work_names p m l ns out g) (work_names p m r (names_from ns l) (work p l (table_of m ns) out g).out (work p l (table_of m ns) out g).gates)

next_up : (k : ℕ) → capped_next (up_to k) ≡ up_to (k + 1)
unfolding capped_next up_to
next_up k = by (leb k 1025) refl
  where
    by : (t : Bool) → leb k 1025 ≡ t → cond (leb (cond t k 1025) 1024) (suc (cond t k 1025)) 1025 ≡ cond (leb (k + 1) 1025) (k + 1) 1025
    by true e = last (leb k 1024) refl
      where
        last : (u : Bool) → leb k 1024 ≡ u → cond (leb k 1024) (suc k) 1025 ≡ cond (leb (k + 1) 1025) (k + 1) 1025
        last true f = rw (f, le-leb (k + 1) 1025 (omega (arith, leb-true k 1024 f))) (omega arith)
        last false f = rw (f, lt-leb (k + 1) 1025 (omega (arith, leb-false k 1024 f)))
    by false e = rw (lt-leb (k + 1) 1025 (omega (arith, leb-false k 1025 e)))

plus_wire : (g : ℕ) → join_wire operator.Plus g ≡ g
unfolding join_wire
plus_wire g = refl

times_wire : (g : ℕ) → join_wire operator.Times g ≡ g
unfolding join_wire
times_wire g = refl

minus_wire : (g : ℕ) → join_wire operator.Minus g ≡ capped_next g
unfolding join_wire
minus_wire g = refl

pub work_gates : (p : ℕ) (x : Tree) (names out : List ℕ) (k : ℕ) → (work p x names out (up_to k)).gates ≡ up_to (k + gate_count x)
unfolding work gate_count after_left join_by
work_gates p (Tree.Number v) names out k = ap capped_next (next_up k) ∙ next_up (k + 1) ∙ ap up_to (omega arith)
work_gates p (Tree.Name x) names out k = ap up_to (omega arith)
work_gates p (Tree.Plus l r) names out k =
    let a = work p l names out (up_to k) in
    rw (plus_wire (work p r a.names a.out a.gates).gates, work_gates p l names out k)
    (ap capped_next (work_gates p r a.names a.out (k + gate_count l)) ∙ next_up (k + gate_count l + gate_count r) ∙ ap up_to (omega arith))
work_gates p (Tree.Times l r) names out k =
    let a = work p l names out (up_to k) in
    rw (times_wire (work p r a.names a.out a.gates).gates, work_gates p l names out k)
    (ap capped_next (work_gates p r a.names a.out (k + gate_count l)) ∙ next_up (k + gate_count l + gate_count r) ∙ ap up_to (omega arith))
work_gates p (Tree.Minus l r) names out k =
    let a = work p l names out (up_to k) in
    rw (minus_wire (work p r a.names a.out a.gates).gates, work_gates p l names out k)
    (ap (λ (g : ℕ). capped_next (capped_next g)) (work_gates p r a.names a.out (k + gate_count l)) ∙ ap capped_next (next_up (k + gate_count l + gate_count r)) ∙ next_up (k + gate_count l + gate_count r + 1) ∙ ap up_to (omega arith))

-- ---- the second pass
-- a file for the prime p, with these gates
unfoldable pub filed : ℕ → List ℕ → List Gate → List ℕ
filed p o gs = written o (place_in (version_for p) 0) (gates_bytes (version_for p) gs)

one_long : (gs : List Gate) (g : Gate) → length (gs ++ (g ∷ [])) ≡ suc (length gs)
one_long gs g = length-append gs (g ∷ []) ∙ omega arith

file_one : (p : ℕ) (o : List ℕ) (gs : List Gate) (x : Gate) → put_gate p (filed p o gs) (length gs) x ≡ filed p o (gs ++ (x ∷ []))
unfolding put_gate filed
file_one p o gs x =
    gates_then (version_for p) o (written o (place_in (version_for p) 0) (gates_bytes (version_for p) gs)) _ 0 (length gs) gs (x ∷ []) refl
    (one_put (version_for p) (written o (place_in (version_for p) 0) (gates_bytes (version_for p) gs)) _ (length gs) x refl) (omega arith)

next_one : (gs : List Gate) (x : Gate) → length (gs ++ (x ∷ [])) ≤ 1025 → capped_next (length gs) ≡ length (gs ++ (x ∷ []))
unfolding capped_next
next_one gs x l = rw (le-leb (length gs) 1024 (omega (arith, one_long gs x))) (sym (one_long gs x))

-- the readers' work after emitting
unfoldable pub worked : ℕ → ℕ → List ℕ → List ℕ → Emitted → Work
worked p m ns o e = record { names = table_of m ns; out = filed p o e.gates; gates = length e.gates; wire = e.wire }

module _ (p m : ℕ) (ns o : List ℕ) (room : length ns ≤ m) where
  -- two sides joined by one gate
  join_plus : (l : ℕ) (r : Emitted) → length r.gates < 1025 → join_by operator.Plus p l (worked p m ns o r) ≡ worked p m ns o (ending r.gates (Add l r.wire))
  unfolding join_by join_out join_wire worked ending
  join_plus l r s = rw (file_one p o r.gates (Add l r.wire), next_one r.gates (Add l r.wire) (omega (arith, one_long r.gates (Add l r.wire))))

  join_times : (l : ℕ) (r : Emitted) → length r.gates < 1025 → join_by operator.Times p l (worked p m ns o r) ≡ worked p m ns o (ending r.gates (Multiply l r.wire))
  unfolding join_by join_out join_wire worked ending
  join_times l r s = rw (file_one p o r.gates (Multiply l r.wire), next_one r.gates (Multiply l r.wire) (omega (arith, one_long r.gates (Multiply l r.wire))))

  join_minus : (l : ℕ) (r : Emitted) → length r.gates < 1024
      → join_by operator.Minus p l (worked p m ns o r) ≡ worked p m ns o (ending (r.gates ++ (Scale r.wire (p - 1) ∷ [])) (Add l (length r.gates)))
  unfolding join_by join_out join_wire worked ending
  join_minus l r s =
      let neg : Gate = Scale r.wire (p - 1) in
      let k = one_long r.gates neg in
      let j = one_long (r.gates ++ (neg ∷ [])) (Add l (length r.gates)) in
      rw (next_one r.gates neg (omega (arith, k)), file_one p o r.gates neg, file_one p o (r.gates ++ (neg ∷ [])) (Add l (length r.gates)), next_one (r.gates ++ (neg ∷ [])) (Add l (length r.gates)) (omega (arith, k, j)))

  number_work : (v : ℕ) (gs : List Gate) → length gs < 1024 → work p (Tree.Number v) (table_of m ns) (filed p o gs) (length gs) ≡ worked p m ns o (emit_number gs v)
  unfolding work number_out worked emit_number ending
  number_work v gs s =
      let nought : Gate = Scale 0 0 in
      let k = one_long gs nought in
      let j = one_long (gs ++ (nought ∷ [])) (Offset (length gs) v) in
      rw (next_one gs nought (omega (arith, k)), file_one p o gs nought, file_one p o (gs ++ (nought ∷ [])) (Offset (length gs) v), next_one (gs ++ (nought ∷ [])) (Offset (length gs) v) (omega (arith, k, j)))

  name_work : (x : ℕ) (gs : List Gate) → name_index x ns < length ns → work p (Tree.Name x) (table_of m ns) (filed p o gs) (length gs) ≡ worked p m ns o (record { gates = gs; wire = name_index x ns })
  unfolding work worked
  name_work x gs h = rw (table_hold m x ns, with_same x ns h, table_place m x ns h room)

  -- two sides, each worked as it is emitted
  sides : (c : Operator) (l r : Tree) (gs : List Gate) → work p l (table_of m ns) (filed p o gs) (length gs) ≡ worked p m ns o (emit p ns l gs)
      → work p r (table_of m ns) (filed p o (emit p ns l gs).gates) (length (emit p ns l gs).gates) ≡ worked p m ns o (emit p ns r (emit p ns l gs).gates)
      → after_left (join_by c p) (λ k f h. work p r k f h) (work p l (table_of m ns) (filed p o gs) (length gs)) ≡ join_by c p (emit p ns l gs).wire (worked p m ns o (emit p ns r (emit p ns l gs).gates))
  unfolding after_left worked
  sides c l r gs a b = rw a (ap (join_by c p (emit p ns l gs).wire) b)

  pub work_emits : (x : Tree) (gs : List Gate) → Proper p ns x → length gs + gate_count x ≤ 1024 → work p x (table_of m ns) (filed p o gs) (length gs) ≡ worked p m ns o (emit p ns x gs)
  unfolding work emit right_after emit_plus emit_times emit_minus Proper gate_count
  work_emits (Tree.Number v) gs h s = number_work v gs (omega arith)
  work_emits (Tree.Name x) gs h s = name_work x gs h
  work_emits (Tree.Plus l r) gs h s =
      let a = emit_long p ns l gs in
      let b = emit_long p ns r (emit p ns l gs).gates in
      sides operator.Plus l r gs (work_emits l gs h.0 (omega arith)) (work_emits r (emit p ns l gs).gates h.1 (omega (arith, a)))
      ∙ join_plus (emit p ns l gs).wire (emit p ns r (emit p ns l gs).gates) (omega (arith, a, b))
  work_emits (Tree.Times l r) gs h s =
      let a = emit_long p ns l gs in
      let b = emit_long p ns r (emit p ns l gs).gates in
      sides operator.Times l r gs (work_emits l gs h.0 (omega arith)) (work_emits r (emit p ns l gs).gates h.1 (omega (arith, a)))
      ∙ join_times (emit p ns l gs).wire (emit p ns r (emit p ns l gs).gates) (omega (arith, a, b))
  work_emits (Tree.Minus l r) gs h s =
      let a = emit_long p ns l gs in
      let b = emit_long p ns r (emit p ns l gs).gates in
      sides operator.Minus l r gs (work_emits l gs h.0 (omega arith)) (work_emits r (emit p ns l gs).gates h.1 (omega (arith, a)))
      ∙ join_minus (emit p ns l gs).wire (emit p ns r (emit p ns l gs).gates) (omega (arith, a, b))
