-- What each way through the converter says of its definition.
--     converting     what closes the needs of the functions
-- Assumes nothing.
use Rattle.std.proofs.Common.{Ok, Err}
use Prim.Native.Nat.{ℕ, ◌+◌, ◌*◌, ◌<◌, ◌≤◌}
use mathlib.Core.Path.{◌≡◌, sym, ap, ◌∙◌}
use mathlib.Core.Bool.{true}
use mathlib.Core.List.{List, [], ◌∷◌, ◌++◌, flat_map}
use native.Mathlib.Omega.{arith}
use native.Mathlib.Numerals.{add-one}
use borrow.Author.Rules.{rules}
use borrow.Author.Tests.{ne_eqb, eq-eqb}
use lib.Dec.{eqb}
use lib.ListN.{length, get_or, take}
use lib.Seq.{take-suc, take_all, length-take-le}
use Rattle.numbers.specs.Bytes.{bytes_from}
use Rattle.numbers.proofs.Rows.{flat-length, flat-snoc}
use Rattle.numbers.proofs.Tables.{length-tab, get_or-tab}
use Rattle.plan.specs.declared.Gate.{Gate}
use Rattle.plan.specs.declared.Gate.TheVariants.{Input}
use Rattle.plan.specs.declared.Output.{Output}
use Rattle.plan.specs.declared.Header.{Header}
use Rattle.plan.specs.declared.Refusal.{Refusal}
use Rattle.plan.specs.declared.Refusal.TheVariants as refusal
use Rattle.plan.specs.Refusals.{and_then, first_of, need}
use Rattle.plan.specs.Plans.{party_count}
use Rattle.plan.specs.File.{layout_for, gate_at, out_at, point_at, out_ok, plan_of}
use Rattle.plan.specs.Planned.{Planned}
use Rattle.plan.proofs.Refusals.{and_then_refused, first_of-append}
use Rattle.plan.proofs.Planned.{plan_t, plan_p, plan_n, plan_points, plan_gates, plan_outs, plan_gate, plan_out}
use Rattle.plan.proofs.Valid.{valid}
use Rattle.plan_file.specs.Bodies.{written, place_in, out_start, gate_bytes, gates_bytes, out_bytes, points_bytes, contents, file_size, file_as, field_limit}
use Rattle.plan_file.proofs.Files.{file_long, out_long, out_parts}
use Rattle.plan_file.proofs.Writing.{Pointed, points_begin, points_next, points_end, points_same, written_then, written-whole, length-written}
use Rattle.plan_file.proofs.Rows.{gates_then, one_put, written_none, none_bytes, file_put}
use Rattle.seat_messages.specs.Calls.{unless_refused}
use Rattle.convert_call.specs.Converting.{old_checks, converted_file, convert_checks, convert_answer, convert_after}

abbrev no_out : Output
no_out = record { party = 0; wire = 0 }

-- ---- the size
pub size_is : (bs : List ℕ) (h : Header) (size : ℕ) → Planned bs h → size ≡ file_size 3 h.n h.gates h.outs → size ≡ length (converted_file bs)
unfolding converted_file
size_is bs h size p e = e ∙ sym (file_long 3 (plan_of bs) ∙ rw (plan_n p, plan_gates p, plan_outs p))

-- ---- gates that are written
pub record GatesPut (bs : List ℕ) (h : Header) (s₀ : List ℕ) (g : ℕ) (s : List ℕ) : Type 0 where
  pub within : g ≤ h.gates
  pub is : s ≡ written s₀ (place_in 3 0) (gates_bytes 3 (take g (plan_of bs).gates))

module _ (bs : List ℕ) (h : Header) (p : Planned bs h) (s₀ : List ℕ) where
  pub gates_begin : GatesPut bs h s₀ 0 s₀
  gates_begin = record { within = omega arith; is = sym (ap (written s₀ (place_in 3 0)) (none_bytes 3) ∙ written_none s₀ (place_in 3 0)) }

  module _ (g : ℕ) (s : List ℕ) (d : GatesPut bs h s₀ g s) where
    pub gates_next : (new : List ℕ) (gate : Gate) → g < h.gates → gate ≡ gate_at bs g → new ≡ written s (place_in 3 g) (gate_bytes 3 gate) → GatesPut bs h s₀ (g + 1) new
    gates_next new gate l eg e =
        let xs : List Gate = take g (plan_of bs).gates in
        let long : length xs ≡ g = length-take-le g (plan_of bs).gates (omega (arith, plan_gates p)) in
        let more : xs ++ (gate ∷ []) ≡ take (g + 1) (plan_of bs).gates =
        ap (λ (x : Gate). xs ++ (x ∷ [])) (eg ∙ sym (plan_gate p g l)) ∙ sym (ap (λ (k : ℕ). take k (plan_of bs).gates) (add-one g) ∙ take-suc (plan_of bs).gates g (Input 0) (rw (plan_gates p) l)) in
        record {
          within = omega arith;
          is = gates_then 3 s₀ s new 0 g xs (gate ∷ []) d.is (one_put 3 s new g gate e) (omega (arith, long)) ∙ ap (λ (ys : List Gate). written s₀ (place_in 3 0) (gates_bytes 3 ys)) more;
        }

    pub gates_done : h.gates ≤ g → s ≡ written s₀ (place_in 3 0) (gates_bytes 3 (plan_of bs).gates)
    gates_done l = d.is ∙ ap (λ (ys : List Gate). written s₀ (place_in 3 0) (gates_bytes 3 ys)) (take_all g (plan_of bs).gates (omega (arith, plan_gates p)))

    pub gates_same : length s ≡ length s₀
    gates_same = ap length d.is ∙ length-written s₀ (place_in 3 0) (gates_bytes 3 (take g (plan_of bs).gates))

-- ---- outs that are written
starts : (gates o : ℕ) → out_start 3 gates o ≡ out_start 3 gates 0 + 3 * o
unfolding out_start
starts gates o = omega arith

pub record OutsPut (bs : List ℕ) (h : Header) (s₀ : List ℕ) (o : ℕ) (s : List ℕ) : Type 0 where
  pub within : o ≤ h.outs
  pub is : s ≡ written s₀ (out_start 3 h.gates 0) (flat_map out_bytes (take o (plan_of bs).outs))

module _ (bs : List ℕ) (h : Header) (p : Planned bs h) where
  -- an out's party has one byte
  pub party_small : (o : ℕ) (x : Output) → o < h.outs → x ≡ out_at bs o → x.party < 256
  party_small o x l e =
      let k : out_ok (party_count (plan_of bs)) (length (plan_of bs).gates) (get_or (plan_of bs).outs o no_out) ≡ true = (valid bs p.passes).outs o (rw (plan_outs p) l) in
      let is : get_or (plan_of bs).outs o no_out ≡ x = plan_out p o l ∙ sym e in
      omega (arith, (out_parts (party_count (plan_of bs)) (length (plan_of bs).gates) x (rw is at k)).0, plan_n p, p.n-high)

  module _ (s₀ : List ℕ) where
    pub outs_begin : OutsPut bs h s₀ 0 s₀
    unfolding flat_map
    outs_begin = record { within = omega arith; is = sym (written_none s₀ (out_start 3 h.gates 0)) }

    module _ (o : ℕ) (s : List ℕ) (d : OutsPut bs h s₀ o s) where
      pub outs_next : (new : List ℕ) (x : Output) → o < h.outs → x ≡ out_at bs o → new ≡ written s (out_start 3 h.gates o) (out_bytes x) → OutsPut bs h s₀ (o + 1) new
      outs_next new x l ex e =
          let xs : List Output = take o (plan_of bs).outs in
          let long : length (flat_map out_bytes xs) ≡ 3 * o = flat-length out_bytes 3 out_long xs ∙ ap (λ (k : ℕ). 3 * k) (length-take-le o (plan_of bs).outs (omega (arith, plan_outs p))) in
          let more : xs ++ (x ∷ []) ≡ take (o + 1) (plan_of bs).outs =
          ap (λ (y : Output). xs ++ (y ∷ [])) (ex ∙ sym (plan_out p o l)) ∙ sym (ap (λ (k : ℕ). take k (plan_of bs).outs) (add-one o) ∙ take-suc (plan_of bs).outs o no_out (rw (plan_outs p) l)) in
          let next : out_start 3 h.gates o ≡ out_start 3 h.gates 0 + length (flat_map out_bytes xs) = starts h.gates o ∙ ap (λ (k : ℕ). out_start 3 h.gates 0 + k) (sym long) in
          record {
            within = omega arith;
            is =
                written_then s₀ s new (flat_map out_bytes xs) (out_bytes x) (out_start 3 h.gates 0) (out_start 3 h.gates o) d.is e next
                ∙ ap (written s₀ (out_start 3 h.gates 0)) (sym (flat-snoc out_bytes xs x) ∙ ap (flat_map out_bytes) more);
          }

      pub outs_done : h.outs ≤ o → s ≡ written s₀ (out_start 3 h.gates 0) (flat_map out_bytes (plan_of bs).outs)
      outs_done l = d.is ∙ ap (λ (ys : List Output). written s₀ (out_start 3 h.gates 0) (flat_map out_bytes ys)) (take_all o (plan_of bs).outs (omega (arith, plan_outs p)))

      pub outs_same : length s ≡ length s₀
      outs_same = ap length d.is ∙ length-written s₀ (out_start 3 h.gates 0) (flat_map out_bytes (take o (plan_of bs).outs))

  -- ---- points
  points_long : length (plan_of bs).points ≡ h.n
  points_long = ap length (plan_points p) ∙ length-tab (point_at bs) h.n

  pub point_put : (i x at : ℕ) (s new : List ℕ) → i < h.n → x ≡ point_at bs i → new ≡ written s (at + (layout_for 3).point * i) (bytes_from (layout_for 3).point x)
      → new ≡ written s (at + (layout_for 3).point * i) (bytes_from (layout_for 3).point (get_or (plan_of bs).points i 0))
  point_put i x at s new l ex e =
      let is : x ≡ get_or (plan_of bs).points i 0 = ex ∙ sym (ap (λ (ps : List ℕ). get_or ps i 0) (plan_points p) ∙ get_or-tab (point_at bs) h.n i 0 l) in
      e ∙ ap (λ (y : ℕ). written s (at + (layout_for 3).point * i) (bytes_from (layout_for 3).point y)) is

  module _ (at i : ℕ) (s₀ s : List ℕ) (d : Pointed 3 at (plan_of bs).points s₀ i s) where
    pub point_next : (new : List ℕ) → i < h.n → new ≡ written s (at + (layout_for 3).point * i) (bytes_from (layout_for 3).point (get_or (plan_of bs).points i 0)) → Pointed 3 at (plan_of bs).points s₀ (i + 1) new
    point_next new l e = points_next 3 at (plan_of bs).points s₀ i s new d (rw points_long l) e

    pub points-done : at ≡ out_start 3 h.gates h.outs → h.n ≤ i → s ≡ written s₀ (out_start 3 h.gates h.outs) (points_bytes 3 (plan_of bs).points)
    points-done ea l = rw (← ea) (points_end 3 at (plan_of bs).points s₀ i s d (rw points_long l))

-- As it is: answers name this set, since the check leaves their goals open by `using` alone.
pub ruleset putting = (rules, size_is, gates_begin, gates_next, gates_done, gates_same, party_small, outs_begin, outs_next, outs_done, outs_same, point_put, points_begin, point_next, points-done, points_same)

-- ---- the file
pub third_fits : (p : ℕ) → p < 2147483648 → p < field_limit 3
unfolding field_limit layout_for
third_fits p l = omega arith

module _ (bs : List ℕ) (h : Header) (p : Planned bs h) (s s1 s2 s3 s4 : List ℕ) where
  pub file-whole : length s ≡ length (converted_file bs) → s1 ≡ written s 0 (contents 3 h.n h.t h.field.p h.gates h.outs) → s2 ≡ written s1 (place_in 3 0) (gates_bytes 3 (plan_of bs).gates)
      → s3 ≡ written s2 (out_start 3 h.gates 0) (flat_map out_bytes (plan_of bs).outs) → s4 ≡ written s3 (out_start 3 h.gates h.outs) (points_bytes 3 (plan_of bs).points)
      → s4 ≡ converted_file bs
  unfolding converted_file
  file-whole long a b c d =
      file_put 3 (plan_of bs) s s1 s2 s3 s4 (rw (plan_n p, plan_t p, plan_p p, plan_gates p, plan_outs p) a) b (rw (plan_gates p) c) (rw (plan_gates p, plan_outs p) d)
      ∙ written-whole s (file_as 3 (plan_of bs)) (sym long)

-- As it is: answers name this set, since the check leaves their goals open by `using` alone.
pub ruleset filing = (rules, third_fits, file-whole)

-- ---- the call
module _ (bs out : List ℕ) where
  whole : convert_answer bs (length out) ≡ and_then (first_of (old_checks bs)) (first_of (need refusal.BufferLength (eqb (length out) (length (converted_file bs))) ∷ []))
  unfolding convert_answer convert_checks
  whole = first_of-append (old_checks bs) _

  module _ (q : Refusal) (e : first_of (old_checks bs) ≡ Err q) where
    turned : convert_answer bs (length out) ≡ Err q
    turned = whole ∙ and_then_refused (first_of (old_checks bs)) _ q e

    pub convert-refused : Err q ≡ convert_answer bs (length out)
    convert-refused = sym turned

    pub refused-kept : out ≡ convert_after bs out
    unfolding convert_after unless_refused
    refused-kept = rw turned

  -- the plan that was read
  module _ (passes : first_of (old_checks bs) ≡ (Ok tt)) (xs : List ℕ) (ex : xs ≡ bs) where
    module _ (size : ℕ) (es : size ≡ length (converted_file xs)) where
      size-is : size ≡ length (converted_file bs)
      size-is = es ∙ ap (λ (s : List ℕ). length (converted_file s)) ex

      short : (length out ≡ size → ⊥) → convert_answer bs (length out) ≡ Err refusal.BufferLength
      unfolding first_of and_then need
      short k = whole ∙ rw (passes, ← size-is, ne_eqb (length out) size k)

      pub convert-short : (length out ≡ size → ⊥) → Err refusal.BufferLength ≡ convert_answer bs (length out)
      convert-short k = sym (short k)

      pub short-kept : (length out ≡ size → ⊥) → out ≡ convert_after bs out
      unfolding convert_after unless_refused
      short-kept k = rw (short k)

      module _ (k : length out ≡ size) where
        done : convert_answer bs (length out) ≡ (Ok tt)
        unfolding first_of and_then need
        done = whole ∙ rw (passes, ← size-is, eq-eqb (length out) size k)

        pub convert-done : (Ok tt) ≡ convert_answer bs (length out)
        convert-done = sym done

        pub convert-written : (new : List ℕ) → new ≡ converted_file xs → new ≡ convert_after bs out
        unfolding convert_after unless_refused
        convert-written new en = en ∙ ap converted_file ex ∙ rw done

pub ruleset converting = (rules, convert-refused, refused-kept, convert-short, short-kept, convert-done, convert-written)
