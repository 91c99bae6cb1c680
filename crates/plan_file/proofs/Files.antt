-- A file that is written reads back as the plan, and the file of a plan that was made is refused for its contents alone.
--     file_long                           how long
--     plan-back                           a plan's file reads back as the plan
--     made-back                           and the file of a plan that was made as that plan
--     file_check_outs, file_check         the checks of a plan, on a file whose gates keep their rules; and its outs too
--     file_majority                       25 does not fall on it where 2t < n
--     file_bytes                          a file that passes is a list of bytes
-- Assumes nothing.
use Rattle.std.proofs.Common.{None, Ok, Err}
use Prim.Native.Nat.{ℕ, zero, suc, ◌+◌, ◌*◌, ◌/◌, ◌%◌, ◌<◌, ◌≤◌}
use mathlib.Core.Path.{◌≡◌, refl, sym, ap, ap₂, ◌∙◌}
use mathlib.Core.Bool.{Bool, true, false, cond, ◌&&◌}
use mathlib.Core.List.{List, [], ◌∷◌, ◌++◌, flat_map, append-nil, append_assoc}
use native.Mathlib.Omega.{arith}
use native.Mathlib.Nat.{mul-le-mul_left, mul-zero}
use borrow.Author.Tests.{ltb-true, eqb-true, eqb-false, eq-eqb, ne_eqb, le-leb, lt-ltb}
use lib.Dec.{eqb, leb, ltb}
use lib.ListN.{length, take, drop, get_or, length-append, get_or-append}
use lib.Seq.{get_or-append-add, get_or-take, get_or-drop}
use Rattle.numbers.specs.Tables.{tab, first_failing, count_where}
use Rattle.numbers.specs.Bytes.{number_at, bytes_from, word_at, all_below}
use Rattle.numbers.proofs.Tables.{is-tab, length-tab, get_or-tab}
use Rattle.numbers.proofs.Bytes.{span, number_same, length-bytes_from, bytes_number}
use Rattle.numbers.proofs.Rows.{flat-length, flat-part}
use Rattle.numbers.proofs.Searches.{passes-nothing, first_ext}
use Rattle.numbers.proofs.Below.{all_below-append}
use Rattle.numbers.proofs.Truth.{both_true}
use Rattle.plan.specs.declared.Gate.{Gate}
use Rattle.plan.specs.declared.Gate.TheVariants.{Input, Add, Scale, Offset, Multiply, Random, Spend}
use Rattle.plan.specs.declared.Output.{Output}
use Rattle.plan.specs.declared.Rule.TheVariants.{Reduction}
use Rattle.plan.specs.Refusals.{Checked}
use Rattle.plan.specs.declared.Refusal.TheVariants as refusal
use Rattle.plan.specs.Refusals.{and_then, first_of, need, unless_found}
use Rattle.plan.specs.Plans.{Plan, party_count, kind_of, is_kind, operands_of}
use Rattle.plan.proofs.Layouts.{gate_read}
use Rattle.plan.specs.File.{version_at, rule_for, layout_for, field_at, gate_start, gate_place, out_place, point_place, point_at, points_placed, magic, same_bytes, between, gate_of, gate_from, gate_at, out_at, gate_ok, out_ok, spends_kept, gate_kept, out_kept, gate_count_at, out_count_at, n_at, t_at, p_at, parties_ok, threshold_ok, modulus_ok, layout_ok, majority_check, points_check, plan_checks, plan_check, plan_of}
use Rattle.plan.proofs.Layouts.{layout_rows}
use Rattle.plan.proofs.Planned.{between-true, modulus_small, modulus_above}
use Rattle.plan_reading.proofs.Ways.{majority-all, majority-there, points-pass}
use Rattle.plan_file.specs.Bodies.{Bodies, plan_with, bytes_each, open_from, gate_bytes, gates_bytes, out_bytes, points_bytes, place_in, out_start, started, counted, contents, file_size, file_as, version_for, file_of_plan, content_checks, out_made, field_limit}
use Rattle.plan_file.proofs.Writing.{each_long, length_open, open_bytes, field-some, limit_span, fits_for}

-- ---- rows of k bytes within the file
module _ {A : Type 0} (F : A → List ℕ) (k : ℕ) (each : (a : A) → length (F a) ≡ k) where
  pub row_at : (l : List A) (i j : ℕ) (d : A) → i < length l → j < k → get_or (flat_map F l) (k * i + j) 0 ≡ get_or (F (get_or l i d)) j 0
  row_at l i j d lt s =
      sym (get_or-drop (k * i) (flat_map F l) j 0)
      ∙ sym (get_or-take k (drop (k * i) (flat_map F l)) j 0 s)
      ∙ ap (λ (r : List ℕ). get_or r j 0) (flat-part F k each l i d lt)

  row_in : (l : List A) (i j : ℕ) → i < length l → j < k → k * i + j < length (flat_map F l)
  row_in l i j lt s = omega (arith, flat-length F k each l, mul-le-mul_left {m = suc i} {n = length l} k lt, mul-suc-is)
    where
      mul-suc-is : k * suc i ≡ k * i + k
      mul-suc-is = omega arith

two_operands : (g : Gate) → operands_of g ≡ get_or (operands_of g) 0 0 ∷ get_or (operands_of g) 1 0 ∷ []
unfolding operands_of
two_operands (Input s) = refl
two_operands (Add a b) = refl
two_operands (Scale a c) = refl
two_operands (Offset a c) = refl
two_operands (Multiply a b) = refl
two_operands Random = refl
two_operands (Spend a b) = refl

pub gate_long : (v : ℕ) (g : Gate) → length (gate_bytes v g) ≡ 2 + 2 * (layout_for v).field
unfolding gate_bytes
gate_long v g =
    let w : ℕ = (layout_for v).field in
    let two : length (bytes_each w (operands_of g)) ≡ w * 2 = each_long w (operands_of g) ∙ ap (λ (ws : List ℕ). w * length ws) (two_operands g) in
    omega (arith, two)

pub out_long : (o : Output) → length (out_bytes o) ≡ 3
unfolding out_bytes bytes_each bytes_from flat_map
out_long o = refl

-- the contents have the bytes of the version's layout
pub contents_long : (v n t p G O : ℕ) → length (contents v n t p G O) ≡ (layout_for v).head
unfolding contents started counted magic
contents_long v n t p G O =
    let w : ℕ = (layout_for v).field in
    let fields : List ℕ = place_in v 0 ∷ G ∷ out_start v G 0 ∷ O ∷ cond (eqb (layout_for v).point 0) [] (out_start v G O ∷ []) in
    let after : length (open_from w p ++ bytes_each w fields) ≡ w + w * length fields = length-append (open_from w p) (bytes_each w fields) ∙ ap₂ (λ (x y : ℕ). x + y) (length_open w p) (each_long w fields) in
    omega (arith, after, layout_rows (λ l. 8 + (l.field + l.field * length (place_in v 0 ∷ G ∷ out_start v G 0 ∷ O ∷ cond (eqb l.point 0) [] (out_start v G O ∷ []))) ≡ l.head) refl refl refl v)

-- the two bytes of a number
word_back : (x : ℕ) → x < 65536 → x % 256 + 256 * (x / 256 % 256) ≡ x
word_back x l = omega arith

-- ---- a number among bytes
number_left : (w : ℕ) (xs ys : List ℕ) → length xs ≡ w → number_at w (xs ++ ys) 0 ≡ number_at w xs 0
number_left w xs ys e = number_same w (xs ++ ys) xs 0 0 (λ k l. get_or-append xs ys 0 (0 + k) (omega arith))

number_right : (w : ℕ) (xs ys : List ℕ) (k at : ℕ) → at ≡ length xs + k → number_at w (xs ++ ys) at ≡ number_at w ys k
number_right w xs ys k at e =
    number_same w (xs ++ ys) ys at k
    (λ j l. let f : at + j ≡ length xs + (k + j) = omega arith in ap (λ (i : ℕ). get_or (xs ++ ys) i 0) f ∙ get_or-append-add xs ys (k + j) 0)

-- the k-th of numbers of w bytes each, before other bytes
each_at : (w : ℕ) (xs ys : List ℕ) (k : ℕ) → k < length xs → get_or xs k 0 < span w → number_at w (bytes_each w xs ++ ys) (w * k) ≡ get_or xs k 0
unfolding bytes_each
each_at w xs ys k l s =
    number_same w (flat_map (bytes_from w) xs ++ ys) (bytes_from w (get_or xs k 0)) (w * k) 0
    (λ j m.
    get_or-append (flat_map (bytes_from w) xs) ys 0 (w * k + j) (row_in (bytes_from w) w (length-bytes_from w) xs k j l m)
    ∙ row_at (bytes_from w) w (length-bytes_from w) xs k j 0 l m
    ∙ ap (λ (i : ℕ). get_or (bytes_from w (get_or xs k 0)) i 0) (omega arith))
    ∙ bytes_number w (get_or xs k 0) s

-- a number whose last byte is as large as it comes
open_at : (w x : ℕ) → 0 < w → number_at w (open_from w x) 0 ≡ x
unfolding open_from number_at
open_at zero x l = absurd (omega arith)
open_at (suc zero) x l = omega arith
open_at (suc (suc w)) x l =
    let rest : number_at (suc w) (x % 256 ∷ open_from (suc w) (x / 256)) 1 ≡ x / 256 = number_right (suc w) (x % 256 ∷ []) (open_from (suc w) (x / 256)) 0 1 refl ∙ open_at (suc w) (x / 256) (omega arith) in
    omega (arith, rest)

-- a gate by its bytes
gate-numbers : (v : ℕ) (g : Gate) → get_or (operands_of g) 0 0 < span (layout_for v).field → get_or (operands_of g) 1 0 < span (layout_for v).field
    → gate_from (layout_for v).field (gate_bytes v g) 0 ≡ gate_of (kind_of g) 0 (get_or (operands_of g) 0 0) (get_or (operands_of g) 1 0)
unfolding gate_from gate_bytes
gate-numbers v g l m =
    let w : ℕ = (layout_for v).field in
    let both : List ℕ = bytes_each w (operands_of g) in
    let two : length (operands_of g) ≡ 2 = ap length (two_operands g) in
    let plain : both ≡ both ++ [] = sym (append-nil both) in
    let a : number_at w (kind_of g ∷ 0 ∷ both) 2 ≡ get_or (operands_of g) 0 0 =
    number_right w (kind_of g ∷ 0 ∷ []) both 0 2 refl ∙ ap₂ (λ (bs : List ℕ) (k : ℕ). number_at w bs k) plain (sym (mul-zero w)) ∙ each_at w (operands_of g) [] 0 (omega (arith, two)) l in
    let b : number_at w (kind_of g ∷ 0 ∷ both) (2 + w) ≡ get_or (operands_of g) 1 0 =
    number_right w (kind_of g ∷ 0 ∷ []) both w (2 + w) refl ∙ ap₂ (λ (bs : List ℕ) (k : ℕ). number_at w bs k) plain (omega arith) ∙ each_at w (operands_of g) [] 1 (omega (arith, two)) m in
    ap₂ (gate_of (kind_of g) 0) a b

-- a gate that a file may have: it is read from its kind and its operands
abbrev pub Readable : Gate → Type 0
Readable g = gate_of (kind_of g) 0 (get_or (operands_of g) 0 0) (get_or (operands_of g) 1 0) ≡ g

gate_of_kind : (g : Gate) → kind_of g ≤ 5 → Readable g
unfolding gate_of kind_of operands_of
gate_of_kind (Input s) low = refl
gate_of_kind (Add a b) low = refl
gate_of_kind (Scale a c) low = refl
gate_of_kind (Offset a c) low = refl
gate_of_kind (Multiply a b) low = refl
gate_of_kind Random low = absurd (omega arith)
gate_of_kind (Spend a b) low = absurd (omega arith)

-- such is every gate that is read, whatever its bytes
pub gate-readable : (kind second a b : ℕ) → Readable (gate_of kind second a b)
unfolding gate_of kind_of operands_of
gate-readable kind second a b = gate_read Readable kind second a b refl (λ e. refl) (λ e. refl) (λ e. refl) (λ e. refl) (λ e. refl) (λ e. refl) (λ e. refl)

-- ---- the file
abbrev no_out : Output
no_out = record { party = 0; wire = 0 }

-- gates that a file may have, numbers that have room in their bytes, and points 1 to n in a version without points
pub record Roomy (v : ℕ) (plan : Plan) : Type 0 where
  pub readable : (g : ℕ) → g < length plan.gates → Readable (get_or plan.gates g (Input 0))
  pub a_small : (g : ℕ) → g < length plan.gates → get_or (operands_of (get_or plan.gates g (Input 0))) 0 0 < span (layout_for v).field
  pub b_small : (g : ℕ) → g < length plan.gates → get_or (operands_of (get_or plan.gates g (Input 0))) 1 0 < span (layout_for v).field
  pub wire_small : (o : ℕ) → o < length plan.outs → (get_or plan.outs o no_out).wire < 65536
  pub point_small : (i : ℕ) → i < length plan.points → 0 < (layout_for v).point → get_or plan.points i 0 < span (layout_for v).point
  pub first : (layout_for v).point ≡ 0 → plan.points ≡ tab suc (party_count plan)

module _ (v : ℕ) (plan : Plan) where
  abbrev head : List ℕ
  head = contents v (party_count plan) plan.t plan.p (length plan.gates) (length plan.outs)

  abbrev gate_rows : List ℕ
  gate_rows = gates_bytes v plan.gates

  abbrev out_rows : List ℕ
  out_rows = flat_map out_bytes plan.outs

  abbrev point_rows : List ℕ
  point_rows = points_bytes v plan.points

  abbrev size : ℕ
  size = 2 + 2 * (layout_for v).field

  head_long : length head ≡ (layout_for v).head
  head_long = contents_long v (party_count plan) plan.t plan.p (length plan.gates) (length plan.outs)

  rows_long : length gate_rows ≡ size * length plan.gates
  unfolding gates_bytes
  rows_long = flat-length (gate_bytes v) size (gate_long v) plan.gates

  outs_long : length out_rows ≡ 3 * length plan.outs
  outs_long = flat-length out_bytes 3 out_long plan.outs

  points_long : length point_rows ≡ (layout_for v).point * party_count plan
  unfolding points_bytes party_count
  points_long = each_long (layout_for v).point plan.points

  pub file_long : length (file_as v plan) ≡ file_size v (party_count plan) (length plan.gates) (length plan.outs)
  unfolding file_as file_size out_start place_in gate_start
  file_long =
      length-append head (gate_rows ++ (out_rows ++ point_rows))
      ∙ omega (arith, head_long, length-append gate_rows (out_rows ++ point_rows), length-append out_rows point_rows, rows_long, outs_long, points_long)

  -- ---- its parts, byte by byte
  at_body : (m : ℕ) → get_or (file_as v plan) ((layout_for v).head + m) 0 ≡ get_or (gate_rows ++ (out_rows ++ point_rows)) m 0
  unfolding file_as
  at_body m =
      ap (λ (k : ℕ). get_or (head ++ (gate_rows ++ (out_rows ++ point_rows))) (k + m) 0) (sym head_long)
      ∙ get_or-append-add head (gate_rows ++ (out_rows ++ point_rows)) m 0

  at_gate : (g j : ℕ) → g < length plan.gates → j < size → get_or (file_as v plan) (place_in v g + j) 0 ≡ get_or (gate_bytes v (get_or plan.gates g (Input 0))) j 0
  unfolding place_in gate_start
  at_gate g j l s =
      let e : (layout_for v).head + size * g + j ≡ (layout_for v).head + (size * g + j) = omega arith in
      rw e (at_body (size * g + j)
      ∙ get_or-append gate_rows (out_rows ++ point_rows) 0 (size * g + j) (unfold gates_bytes in row_in (gate_bytes v) size (gate_long v) plan.gates g j l s)
      ∙ (unfold gates_bytes in row_at (gate_bytes v) size (gate_long v) plan.gates g j (Input 0) l s))

  at_out : (o j : ℕ) → o < length plan.outs → j < 3 → get_or (file_as v plan) (out_start v (length plan.gates) o + j) 0 ≡ get_or (out_bytes (get_or plan.outs o no_out)) j 0
  unfolding out_start place_in gate_start
  at_out o j l s =
      let e : (layout_for v).head + size * length plan.gates + 3 * o + j ≡ (layout_for v).head + (length gate_rows + (3 * o + j)) = omega (arith, rows_long) in
      rw e (at_body (length gate_rows + (3 * o + j))
      ∙ get_or-append-add gate_rows (out_rows ++ point_rows) (3 * o + j) 0
      ∙ get_or-append out_rows point_rows 0 (3 * o + j) (row_in out_bytes 3 out_long plan.outs o j l s)
      ∙ row_at out_bytes 3 out_long plan.outs o j no_out l s)

  at_point : (m : ℕ) → get_or (file_as v plan) (out_start v (length plan.gates) (length plan.outs) + m) 0 ≡ get_or point_rows m 0
  unfolding out_start place_in gate_start
  at_point m =
      let e : (layout_for v).head + size * length plan.gates + 3 * length plan.outs + m ≡ (layout_for v).head + (length gate_rows + (length out_rows + m)) = omega (arith, rows_long, outs_long) in
      rw e (at_body (length gate_rows + (length out_rows + m))
      ∙ get_or-append-add gate_rows (out_rows ++ point_rows) (length out_rows + m) 0
      ∙ get_or-append-add out_rows point_rows m 0)

  -- ---- its contents
  pub version_back : version_at (file_as v plan) ≡ v
  unfolding file_as contents started magic
  version_back = refl

  pub n_back : n_at (file_as v plan) ≡ party_count plan
  unfolding file_as contents started magic
  n_back = refl

  pub t_back : t_at (file_as v plan) ≡ plan.t
  unfolding file_as contents started magic
  t_back = refl

  seven : get_or (file_as v plan) 7 0 ≡ 0
  unfolding file_as contents started magic
  seven = refl

  -- what stands after byte 8
  abbrev fields : List ℕ
  fields =
      place_in v 0 ∷ length plan.gates ∷ out_start v (length plan.gates) 0 ∷ length plan.outs
      ∷ cond (eqb (layout_for v).point 0) [] (out_start v (length plan.gates) (length plan.outs) ∷ [])

  eight : List ℕ
  eight = started v (party_count plan) plan.t

  file-is : file_as v plan ≡ eight ++ (open_from (layout_for v).field plan.p ++ (bytes_each (layout_for v).field fields ++ (gate_rows ++ (out_rows ++ point_rows))))
  unfolding file_as contents counted eight
  file-is =
      let w : ℕ = (layout_for v).field in
      let rest : List ℕ = gate_rows ++ (out_rows ++ point_rows) in
      append_assoc (started v (party_count plan) plan.t) (open_from w plan.p ++ bytes_each w fields) rest
      ∙ ap (λ (l : List ℕ). started v (party_count plan) plan.t ++ l) (append_assoc (open_from w plan.p) (bytes_each w fields) rest)

  eight_long : length eight ≡ 8
  unfolding eight started magic
  eight_long = refl

  pub p_back : p_at (file_as v plan) ≡ plan.p
  unfolding field_at
  p_back =
      let w : ℕ = (layout_for v).field in
      let rest : List ℕ = bytes_each w fields ++ (gate_rows ++ (out_rows ++ point_rows)) in
      rw (version_back, file-is)
      (number_right w eight (open_from w plan.p ++ rest) 0 (8 + w * 0) (omega (arith, eight_long))
      ∙ number_left w (open_from w plan.p) rest (length_open w plan.p)
      ∙ open_at w plan.p (field-some v))

  field_back : (k : ℕ) → k < length fields → get_or fields k 0 < span (layout_for v).field → field_at (file_as v plan) (suc k) ≡ get_or fields k 0
  unfolding field_at
  field_back k l s =
      let w : ℕ = (layout_for v).field in
      let rest : List ℕ = gate_rows ++ (out_rows ++ point_rows) in
      rw (version_back, file-is)
      (number_right w eight (open_from w plan.p ++ (bytes_each w fields ++ rest)) (w + w * k) (8 + w * suc k) (omega (arith, eight_long))
      ∙ number_right w (open_from w plan.p) (bytes_each w fields ++ rest) (w * k) (w + w * k) (ap (λ (x : ℕ). x + w * k) (sym (length_open w plan.p)))
      ∙ each_at w fields rest k l s)

  -- counts that have room: at most 1,024 gates and 64 outs
  module _ (few-gates : length plan.gates ≤ 1024) (few_outs : length plan.outs ≤ 64) where
    -- every offset and count has two bytes
    two_bytes : (x : ℕ) → x < 65536 → x < span (layout_for v).field
    two_bytes x l = layout_rows (λ w. x < span w.field) (unfold span in l) (unfold span in l) (unfold span in omega arith) v

    start_small : (o : ℕ) → o ≤ 64 → out_start v (length plan.gates) o < 65536
    unfolding out_start place_in gate_start
    start_small o l = layout_rows (λ w. w.head + (2 + 2 * w.field) * length plan.gates + 3 * o < 65536) (omega arith) (omega arith) (omega arith) v

    pub gates-back : gate_count_at (file_as v plan) ≡ length plan.gates
    gates-back = field_back 1 (omega arith) (two_bytes (length plan.gates) (omega arith))

    pub outs_back : out_count_at (file_as v plan) ≡ length plan.outs
    outs_back = field_back 3 (omega arith) (two_bytes (length plan.outs) (omega arith))

    gates-offset : field_at (file_as v plan) 1 ≡ place_in v 0
    gates-offset =
        field_back 0 (omega arith)
        (two_bytes (place_in v 0) (unfold place_in in unfold gate_start in layout_rows (λ w. w.head + (2 + 2 * w.field) * 0 < 65536) (omega arith) (omega arith) (omega arith) v))

    outs-offset : field_at (file_as v plan) 3 ≡ out_start v (length plan.gates) 0
    outs-offset = field_back 2 (omega arith) (two_bytes (out_start v (length plan.gates) 0) (start_small 0 (omega arith)))

    points-offset : ((layout_for v).point ≡ 0 → ⊥) → field_at (file_as v plan) 5 ≡ out_start v (length plan.gates) (length plan.outs)
    points-offset h =
        let some : cond (eqb (layout_for v).point 0) [] (out_start v (length plan.gates) (length plan.outs) ∷ []) ≡ out_start v (length plan.gates) (length plan.outs) ∷ [] = rw (ne_eqb (layout_for v).point 0 h) in
        let there : get_or fields 4 0 ≡ out_start v (length plan.gates) (length plan.outs) = ap (λ (l : List ℕ). get_or l 0 0) some in
        field_back 4 (omega (arith, ap length some)) (rw there (two_bytes (out_start v (length plan.gates) (length plan.outs)) (start_small (length plan.outs) few_outs)))
        ∙ there

    gate-place-back : (g : ℕ) → gate_place (file_as v plan) g ≡ place_in v g
    unfolding gate_place place_in
    gate-place-back g = rw version_back

    out-place-back : (o : ℕ) → out_place (file_as v plan) o ≡ out_start v (length plan.gates) o
    unfolding out_place out_start
    out-place-back o = rw (gates-back, gate-place-back (length plan.gates))

    point-place-back : (i : ℕ) → point_place (file_as v plan) i ≡ out_start v (length plan.gates) (length plan.outs) + (layout_for v).point * i
    unfolding point_place
    point-place-back i = rw (outs_back, out-place-back (length plan.outs), version_back)

    -- the points end the file
    placed-back : points_placed (file_as v plan) ≡ true
    unfolding points_placed
    placed-back =
        rw (version_back, n_back, point-place-back 0, point-place-back (party_count plan), eq-eqb (length (file_as v plan)) (out_start v (length plan.gates) (length plan.outs) + (layout_for v).point * party_count plan) (unfold file_size in file_long))
        (by (eqb (layout_for v).point 0) refl)
      where
        by : (b : Bool) → eqb (layout_for v).point 0 ≡ b → (cond b true (eqb (field_at (file_as v plan) 5) (out_start v (length plan.gates) (length plan.outs) + (layout_for v).point * 0)) && true) ≡ true
        by true e = refl
        by false e =
            rw (points-offset (eqb-false (layout_for v).point 0 e), eq-eqb (out_start v (length plan.gates) (length plan.outs)) (out_start v (length plan.gates) (length plan.outs) + (layout_for v).point * 0) (omega arith))

    pub layout-back : layout_ok (file_as v plan) ≡ (between 1 1024 (length plan.gates) && leb (length plan.outs) 64)
    unfolding layout_ok
    layout-back =
        rw (seven, gates-offset, gate-place-back 0, gates-back, outs-offset, out-place-back 0, outs_back, placed-back, eq-eqb (place_in v 0) (place_in v 0) refl, eq-eqb (out_start v (length plan.gates) 0) (out_start v (length plan.gates) 0) refl)
        (ends (between 1 1024 (length plan.gates)) (leb (length plan.outs) 64))
      where
        ends : (x y : Bool) → (x && (true && (y && true))) ≡ (x && y)
        ends true true = refl
        ends true false = refl
        ends false y = refl

    module _ (roomy : Roomy v plan) where
      pub gate-back : (g : ℕ) → g < length plan.gates → gate_at (file_as v plan) g ≡ get_or plan.gates g (Input 0)
      unfolding gate_at
      gate-back g l =
          let w : ℕ = (layout_for v).field in
          let x : Gate = get_or plan.gates g (Input 0) in
          rw (version_back, gate-place-back g)
          (gate-among g l x refl
          ∙ gate-numbers v x (roomy.a_small g l) (roomy.b_small g l)
          ∙ roomy.readable g l)
        where
          gate-among : (g : ℕ) → g < length plan.gates → (x : Gate) → x ≡ get_or plan.gates g (Input 0) → gate_from (layout_for v).field (file_as v plan) (place_in v g) ≡ gate_from (layout_for v).field (gate_bytes v x) 0
          gate-among g l x e =
              unfold gate_from in rw e
              (ap₂ (λ (f : ℕ → ℕ → Gate) (ab : ℕ × ℕ). f ab.0 ab.1)
              (ap₂ (λ (k s : ℕ). gate_of k s) (ap (λ (k : ℕ). get_or (file_as v plan) k 0) (omega arith) ∙ at_gate g 0 l (omega arith)) (at_gate g 1 l (omega arith)))
              (ap₂ (λ (a b : ℕ). (a, b))
              (operand g l 2 (omega arith))
              (ap (number_at (layout_for v).field (file_as v plan)) (omega arith) ∙ operand g l (2 + (layout_for v).field) (omega arith))))
            where
              operand : (g : ℕ) → g < length plan.gates → (j : ℕ) → j + (layout_for v).field ≤ size → number_at (layout_for v).field (file_as v plan) (place_in v g + j) ≡ number_at (layout_for v).field (gate_bytes v (get_or plan.gates g (Input 0))) j
              operand g l j m =
                  number_same (layout_for v).field (file_as v plan) (gate_bytes v (get_or plan.gates g (Input 0))) (place_in v g + j) j
                  (λ k h. ap (λ (i : ℕ). get_or (file_as v plan) i 0) (omega arith) ∙ at_gate g (j + k) l (omega arith))

      pub out-back : (o : ℕ) → o < length plan.outs → out_at (file_as v plan) o ≡ get_or plan.outs o no_out
      unfolding out_at word_at out_bytes bytes_each bytes_from flat_map
      out-back o l =
          let x : Output = get_or plan.outs o no_out in
          let at : ℕ = out_start v (length plan.gates) o in
          let none : at ≡ at + 0 = omega arith in
          let two : at + 1 + 1 ≡ at + 2 = omega arith in
          rw (out-place-back o)
          (ap₂ (λ (c w : ℕ). record { party = c; wire = w })
          (ap (λ (k : ℕ). get_or (file_as v plan) k 0) none ∙ at_out o 0 l (omega arith))
          (ap₂ (λ (c d : ℕ). c + 256 * d) (at_out o 1 l (omega arith)) (ap (λ (k : ℕ). get_or (file_as v plan) k 0) two ∙ at_out o 2 l (omega arith))
          ∙ word_back x.wire (roomy.wire_small o l)))

      pub point-back : (i : ℕ) → i < length plan.points → point_at (file_as v plan) i ≡ get_or plan.points i 0
      unfolding point_at
      point-back i l = rw (version_back, point-place-back i) (by (eqb (layout_for v).point 0) refl)
        where
          by : (b : Bool) → eqb (layout_for v).point 0 ≡ b → cond b (suc i) (number_at (layout_for v).point (file_as v plan) (out_start v (length plan.gates) (length plan.outs) + (layout_for v).point * i)) ≡ get_or plan.points i 0
          by true e =
              sym (ap (λ (ps : List ℕ). get_or ps i 0) (roomy.first (eqb-true (layout_for v).point 0 e)) ∙ get_or-tab suc (party_count plan) i 0 (unfold party_count in l))
          by false e =
              let w : ℕ = (layout_for v).point in
              let some : 0 < w = omega (arith, eqb-false w 0 e) in
              number_same w (file_as v plan) (point_rows ++ []) (out_start v (length plan.gates) (length plan.outs) + w * i) (w * i)
              (λ k h. ap (λ (j : ℕ). get_or (file_as v plan) j 0) (omega arith) ∙ at_point (w * i + k) ∙ ap (λ (r : List ℕ). get_or r (w * i + k) 0) (sym (append-nil point_rows)))
              ∙ (unfold points_bytes in each_at w plan.points [] i l (roomy.point_small i l some))

      -- the plan, where its rule is the version's
      pub plan-back : plan.rule ≡ rule_for v → plan_of (file_as v plan) ≡ plan
      unfolding plan_of
      plan-back rule =
          rw (
            gates-back,
            outs_back,
            n_back,
            p_back,
            t_back,
            version_back,
            ← is-tab (gate_at (file_as v plan)) (length plan.gates) plan.gates (Input 0) refl (λ g l. sym (gate-back g l)),
            ← is-tab (out_at (file_as v plan)) (length plan.outs) plan.outs no_out refl (λ o l. sym (out-back o l)),
            ← is-tab (point_at (file_as v plan)) (party_count plan) plan.points 0 (unfold party_count in refl) (λ i l. sym (point-back i (unfold party_count in l))),
            ← rule,
          )

-- ---- the file of a plan that was made
-- gates of the kinds that a file may have, and numbers that have room in four bytes, or in two where p has
pub record MadeRoomy (p : ℕ) (b : Bodies) : Type 0 where
  pub low : (g : ℕ) → g < length b.gates → kind_of (get_or b.gates g (Input 0)) ≤ 5
  pub a_small : (g : ℕ) → g < length b.gates → get_or (operands_of (get_or b.gates g (Input 0))) 0 0 < span (layout_for (version_for p)).field
  pub b_small : (g : ℕ) → g < length b.gates → get_or (operands_of (get_or b.gates g (Input 0))) 1 0 < span (layout_for (version_for p)).field
  pub wire_small : (o : ℕ) → o < length b.outs → (get_or b.outs o no_out).wire < 65536

-- of version 1, without points, or of version 3
version_cases : (P : ℕ → Type 0) (p : ℕ) → (p < 65536 → P 1) → P 3 → P (version_for p)
unfolding version_for
version_cases P p a b = pick (ltb p 65536) refl
  where
    pick : (x : Bool) → ltb p 65536 ≡ x → P (cond x 1 3)
    pick true e = a (ltb-true p 65536 e)
    pick false e = b

module _ (n t p : ℕ) (b : Bodies) where
  made_count : party_count (plan_with n t p b) ≡ n
  unfolding plan_with party_count
  made_count = length-tab suc n

  pub made_long : length (file_of_plan n t p b) ≡ file_size (version_for p) n (length b.gates) (length b.outs)
  unfolding file_of_plan plan_with
  made_long = file_long (version_for p) (plan_with n t p b) ∙ ap (λ (k : ℕ). file_size (version_for p) k (length b.gates) (length b.outs)) made_count

  pub made_n : n_at (file_of_plan n t p b) ≡ n
  unfolding file_of_plan
  made_n = n_back (version_for p) (plan_with n t p b) ∙ made_count

  pub made_t : t_at (file_of_plan n t p b) ≡ t
  unfolding file_of_plan
  made_t = t_back (version_for p) (plan_with n t p b) ∙ (unfold plan_with in refl)

  pub made_p : p_at (file_of_plan n t p b) ≡ p
  unfolding file_of_plan
  made_p = p_back (version_for p) (plan_with n t p b) ∙ (unfold plan_with in refl)

  module _ (few-gates : length b.gates ≤ 1024) (few_outs : length b.outs ≤ 64) where
    pub made-gates : gate_count_at (file_of_plan n t p b) ≡ length b.gates
    unfolding file_of_plan plan_with
    made-gates = gates-back (version_for p) (plan_with n t p b) few-gates few_outs

    pub made_outs : out_count_at (file_of_plan n t p b) ≡ length b.outs
    unfolding file_of_plan plan_with
    made_outs = outs_back (version_for p) (plan_with n t p b) few-gates few_outs

    pub made-layout : layout_ok (file_of_plan n t p b) ≡ (between 1 1024 (length b.gates) && leb (length b.outs) 64)
    unfolding file_of_plan plan_with
    made-layout = layout-back (version_for p) (plan_with n t p b) few-gates few_outs

    module _ (n-small : n ≤ 15) (made : MadeRoomy p b) where
      its-room : Roomy (version_for p) (plan_with n t p b)
      unfolding plan_with
      its-room =
          record {
            readable = λ g l. gate_of_kind (get_or b.gates g (Input 0)) (made.low g l);
            a_small = made.a_small;
            b_small = made.b_small;
            wire_small = made.wire_small;
            point_small =
                λ i l s.
                version_cases (λ v. 0 < (layout_for v).point → get_or (tab suc n) i 0 < span (layout_for v).point) p
                (λ q h. absurd (none h))
                (λ h. unfold layout_for in unfold span in rw (get_or-tab suc n i 0 (rw length-tab at l)) (omega (arith, rw length-tab at l)))
                s;
            first = λ e. ap (tab suc) (sym made_count);
          }
        where
          none : 0 < (layout_for 1).point → ⊥
          none = unfold layout_for in λ h. omega arith

      pub made-gate : (g : ℕ) → g < length b.gates → gate_at (file_of_plan n t p b) g ≡ get_or b.gates g (Input 0)
      unfolding file_of_plan plan_with
      made-gate g l = gate-back (version_for p) (plan_with n t p b) few-gates few_outs its-room g l

      pub made-out : (o : ℕ) → o < length b.outs → out_at (file_of_plan n t p b) o ≡ get_or b.outs o no_out
      unfolding file_of_plan plan_with
      made-out o l = out-back (version_for p) (plan_with n t p b) few-gates few_outs its-room o l

      pub made-point : (i : ℕ) → i < n → point_at (file_of_plan n t p b) i ≡ suc i
      unfolding file_of_plan plan_with
      made-point i l = point-back (version_for p) (plan_with n t p b) few-gates few_outs its-room i (rw (length-tab suc n) l) ∙ get_or-tab suc n i 0 l

      -- the plan that was made
      pub made-back : plan_of (file_of_plan n t p b) ≡ plan_with n t p b
      unfolding file_of_plan plan_with
      made-back = plan-back (version_for p) (plan_with n t p b) few-gates few_outs its-room (version_cases (λ v. Reduction ≡ rule_for v) p (λ l. refl) refl)

-- ---- the checks
-- gates of the kinds that a file may have, and gates and outs that keep their rules
pub record Sound (n p : ℕ) (b : Bodies) : Type 0 where
  pub low : (g : ℕ) → g < length b.gates → kind_of (get_or b.gates g (Input 0)) ≤ 5
  pub gates : (g : ℕ) → g < length b.gates → gate_ok n p g (get_or b.gates g (Input 0)) ≡ true
  pub outs : (o : ℕ) → o < length b.outs → out_ok n (length b.gates) (get_or b.outs o no_out) ≡ true

-- operands of such a gate have room where p has, 1,024 and 16
module _ (n p g m : ℕ) (n-small : n < m) (p-small : p ≤ m) (g-small : g ≤ m) where
  pub a_room : (x : Gate) → gate_ok n p g x ≡ true → get_or (operands_of x) 0 0 < m
  unfolding gate_ok operands_of
  a_room (Input s) h = omega (arith, (between-true 1 n s h).1)
  a_room (Add a b) h = omega (arith, ltb-true a g (both_true (ltb a g) (ltb b g) h).0)
  a_room (Scale a c) h = omega (arith, ltb-true a g (both_true (ltb a g) (ltb c p) h).0)
  a_room (Offset a c) h = omega (arith, ltb-true a g (both_true (ltb a g) (ltb c p) h).0)
  a_room (Multiply a b) h = omega (arith, ltb-true a g (both_true (ltb a g) (ltb b g) h).0)
  a_room Random h = omega arith
  a_room (Spend a b) h = omega (arith, ltb-true a g (both_true (ltb a g) (ltb b g) h).0)

  pub b_room : (x : Gate) → gate_ok n p g x ≡ true → get_or (operands_of x) 1 0 < m
  unfolding gate_ok operands_of
  b_room (Input s) h = omega arith
  b_room (Add a b) h = omega (arith, ltb-true b g (both_true (ltb a g) (ltb b g) h).1)
  b_room (Scale a c) h = omega (arith, ltb-true c p (both_true (ltb a g) (ltb c p) h).1)
  b_room (Offset a c) h = omega (arith, ltb-true c p (both_true (ltb a g) (ltb c p) h).1)
  b_room (Multiply a b) h = omega (arith, ltb-true b g (both_true (ltb a g) (ltb b g) h).1)
  b_room Random h = omega arith
  b_room (Spend a b) h = omega (arith, ltb-true b g (both_true (ltb a g) (ltb b g) h).1)

pub out_parts : (n gates : ℕ) (o : Output) → out_ok n gates o ≡ true → (o.party ≤ n) × (o.wire < gates)
unfolding out_ok
out_parts n gates o h =
    let c = both_true (between 1 n o.party) (ltb o.wire gates) h in
    ((between-true 1 n o.party c.0).1, ltb-true o.wire gates c.1)

-- gates of the kinds that a file may have that keep their rules, and outs of wires that there are
pub record Wired (n p : ℕ) (b : Bodies) : Type 0 where
  pub low : (g : ℕ) → g < length b.gates → kind_of (get_or b.gates g (Input 0)) ≤ 5
  pub gates : (g : ℕ) → g < length b.gates → gate_ok n p g (get_or b.gates g (Input 0)) ≡ true
  pub wires : (o : ℕ) → o < length b.outs → (get_or b.outs o no_out).wire < length b.gates

pub sound_wired : (n p : ℕ) (b : Bodies) → Sound n p b → Wired n p b
sound_wired n p b sound =
    record { low = sound.low; gates = sound.gates; wires = λ o l. (out_parts n (length b.gates) (get_or b.outs o no_out) (sound.outs o l)).1 }

-- no such gate spends a triple
none-spent : (f : ℕ → Gate) (n : ℕ) → ((i : ℕ) → i < n → kind_of (f i) ≤ 5) → count_where (is_kind 7) (tab f n) ≡ 0
unfolding tab count_where is_kind
none-spent f zero h = refl
none-spent f (suc n) h =
    rw (ne_eqb (kind_of (f 0)) 7 (λ e. omega (arith, h 0 (omega arith)))) (none-spent (λ i. f (suc i)) n (λ i l. h (suc i) (omega arith)))

-- a field of any version has room for 1,024
pub field_room : (v : ℕ) → 65536 ≤ span (layout_for v).field
field_room v = layout_rows (λ l. 65536 ≤ span l.field) (unfold span in omega arith) (unfold span in omega arith) (unfold span in omega arith) v

module _ (n p : ℕ) (b : Bodies) (n-small : n ≤ 15) (p-small : p < 4294967296) (few-gates : length b.gates ≤ 1024) where
  wired_room : Wired n p b → MadeRoomy p b
  wired_room wired =
      let m : ℕ = span (layout_for (version_for p)).field in
      let room : 65536 ≤ m = field_room (version_for p) in
      let fits : p < m = rw (limit_span (version_for p)) at (fits_for p p-small) in
      record {
        low = wired.low;
        a_small = λ g l. a_room n p g m (omega arith) (omega arith) (omega arith) (get_or b.gates g (Input 0)) (wired.gates g l);
        b_small = λ g l. b_room n p g m (omega arith) (omega arith) (omega arith) (get_or b.gates g (Input 0)) (wired.gates g l);
        wire_small = λ o l. omega (arith, few-gates, wired.wires o l);
      }

  pub sound_room : Sound n p b → MadeRoomy p b
  sound_room sound = wired_room (sound_wired n p b sound)

  module _ (wired : Wired n p b) (t : ℕ) (few_outs : length b.outs ≤ 64) where
    its-gate : (g : ℕ) → g < length b.gates → gate_at (file_of_plan n t p b) g ≡ get_or b.gates g (Input 0)
    its-gate g l = made-gate n t p b few-gates few_outs n-small (wired_room wired) g l

    spends-pass : (g : ℕ) → g < length b.gates → spends_kept (file_of_plan n t p b) g ≡ true
    unfolding spends_kept
    spends-pass g l =
        ap (λ (k : ℕ). leb k 341)
        (none-spent (gate_at (file_of_plan n t p b)) (suc g) (λ i m. let k : i < length b.gates = omega arith in rw (its-gate i k) (wired.low i k)))

    -- 7 falls on no gate
    gates-pass : first_failing (gate_kept (file_of_plan n t p b)) (gate_count_at (file_of_plan n t p b)) ≡ None
    unfolding gate_kept
    gates-pass =
        passes-nothing (gate_kept (file_of_plan n t p b)) (gate_count_at (file_of_plan n t p b))
        (λ g l. let k : g < length b.gates = rw (made-gates n t p b few-gates few_outs) at l in
        rw (made_n n t p b, made_p n t p b, its-gate g k, wired.gates g k) (spends-pass g k))

    -- and 8 on the outs that were made
    outs_same : first_failing (out_kept (file_of_plan n t p b)) (out_count_at (file_of_plan n t p b)) ≡ first_failing (out_made n b) (length b.outs)
    unfolding out_kept out_made
    outs_same =
        rw (made_outs n t p b few-gates few_outs)
        (first_ext (out_kept (file_of_plan n t p b)) (out_made n b) (length b.outs)
        (λ o l. unfold out_kept in unfold out_made in rw (made_n n t p b, made-gates n t p b few-gates few_outs, made-out n t p b few-gates few_outs n-small (wired_room wired) o l)))

    -- 26 falls on no point
    points-made : n < p → points_check (file_of_plan n t p b) ≡ (Ok tt)
    unfolding points_check unless_found
    points-made above =
        rw (points-pass (file_of_plan n t p b)
        (λ i l. made-point n t p b few-gates few_outs n-small (wired_room wired) i (rw (made_n n t p b) at l)) (rw (made_n n t p b, made_p n t p b) above))

module _ (n t p : ℕ) (b : Bodies) (few-gates : length b.gates ≤ 1024) (few_outs : length b.outs ≤ 64) where
  begun : (leb 18 (length (file_of_plan n t p b)) && same_bytes (take 4 (file_of_plan n t p b)) magic) ≡ true
  unfolding file_size out_start place_in gate_start
  begun =
      let low : 18 ≤ (layout_for (version_for p)).head = layout_rows (λ l. 18 ≤ l.head) (omega arith) (omega arith) (omega arith) (version_for p) in
      rw (le-leb 18 (length (file_of_plan n t p b)) (omega (arith, made_long n t p b))) letters
    where
      letters : same_bytes (take 4 (file_of_plan n t p b)) magic ≡ true
      letters = unfold file_of_plan in unfold file_as in unfold contents in unfold started in unfold magic in unfold same_bytes in refl

  version_made : between 1 4 (version_at (file_of_plan n t p b)) ≡ true
  unfolding file_of_plan
  version_made = rw (version_back (version_for p) (plan_with n t p b)) (version_cases (λ v. between 1 4 v ≡ true) p (λ l. unfold between in refl) (unfold between in refl))

  -- a file that was made is refused for its contents, for the parties of its outs and for want of a majority alone
  pub file_check_outs : (parties_ok n ≡ true → modulus_ok n p ≡ true → Wired n p b)
      → plan_check (file_of_plan n t p b) ≡ and_then (first_of (content_checks n t p (length b.gates) (length b.outs)))
      (and_then (unless_found refusal.OutputRule (first_failing (out_made n b) (length b.outs))) (majority_check (file_of_plan n t p b)))
  unfolding plan_check plan_checks first_of and_then need content_checks
  file_check_outs wired =
      rw (begun, version_made, made_n n t p b, made_t n t p b, made_p n t p b, made-layout n t p b few-gates few_outs)
      (by (parties_ok n) (threshold_ok n t) (modulus_ok n p) (between 1 1024 (length b.gates) && leb (length b.outs) 64) refl refl)
    where
      rest : List Checked
      rest =
          unless_found refusal.GateRule (first_failing (gate_kept (file_of_plan n t p b)) (gate_count_at (file_of_plan n t p b)))
          ∷ unless_found refusal.OutputRule (first_failing (out_kept (file_of_plan n t p b)) (out_count_at (file_of_plan n t p b)))
          ∷ majority_check (file_of_plan n t p b) ∷ points_check (file_of_plan n t p b) ∷ []

      made : Checked
      made = and_then (unless_found refusal.OutputRule (first_failing (out_made n b) (length b.outs))) (majority_check (file_of_plan n t p b))

      only : (c : Checked) → and_then c (Ok tt) ≡ c
      only (Ok tt) = refl
      only (Err r) = refl

      by : (x y z w : Bool) → parties_ok n ≡ x → modulus_ok n p ≡ z
          → first_of (need refusal.Parties x ∷ need refusal.Threshold y ∷ need refusal.Modulus z ∷ need refusal.Layout w ∷ rest)
          ≡ and_then (first_of (need refusal.Parties x ∷ need refusal.Threshold y ∷ need refusal.Modulus z ∷ need refusal.Layout w ∷ [])) made
      by false y z w e f = refl
      by true false z w e f = refl
      by true true false w e f = refl
      by true true true false e f = refl
      by true true true true e f =
          let n-small : n ≤ 15 = (between-true 1 15 n e).1 in
          let p-small : p < 4294967296 = omega (arith, modulus_small n p f) in
          rw (gates-pass n p b n-small p-small few-gates (wired e f) t few_outs, outs_same n p b n-small p-small few-gates (wired e f) t few_outs, points-made n p b n-small p-small few-gates (wired e f) t few_outs (modulus_above n p f))
          (unfold unless_found in ap (and_then (unless_found refusal.OutputRule (first_failing (out_made n b) (length b.outs)))) (only (majority_check (file_of_plan n t p b))))

  -- where the outs keep their rules too, for its contents and for want of a majority alone
  pub file_check : (parties_ok n ≡ true → modulus_ok n p ≡ true → Sound n p b)
      → plan_check (file_of_plan n t p b) ≡ and_then (first_of (content_checks n t p (length b.gates) (length b.outs))) (majority_check (file_of_plan n t p b))
  file_check sound =
      file_check_outs (λ e f. sound_wired n p b (sound e f))
      ∙ by (parties_ok n) (modulus_ok n p) refl refl
    where
      rest : Checked
      rest = unless_found refusal.OutputRule (first_failing (out_made n b) (length b.outs))

      major : Checked
      major = majority_check (file_of_plan n t p b)

      whole : List Checked
      whole = content_checks n t p (length b.gates) (length b.outs)

      by : (x z : Bool) → parties_ok n ≡ x → modulus_ok n p ≡ z → and_then (first_of whole) (and_then rest major) ≡ and_then (first_of whole) major
      by true true e f =
          let none : first_failing (out_made n b) (length b.outs) ≡ None = passes-nothing (out_made n b) (length b.outs) (λ o l. unfold out_made in (sound e f).outs o l) in
          rw none (unfold unless_found in unfold and_then in refl)
      by false z e f = unfold content_checks in unfold first_of in unfold need in unfold and_then in rw e
      by true false e f = unfold content_checks in unfold first_of in unfold need in unfold and_then in rw (e, f) (late (threshold_ok n t))
        where
          late : (y : Bool) → and_then (and_then (need refusal.Threshold y) (Err refusal.Modulus)) (and_then rest major) ≡ and_then (and_then (need refusal.Threshold y) (Err refusal.Modulus)) major
          late true = unfold need in unfold and_then in refl
          late false = unfold need in unfold and_then in refl

-- ---- the majority
pub file_majority : (n t p : ℕ) (b : Bodies) → 2 * t < n → (Ok tt) ≡ majority_check (file_of_plan n t p b)
file_majority n t p b l =
    majority-there (file_of_plan n t p b) _ refl (sym (majority-all (file_of_plan n t p b) n t (sym (made_n n t p b)) (sym (made_t n t p b)) l))

-- ---- the bytes
flat_below : {A : Type 0} (F : A → List ℕ) (m : ℕ) (l : List A) (d : A) → ((i : ℕ) → i < length l → all_below m (F (get_or l i d)) ≡ true) → all_below m (flat_map F l) ≡ true
unfolding flat_map all_below
flat_below F m [] d h = refl
flat_below F m (a ∷ l) d h =
    all_below-append m (F a) (flat_map F l) ∙ rw (h 0 (omega arith), flat_below F m l d (λ i s. h (suc i) (omega arith)))

from_below : (w x : ℕ) → all_below 256 (bytes_from w x) ≡ true
unfolding bytes_from all_below
from_below zero x = refl
from_below (suc w) x = rw (lt-ltb (x % 256) 256 (omega arith)) (from_below w (x / 256))

each_below : (w : ℕ) (xs : List ℕ) → all_below 256 (bytes_each w xs) ≡ true
unfolding bytes_each
each_below w xs = flat_below (bytes_from w) 256 xs 0 (λ i l. from_below w (get_or xs i 0))

gate_bytes_lem : (v : ℕ) (g : Gate) → all_below 256 (gate_bytes v g) ≡ true
unfolding gate_bytes all_below
gate_bytes_lem v g = rw (lt-ltb (kind_of g) 256 (kind-small g)) (each_below (layout_for v).field (operands_of g))
  where
    kind-small : (g : Gate) → kind_of g < 256
    kind-small (Input s) = unfold kind_of in omega arith
    kind-small (Add a b) = unfold kind_of in omega arith
    kind-small (Scale a c) = unfold kind_of in omega arith
    kind-small (Offset a c) = unfold kind_of in omega arith
    kind-small (Multiply a b) = unfold kind_of in omega arith
    kind-small Random = unfold kind_of in omega arith
    kind-small (Spend a b) = unfold kind_of in omega arith

out_bytes_lem : (o : Output) → o.party < 256 → all_below 256 (out_bytes o) ≡ true
unfolding out_bytes all_below
out_bytes_lem o l = rw (lt-ltb o.party 256 l) (each_below 2 (o.wire ∷ []))

contents_bytes : (v n t p G O : ℕ) → v < 256 → n < 256 → t < 256 → p < field_limit v → all_below 256 (contents v n t p G O) ≡ true
unfolding contents started counted magic all_below
contents_bytes v n t p G O q a b c =
    let w : ℕ = (layout_for v).field in
    let fields : List ℕ = place_in v 0 ∷ G ∷ out_start v G 0 ∷ O ∷ cond (eqb (layout_for v).point 0) [] (out_start v G O ∷ []) in
    let open_is : open_from w p ≡ bytes_from w p = open_bytes w p (rw (← limit_span v) c) (field-some v) in
    rw (lt-ltb v 256 q, lt-ltb n 256 a, lt-ltb t 256 b, open_is)
    (all_below-append 256 (bytes_from w p) (bytes_each w fields) ∙ rw (from_below w p) (each_below w fields))

-- a plan's file, whose n, t and p have room and whose outs' parties have
module _ (v : ℕ) (plan : Plan) (known : v < 256) (n-small : party_count plan < 256) (t-small : plan.t < 256) (fits : plan.p < field_limit v)
    (outs : (o : ℕ) → o < length plan.outs → (get_or plan.outs o no_out).party < 256) where
  pub file_below : all_below 256 (file_as v plan) ≡ true
  unfolding file_as gates_bytes points_bytes
  file_below =
      all_below-append 256 (contents v (party_count plan) plan.t plan.p (length plan.gates) (length plan.outs)) _
      ∙ rw (contents_bytes v (party_count plan) plan.t plan.p (length plan.gates) (length plan.outs) known n-small t-small fits)
      (all_below-append 256 (flat_map (gate_bytes v) plan.gates) _
      ∙ rw (flat_below (gate_bytes v) 256 plan.gates (Input 0) (λ g l. gate_bytes_lem v (get_or plan.gates g (Input 0))))
      (all_below-append 256 (flat_map out_bytes plan.outs) _
      ∙ rw (flat_below out_bytes 256 plan.outs no_out (λ o l. out_bytes_lem (get_or plan.outs o no_out) (outs o l))) (each_below (layout_for v).point plan.points)))

module _ (n t p : ℕ) (b : Bodies) (n-small : n ≤ 15) (t-small : t < 256) (p-small : p < 4294967296) (sound : Sound n p b) where
  pub file_bytes : all_below 256 (file_of_plan n t p b) ≡ true
  unfolding file_of_plan plan_with
  file_bytes =
      file_below (version_for p) (plan_with n t p b) (version_cases (λ v. v < 256) p (λ l. omega arith) (omega arith)) (rw (made_count n t p b) (omega arith)) t-small (fits_for p p-small)
      (λ o l. omega (arith, (out_parts n (length b.gates) (get_or b.outs o no_out) (sound.outs o l)).0))
