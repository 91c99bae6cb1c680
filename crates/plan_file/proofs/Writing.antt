-- What each way through the writer says of the bytes, and of refusals 3 to 6.
--     writing, sizing, checking     what closes the needs of the functions
-- Assumes nothing.
use Rattle.std.proofs.Common.{Option, Some, None, Ok, Err}
use Prim.Native.Nat.{ℕ, zero, suc, min, ◌+◌, ◌-◌, ◌*◌, ◌/◌, ◌%◌, ◌<◌, ◌≤◌}
use mathlib.Core.Path.{◌≡◌, refl, sym, ap, ◌∙◌}
use mathlib.Core.Bool.{Bool, true, false, cond, ◌&&◌}
use mathlib.Core.List.{List, [], ◌∷◌, ◌++◌, flat_map, append-nil}
use native.Mathlib.Decide.{dec_le}
use native.Mathlib.Nat.{mul-le-mul, min-le_left, min-le_right, min-eq_left, min-eq_right}
use borrow.Rule.Slice.PartMut.{put_mid}
use Rattle.std.proofs.lemmas.Slice.{put_mid-paste}
use native.Mathlib.Omega.{arith}
use native.Mathlib.Numerals.{add-one}
use borrow.Author.Rules.{rules}
use borrow.Author.Tests.{not-true, not-false, ltb-true, lt-ltb, le-ltb, eq-eqb, ne_eqb}
use lib.Dec.{eqb, leb, ltb}
use mir.Syntax.{w64}
use mir.Val.{Fits}
use lib.ListN.{length, get_or, take, drop, take-append-drop, drop_of_length-le}
use lib.Seq.{sets, sets-eq, length-sets, take-suc, take_all, length-take-le}
use Rattle.std.specs.Int.{to_le_bytes}
use Rattle.numbers.specs.Tables.{tab}
use Rattle.numbers.specs.Bytes.{bytes_from}
use Rattle.numbers.proofs.Bytes.{span, length-bytes_from, low_bytes}
use Rattle.numbers.proofs.Tables.{length-tab, get_or-tab}
use Rattle.numbers.proofs.Rows.{flat-length, flat_append, flat-snoc, sets-append, sets_all, sets_out}
use Rattle.field.specs.declared.Field.{Field}
use Rattle.field.specs.declared.Field.{Field}
use Rattle.plan.specs.declared.Output.{Output}
use Rattle.plan.specs.declared.Layout.{Layout}
use Rattle.plan.specs.declared.Refusal.TheVariants as refusal
use Rattle.plan.specs.Refusals.{and_then, first_of, need}
use Rattle.plan.specs.File.{magic, layout_for, gate_start, between, parties_ok, threshold_ok, field_above}
use Rattle.plan.proofs.Layouts.{layout_rows}
use Rattle.plan_reading.proofs.Ways.{above-not, above-is, modulus_in}
use Rattle.plan_file.specs.Bodies.{written, bytes_each, open_from, out_bytes, points_bytes, place_in, out_start, started, counted, contents, file_size, version_for, content_checks, field_limit}

-- ---- bytes
-- as many of them as there is room for
pub put_cut : (s vs ys : List ℕ) (at room : ℕ) → at < length s → room ≡ min (length vs) (length s - at) → ys ≡ take room vs → put_mid at (at + room - at) s ys ≡ written s at vs
unfolding written
put_cut s vs ys at room l e f =
    let few : room ≤ length vs = omega (arith, e, min-le_left (length vs) (length s - at)) in
    let fits : room ≤ length s - at = omega (arith, e, min-le_right (length vs) (length s - at)) in
    let long : length (take room vs) ≡ room = length-take-le room vs few in
    let one : put_mid at (at + room - at) s ys ≡ take at s ++ take room (take room vs) ++ drop (at + room) s = put_mid-paste at (at + room - at) s ys (take room vs) room f (omega arith) (sym long) in
    let some : sets s at (take room vs) ≡ take at s ++ take room vs ++ drop (at + room) s = sets-eq (take room vs) s at (omega arith) ∙ ap (λ (k : ℕ). take at s ++ take room vs ++ drop (at + k) s) long in
    let same : take room (take room vs) ≡ take room vs = take_all room (take room vs) (omega arith) in
    let all : sets s at vs ≡ sets (sets s at (take room vs)) (at + length (take room vs)) (drop room vs) = ap (sets s at) (sym (take-append-drop room vs)) ∙ sets-append s at (take room vs) (drop room vs) in
    let rest : sets (sets s at (take room vs)) (at + length (take room vs)) (drop room vs) ≡ sets s at (take room vs) = pick few long (dec_le (length vs) room) in
    one ∙ rw same (sym some ∙ sym (all ∙ rest))
  where
    pick : room ≤ length vs → length (take room vs) ≡ room → Dec (length vs ≤ room) → sets (sets s at (take room vs)) (at + length (take room vs)) (drop room vs) ≡ sets s at (take room vs)
    pick few long (yes k) = rw (drop_of_length-le vs {i = room} k)
    pick few long (no k) =
        let full : room ≡ length s - at = e ∙ min-eq_right (omega arith) in
        sets_out (sets s at (take room vs)) (at + length (take room vs)) (drop room vs) (omega (arith, length-sets s at (take room vs)))

pub put_whole : (s vs : List ℕ) (at : ℕ) → at < length s → length vs ≤ length s - at → put_mid at (at + length vs - at) s vs ≡ written s at vs
put_whole s vs at l f = put_cut s vs vs at (length vs) l (sym (min-eq_left f)) (sym (take_all (length vs) vs (omega arith)))

-- a number's low bytes, as many as a layout's width
pub written_low : (w width v at : ℕ) (s new bs : List ℕ) → w ≤ 4 → width ≡ w → bs ≡ to_le_bytes w64 v → new ≡ written s at (take w bs) → new ≡ written s at (bytes_from width v)
written_low w width v at s new bs l e is h = rw e (h ∙ ap (λ (ys : List ℕ). written s at (take w ys)) is ∙ ap (written s at) (low_bytes w v l))

pub put-past : (s : List ℕ) (at : ℕ) (vs : List ℕ) → length s ≤ at → s ≡ written s at vs
unfolding written
put-past s at vs l = sym (sets_out s at vs l)

-- bytes, then others right after them
pub written_then : (s s1 s2 vs ws : List ℕ) (at next : ℕ) → s1 ≡ written s at vs → s2 ≡ written s1 next ws → next ≡ at + length vs → s2 ≡ written s at (vs ++ ws)
unfolding written
written_then s s1 s2 vs ws at next e f n =
    f ∙ ap (λ (k : ℕ). sets s1 k ws) n ∙ ap (λ (r : List ℕ). sets r (at + length vs) ws) e ∙ sym (sets-append s at vs ws)

pub length-written : (s : List ℕ) (at : ℕ) (vs : List ℕ) → length (written s at vs) ≡ length s
unfolding written
length-written s at vs = length-sets s at vs

pub written-whole : (s vs : List ℕ) → length vs ≡ length s → written s 0 vs ≡ vs
unfolding written
written-whole s vs e = sets_all s vs e

pub start_put : (v n t : ℕ) (s s1 s2 : List ℕ) → s1 ≡ written s 0 (80 ∷ 79 ∷ 79 ∷ 76 ∷ []) → s2 ≡ written s1 4 (v ∷ n ∷ t ∷ 0 ∷ []) → s2 ≡ written s 0 (started v n t)
unfolding started magic
start_put v n t s s1 s2 a b = written_then s s1 s2 magic (v ∷ n ∷ t ∷ 0 ∷ []) 0 4 a b refl

-- ---- numbers one after the other
pub each-cons : (w x : ℕ) (xs : List ℕ) → bytes_each w (x ∷ xs) ≡ bytes_from w x ++ bytes_each w xs
unfolding bytes_each flat_map
each-cons w x xs = refl

pub each_long : (w : ℕ) (xs : List ℕ) → length (bytes_each w xs) ≡ w * length xs
unfolding bytes_each
each_long w xs = flat-length (bytes_from w) w (length-bytes_from w) xs

-- one more right after a number
each_then : (w : ℕ) (s s1 s2 : List ℕ) (at next x : ℕ) (xs : List ℕ) → s1 ≡ written s at (bytes_from w x) → s2 ≡ written s1 next (bytes_each w xs) → next ≡ at + w → s2 ≡ written s at (bytes_each w (x ∷ xs))
each_then w s s1 s2 at next x xs e f n =
    written_then s s1 s2 (bytes_from w x) (bytes_each w xs) at next e f (n ∙ ap (λ (k : ℕ). at + k) (sym (length-bytes_from w x))) ∙ ap (written s at) (sym (each-cons w x xs))

-- ---- what stands where
point_low : (v : ℕ) → (layout_for v).point ≤ 4
point_low = layout_rows (λ l. l.point ≤ 4) (omega arith) (omega arith) (omega arith)

field_low : (v : ℕ) → (layout_for v).field ≤ 4
field_low = layout_rows (λ l. l.field ≤ 4) (omega arith) (omega arith) (omega arith)

head_low : (v : ℕ) → (layout_for v).head ≤ 32
head_low = layout_rows (λ l. l.head ≤ 32) (omega arith) (omega arith) (omega arith)

module _ (v : ℕ) (l : Layout) (el : l ≡ layout_for v) where
  is_point : (layout_for v).point ≡ l.point
  is_point = ap (λ (x : Layout). x.point) (sym el)

  pub points_narrow : l.point ≤ 4
  points_narrow = rw el (point_low v)

  gates_le : (g : ℕ) → g ≤ 1024 → (2 + 2 * l.field) * g ≤ 10240
  gates_le g few = mul-le-mul {n₁ = 2 + 2 * l.field} {m₁ = g} {n₂ = 10} {m₂ = 1024} (let n : l.field ≤ 4 = rw el (field_low v) in omega arith) few

  pub gates-fit : (g : ℕ) → g ≤ 1024 → Fits w64 ((2 + 2 * l.field) * g)
  gates-fit g few = record { fits = omega (arith, gates_le g few) }

  pub place-fits : (g : ℕ) → g ≤ 1024 → Fits w64 (l.head + (2 + 2 * l.field) * g)
  place-fits g few = record { fits = let h : l.head ≤ 32 = rw el (head_low v) in omega (arith, gates_le g few) }

  pub place-le : (g : ℕ) → g ≤ 1024 → l.head + (2 + 2 * l.field) * g ≤ 10272
  place-le g few = let h : l.head ≤ 32 = rw el (head_low v) in omega (arith, gates_le g few)

  pub place_is : (g : ℕ) → l.head + (2 + 2 * l.field) * g ≡ place_in v g
  unfolding place_in gate_start
  place_is g = rw el

  points_le : (n most : ℕ) → n ≤ most → l.point * n ≤ 4 * most
  points_le n most few = mul-le-mul {n₁ = l.point} {m₁ = n} {n₂ = 4} {m₂ = most} points_narrow few

  pub points-fit : (n : ℕ) → n ≤ 256 → Fits w64 (l.point * n)
  points-fit n few = record { fits = omega (arith, points_le n 256 few) }

  pub point-fits : (at i : ℕ) → at ≤ 10464 → i ≤ 256 → Fits w64 (at + l.point * i)
  point-fits at i low few = record { fits = omega (arith, points_le i 256 few) }

  module _ (n gates outs at : ℕ) (ea : at ≡ out_start v gates outs) where
    pub size_is : at + l.point * n ≡ file_size v n gates outs
    unfolding file_size
    size_is = rw (ea, el)

    pub size-le : at ≤ 10464 → n ≤ 15 → at + l.point * n ≤ 10524
    size-le low few = omega (arith, points_le n 15 few)

  -- a field
  fields_le : (k : ℕ) → k < 6 → l.field * k ≤ 24
  fields_le k few = mul-le-mul {n₁ = l.field} {m₁ = k} {n₂ = 4} {m₂ = 6} (rw el (field_low v)) (omega arith)

  pub fields-fit : (k : ℕ) → k < 6 → Fits w64 (l.field * k)
  fields-fit k few = record { fits = omega (arith, fields_le k few) }

  pub field-fits : (k : ℕ) → k < 6 → Fits w64 (8 + l.field * k)
  field-fits k few = record { fits = omega (arith, fields_le k few) }

  pub field-put : (s new : List ℕ) (k x : ℕ) → new ≡ written s (8 + l.field * k) (bytes_from l.field x) → new ≡ written s (8 + (layout_for v).field * k) (bytes_from (layout_for v).field x)
  field-put s new k x h = rw (← el) h

  -- the points' offset
  module _ (s : List ℕ) (at : ℕ) where
    pub offset-none : l.point ≡ 0 → s ≡ written s (8 + (layout_for v).field * 5) (bytes_each (layout_for v).field (cond (eqb (layout_for v).point 0) [] (at ∷ [])))
    unfolding bytes_each flat_map written
    offset-none e = rw (eq-eqb (layout_for v).point 0 (is_point ∙ e))

    pub offset-some : (new : List ℕ) → (l.point ≡ 0 → ⊥) → new ≡ written s (8 + (layout_for v).field * 5) (bytes_from (layout_for v).field at)
        → new ≡ written s (8 + (layout_for v).field * 5) (bytes_each (layout_for v).field (cond (eqb (layout_for v).point 0) [] (at ∷ [])))
    unfolding bytes_each flat_map
    offset-some new h e =
        rw (ne_eqb (layout_for v).point 0 (λ z. h (sym is_point ∙ z))) (e ∙ ap (written s (8 + (layout_for v).field * 5)) (sym (append-nil (bytes_from (layout_for v).field at))))

  -- a gate's fields
  module _ (g long : ℕ) where
    pub gate-room : g ≤ long / 6 → long < 9223372036854775808 → l.head + (2 + 2 * l.field) * g ≤ 15372286728091293056
    gate-room = rw el (layout_rows (λ (w : Layout). g ≤ long / 6 → long < 9223372036854775808 → w.head + (2 + 2 * w.field) * g ≤ 15372286728091293056) (λ h m. omega arith) (λ h m. omega arith) (λ h m. omega arith) v)

    pub gate-room-fits : g ≤ long / 6 → long < 9223372036854775808 → Fits w64 ((2 + 2 * l.field) * g)
    gate-room-fits h m = record { fits = omega (arith, gate-room h m) }

    past-room : long / 6 < g → long ≤ l.head + (2 + 2 * l.field) * g
    past-room = rw el (layout_rows (λ (w : Layout). long / 6 < g → long ≤ w.head + (2 + 2 * w.field) * g) (λ h. omega arith) (λ h. omega arith) (λ h. omega arith) v)

  pub gate-past : (s : List ℕ) (g k a b : ℕ) → length s / 6 < g → s ≡ written s (place_in v g) (k ∷ 0 ∷ bytes_each (layout_for v).field (a ∷ b ∷ []))
  gate-past s g k a b h = rw (← place_is g) (put-past s (l.head + (2 + 2 * l.field) * g) (k ∷ 0 ∷ bytes_each (layout_for v).field (a ∷ b ∷ [])) (past-room g (length s) h))

  pub fields_put : (s s1 s2 s3 : List ℕ) (g k a b : ℕ) → s1 ≡ written s (l.head + (2 + 2 * l.field) * g) (k ∷ 0 ∷ []) → s2 ≡ written s1 (l.head + (2 + 2 * l.field) * g + 2) (bytes_from l.field a)
      → s3 ≡ written s2 (l.head + (2 + 2 * l.field) * g + 2 + l.field) (bytes_from l.field b) → s3 ≡ written s (place_in v g) (k ∷ 0 ∷ bytes_each (layout_for v).field (a ∷ b ∷ []))
  fields_put s s1 s2 s3 g k a b e f h =
      let at : ℕ = l.head + (2 + 2 * l.field) * g in
      rw (← place_is g, ← el) (
      written_then s s1 s3 (k ∷ 0 ∷ []) (bytes_each l.field (a ∷ b ∷ [])) at (at + 2) e
      (each_then l.field s1 s2 s3 (at + 2) (at + 2 + l.field) a (b ∷ []) f (h ∙ ap (written s2 (at + 2 + l.field)) (unfold bytes_each in unfold flat_map in sym (append-nil (bytes_from l.field b)))) refl) refl)

  -- a point
  pub point_put : (s new : List ℕ) (at i x : ℕ) → new ≡ written s (at + l.point * i) (bytes_from l.point x) → new ≡ written s (at + (layout_for v).point * i) (bytes_from (layout_for v).point x)
  point_put s new at i x h = rw (← el) h

pub out_starts : (v gates o at : ℕ) → at ≡ place_in v gates → at + 3 * o ≡ out_start v gates o
unfolding out_start
out_starts v gates o at e = rw e

pub version_first : (p : ℕ) → p < 65536 → 1 ≡ version_for p
unfolding version_for
version_first p l = rw (lt-ltb p 65536 l)

pub version_third : (p : ℕ) → 65536 ≤ p → 3 ≡ version_for p
unfolding version_for
version_third p l = rw (le-ltb p 65536 l)

pub version_low : (p : ℕ) → version_for p < 256
unfolding version_for
version_low p = by (ltb p 65536)
  where
    by : (x : Bool) → cond x 1 3 < 256
    by true = omega arith
    by false = omega arith

-- As it is: answers name this set, since the check leaves their goals open by `using` alone.
pub ruleset sizing = (rules, version_first, version_third, gates-fit, place-fits, place-le, place_is, points-fit, point-fits, size_is, size-le, out_starts)

pub pair_put : (v k a b : ℕ) (s s1 s2 : List ℕ) → s1 ≡ written s (8 + (layout_for v).field * k) (bytes_from (layout_for v).field a)
    → s2 ≡ written s1 (8 + (layout_for v).field * (k + 1)) (bytes_from (layout_for v).field b) → s2 ≡ written s (8 + (layout_for v).field * k) (bytes_each (layout_for v).field (a ∷ b ∷ []))
pair_put v k a b s s1 s2 e f =
    let w : ℕ = (layout_for v).field in
    each_then w s s1 s2 (8 + w * k) (8 + w * (k + 1)) a (b ∷ []) e (f ∙ ap (written s1 (8 + w * (k + 1))) (unfold bytes_each in unfold flat_map in sym (append-nil (bytes_from w b)))) (omega arith)

-- numbers right after numbers
several_then : (w : ℕ) (s s1 s2 : List ℕ) (at next : ℕ) (xs ys : List ℕ) → s1 ≡ written s at (bytes_each w xs) → s2 ≡ written s1 next (bytes_each w ys) → next ≡ at + w * length xs → s2 ≡ written s at (bytes_each w (xs ++ ys))
several_then w s s1 s2 at next xs ys e f n =
    written_then s s1 s2 (bytes_each w xs) (bytes_each w ys) at next e f (n ∙ ap (λ (k : ℕ). at + k) (sym (each_long w xs)))
    ∙ ap (written s at) (unfold bytes_each in sym (flat_append (bytes_from w) xs ys))

pub counts_put :
    (v gates outs a b c : ℕ) (s s1 s2 s3 : List ℕ) → a ≡ place_in v 0 → b ≡ out_start v gates 0 → c ≡ out_start v gates outs
    → s1 ≡ written s (8 + (layout_for v).field * 1) (bytes_each (layout_for v).field (a ∷ gates ∷ []))
    → s2 ≡ written s1 (8 + (layout_for v).field * 3) (bytes_each (layout_for v).field (b ∷ outs ∷ []))
    → s3 ≡ written s2 (8 + (layout_for v).field * 5) (bytes_each (layout_for v).field (cond (eqb (layout_for v).point 0) [] (c ∷ [])))
    → s3 ≡ written s (8 + (layout_for v).field) (counted v gates outs)
unfolding counted
counts_put v gates outs a b c s s1 s2 s3 ea eb ec e1 e2 e3 =
    let w : ℕ = (layout_for v).field in
    let last : List ℕ = cond (eqb (layout_for v).point 0) [] (c ∷ []) in
    let start : 8 + w * 1 ≡ 8 + w = omega arith in
    let all : s3 ≡ written s (8 + w * 1) (bytes_each w (a ∷ gates ∷ b ∷ outs ∷ last)) =
    several_then w s s1 s3 (8 + w * 1) (8 + w * 3) (a ∷ gates ∷ []) (b ∷ outs ∷ last) e1
    (several_then w s1 s2 s3 (8 + w * 3) (8 + w * 5) (b ∷ outs ∷ []) last e2 e3 (omega arith)) (omega arith)
    in
    rw (← ea, ← eb, ← ec) (all ∙ ap (λ (k : ℕ). written s k (bytes_each w (a ∷ gates ∷ b ∷ outs ∷ last))) start)

-- ---- p
pub limit_span : (v : ℕ) → field_limit v ≡ span (layout_for v).field
unfolding field_limit span
limit_span v = layout_rows (λ l. cond (eqb l.field 2) 65536 4294967296 ≡ span l.field) (unfold span in refl) (unfold span in refl) (unfold span in refl) v

pub field-some : (v : ℕ) → 0 < (layout_for v).field
field-some = layout_rows (λ l. 0 < l.field) (omega arith) (omega arith) (omega arith)

pub open_bytes : (w x : ℕ) → x < span w → 0 < w → open_from w x ≡ bytes_from w x
unfolding open_from bytes_from span
open_bytes zero x l h = absurd (omega arith)
open_bytes (suc zero) x l h = let e : x ≡ x % 256 = omega arith in ap (λ (y : ℕ). y ∷ []) e
open_bytes (suc (suc w)) x l h = ap (λ (ys : List ℕ). x % 256 ∷ ys) (open_bytes (suc w) (x / 256) (unfold span in omega arith) (omega arith))

pub length_open : (w x : ℕ) → length (open_from w x) ≡ w
unfolding open_from
length_open zero x = refl
length_open (suc zero) x = refl
length_open (suc (suc w)) x = ap suc (length_open (suc w) (x / 256))

pub contents_put : (v n t p gates outs : ℕ) (s s1 s2 s3 : List ℕ) → p < field_limit v → s1 ≡ written s 0 (started v n t)
    → s2 ≡ written s1 (8 + (layout_for v).field * 0) (bytes_from (layout_for v).field p)
    → s3 ≡ written s2 (8 + (layout_for v).field) (counted v gates outs) → s3 ≡ written s 0 (contents v n t p gates outs)
unfolding contents
contents_put v n t p gates outs s s1 s2 s3 l a b c =
    let w : ℕ = (layout_for v).field in
    let opened : bytes_from w p ≡ open_from w p = sym (open_bytes w p (rw (← limit_span v) l) (field-some v)) in
    let eight : length (started v n t) ≡ 8 = unfold started in unfold magic in refl in
    let zeroth : 8 + w * 0 ≡ 8 = omega arith in
    let b' : s2 ≡ written s1 8 (open_from w p) = b ∙ rw (zeroth, opened) in
    written_then s s1 s3 (started v n t) (open_from w p ++ counted v gates outs) 0 8 a
    (written_then s1 s2 s3 (open_from w p) (counted v gates outs) 8 (8 + w) b' c (ap (λ (k : ℕ). 8 + k) (sym (length_open w p)))) (omega (arith, eight))

pub fits_for : (p : ℕ) → p < 4294967296 → p < field_limit (version_for p)
unfolding version_for field_limit layout_for
fits_for p l = pick (ltb p 65536) refl
  where
    pick : (b : Bool) → ltb p 65536 ≡ b → p < cond (eqb (layout_for (cond b 1 3)).field 2) 65536 4294967296
    pick true e = ltb-true p 65536 e
    pick false e = l

-- ---- outs
pub out_put : (s s1 s2 : List ℕ) (v gates o at : ℕ) (x : Output) → at ≡ out_start v gates o → s1 ≡ written s at (x.party ∷ []) → s2 ≡ written s1 (at + 1) (bytes_from 2 x.wire)
    → s2 ≡ written s (out_start v gates o) (out_bytes x)
unfolding out_bytes bytes_each flat_map
out_put s s1 s2 v gates o at x ea e f =
    rw (← ea)
    (written_then s s1 s2 (x.party ∷ []) (bytes_from 2 x.wire) at (at + 1) e f (omega arith)
    ∙ ap (λ (ys : List ℕ). written s at (x.party ∷ ys)) (sym (append-nil (bytes_from 2 x.wire))))

pub ruleset writing = (rules, put-past, put_cut, put_whole, low_bytes, points_narrow, start_put, fields-fit, field-fits, field-put, offset-none, offset-some, pair_put, counts_put, contents_put, gate-room, gate-room-fits, gate-past, fields_put, out_put, points-fit, point-fits, point_put)

-- ---- points
-- so many are written
pub record Pointed (v at : ℕ) (points s₀ : List ℕ) (i : ℕ) (s : List ℕ) : Type 0 where
  pub within : i ≤ length points
  pub is : s ≡ written s₀ at (points_bytes v (take i points))

module _ (v at : ℕ) (points s₀ : List ℕ) where
  pub points_begin : Pointed v at points s₀ 0 s₀
  unfolding points_bytes bytes_each flat_map written
  points_begin = record { within = omega arith; is = refl }

  pub points_next : (i : ℕ) (s new : List ℕ) → Pointed v at points s₀ i s → i < length points → new ≡ written s (at + (layout_for v).point * i) (bytes_from (layout_for v).point (get_or points i 0)) → Pointed v at points s₀ (i + 1) new
  unfolding points_bytes bytes_each
  points_next i s new h l e =
      let w : ℕ = (layout_for v).point in
      let next : at + w * i ≡ at + length (flat_map (bytes_from w) (take i points)) = ap (λ (k : ℕ). at + k) (sym (flat-length (bytes_from w) w (length-bytes_from w) (take i points) ∙ ap (λ (k : ℕ). w * k) (length-take-le i points (omega arith)))) in
      record {
        within = omega arith;
        is =
            written_then s₀ s new (flat_map (bytes_from w) (take i points)) (bytes_from w (get_or points i 0)) at (at + w * i) h.is e next
            ∙ ap (written s₀ at) (sym (ap (flat_map (bytes_from w)) (ap (λ (k : ℕ). take k points) (add-one i) ∙ take-suc points i 0 l) ∙ flat-snoc (bytes_from w) (take i points) (get_or points i 0)));
      }

  pub points_end : (i : ℕ) (s : List ℕ) → Pointed v at points s₀ i s → length points ≤ i → s ≡ written s₀ at (points_bytes v points)
  points_end i s h l = h.is ∙ ap (λ (ps : List ℕ). written s₀ at (points_bytes v ps)) (take_all i points l)

pub points_same : (v at : ℕ) (points s₀ s : List ℕ) (i : ℕ) → Pointed v at points s₀ i s → length s ≡ length s₀
points_same v at points s₀ s i h = ap length h.is ∙ length-written s₀ at (points_bytes v (take i points))

-- points 1 to n
module _ (v at n : ℕ) (s₀ : List ℕ) where
  pub first_next : (i : ℕ) (s new : List ℕ) → Pointed v at (tab suc n) s₀ i s → i < n → new ≡ written s (at + (layout_for v).point * i) (bytes_from (layout_for v).point (i + 1))
      → Pointed v at (tab suc n) s₀ (i + 1) new
  first_next i s new h l e =
      points_next v at (tab suc n) s₀ i s new h (rw (length-tab suc n) l) (e ∙ ap (λ (x : ℕ). written s (at + (layout_for v).point * i) (bytes_from (layout_for v).point x)) (add-one i ∙ sym (get_or-tab suc n i 0 l)))

  pub first_end : (i : ℕ) (s : List ℕ) → Pointed v at (tab suc n) s₀ i s → n ≤ i → s ≡ written s₀ at (points_bytes v (tab suc n))
  first_end i s h l = points_end v at (tab suc n) s₀ i s h (rw (length-tab suc n) l)

-- As it is: answers name this set, since the check leaves their goals open by `using` alone.
pub ruleset pointing = (rules, points_begin, points_next, points_end, points_same, first_next, first_end)

-- ---- refusals 3 to 6
module _ (gates outs : ℕ) (x : Bool) (ex : x ≡ between 1 1024 gates) where
  pub counts-not : x ≡ false → false ≡ (between 1 1024 gates && leb outs 64)
  counts-not h = rw (← ex, h)

  pub counts_on : (y : Bool) → x ≡ true → y ≡ leb outs 64 → y ≡ (between 1 1024 gates && leb outs 64)
  counts_on y h e = rw (← ex, h) e

module _ (n t p gates outs : ℕ) (x : Bool) (ex : x ≡ parties_ok n) where
  pub check-parties : x ≡ false → Err refusal.Parties ≡ first_of (content_checks n t p gates outs)
  unfolding content_checks first_of and_then need
  check-parties h = rw (← ex, h)

  module _ (hx : x ≡ true) (y : Bool) (ey : y ≡ threshold_ok n t) where
    pub check-threshold : y ≡ false → Err refusal.Threshold ≡ first_of (content_checks n t p gates outs)
    unfolding content_checks first_of and_then need
    check-threshold h = rw (← ex, hx, ← ey, h)

    module _ (hy : y ≡ true) (m : Option Field) (em : modulus_in m ≡ field_above n p) where
      pub check-modulus : m ≡ None → Err refusal.Modulus ≡ first_of (content_checks n t p gates outs)
      unfolding content_checks first_of and_then need
      check-modulus h = rw (← ex, hx, ← ey, hy, above-not n p (sym em ∙ ap modulus_in h))

      module _ (f : Field) (hf : m ≡ Some f) (z : Bool) (ez : z ≡ (between 1 1024 gates && leb outs 64)) where
        pub check-counts : z ≡ false → Err refusal.Layout ≡ first_of (content_checks n t p gates outs)
        unfolding content_checks first_of and_then need
        check-counts h = rw (← ex, hx, ← ey, hy, (above-is n p f.p (sym em ∙ ap modulus_in hf)).0, ← ez, h)

        pub check-passed : z ≡ true → (Ok tt) ≡ first_of (content_checks n t p gates outs)
        unfolding content_checks first_of and_then need
        check-passed h = rw (← ex, hx, ← ey, hy, (above-is n p f.p (sym em ∙ ap modulus_in hf)).0, ← ez, h)

-- As it is: answers name this set, since the check leaves their goals open by `using` alone.
pub ruleset checking = (rules, not-true, not-false, counts-not, counts_on, check-parties, check-threshold, check-modulus, check-counts, check-passed)
