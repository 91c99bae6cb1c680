-- The code of the opening rows: writing them one after the other, and the check of a list of shares by them.
--     Written, writing        the loop that writes the rows
--     row_at                  a row of the table
--     Checked, checking       the loop over the parties
-- Assumes nothing.
use Rattle.std.proofs.Common.{Some, None}
use mathlib.Core.Path.{◌≡◌, refl, sym, ap, ◌∙◌}
use mathlib.Core.Logic.{⊎_elim}
use mathlib.Core.Bool.{true}
use mathlib.Core.List.{List, ◌++◌}
use Prim.Native.Nat.{ℕ, zero, suc, ◌+◌, ◌-◌, ◌*◌, ◌^◌, ◌<◌, ◌≤◌}
use native.Mathlib.Numerals.{add-one}
use native.Mathlib.Nat.{mul-suc, add-sub_cancel_left, eq-or-lt_of_le}
use native.Mathlib.Omega.{arith}
use borrow.Author.Rules.{rules}
use borrow.Author.Tests.{eq-eqb, ne_eqb}
use lib.ListN.{length, take, drop, get_or, length-append, length-drop}
use lib.Seq.{take_all, take-append-add, take-append-le, drop-append-le, drop_at, take_at, length-take-le}
use mir.Syntax.{w64}
use mir.Val.{Fits}
use Rattle.numbers.specs.Bytes.{all_below}
use Rattle.numbers.proofs.Tables.{row_room}
use Rattle.numbers.proofs.Below.{all_below-take}
use Rattle.numbers.proofs.Searches.{Seeking, begin, found, passed, nothing}
use Rattle.field.specs.Prime.{Prime}
use Rattle.field.specs.Field.{Is, Ready}
use Rattle.sharing_openings.specs.Openable.{Checkable}
use Rattle.field.proofs.Solve.{canon-lt}
use Rattle.field.proofs.Inverse.{pos}
use Rattle.sharing_laws.specs.Interp.{weight, weights, dot, interpolate}
use Rattle.sharing_laws.specs.Sharing.{first_off, rows_of, opening_row, opening_rows}
use Rattle.sharing_laws.proofs.Alls.{length_first, map_below}
use Rattle.sharing_laws.proofs.Interpolation.{length-weights}
use Rattle.sharing_laws.proofs.OffLine.{agrees}
use Rattle.sharing.proofs.Coding.{entry_below}
use Rattle.sharing.proofs.Weighing.{weight_canon}

-- ---- lists of elements
pub weights_below : {p : ℕ} → Prime p → (z : ℕ) (xs : List ℕ) → all_below p (weights p z xs) ≡ true
unfolding weights
weights_below {p} prime z xs = map_below p (weight p z xs) xs (λ x. canon-lt (pos prime) (weight_canon prime z xs x))

pub length-row : (p t : ℕ) (points : List ℕ) (i : ℕ) → t < length points → length (opening_row p t points i) ≡ t + 1
unfolding opening_row
length-row p t points i l = length-weights p (get_or points i 0) (take (t + 1) points) ∙ length-take-le (t + 1) points (omega arith)

-- ---- the loop that writes rows of k entries: j of them stand
pub record Written (g : ℕ → List ℕ) (k n : ℕ) (d₀ d : List ℕ) (j : ℕ) : Type 0 where
  pub within : j ≤ n
  pub size : length d₀ ≡ k * n
  pub long : length d ≡ length d₀
  pub front : take (k * j) d ≡ rows_of g j

pub none_written : (g : ℕ → List ℕ) (k n : ℕ) (d : List ℕ) → length d ≡ k * n → Written g k n d d 0
unfolding rows_of
none_written g k n d e = let z : k * 0 ≡ 0 = omega arith in record { within = omega arith; size = e; long = refl; front = rw z }

next_at : (k j : ℕ) → k * (j + 1) ≡ k * j + k
next_at k j = rw (add-one, mul-suc)

module _ {g : ℕ → List ℕ} {k n : ℕ} {d₀ d : List ℕ} {j : ℕ} (h : Written g k n d₀ d j) (l : j < n) where
  pub room : k * j + k ≤ length d
  room = omega (arith, h.size, h.long, row_room k j n l)

  pub piece_long : length (take (k * j + k - k * j) (drop (k * j) d)) ≡ k
  piece_long = rw add-sub_cancel_left (length-take-le k (drop (k * j) d) (rw length-drop (omega (arith, room))))

  module _ (ys : List ℕ) (kept : length ys ≡ length (take (k * j + k - k * j) (drop (k * j) d))) (is : ys ≡ g j) where
    after : List ℕ
    after = take (k * j) d ++ (ys ++ drop (k * j + k - k * j) (drop (k * j) d))

    seam : take (k * j + k) after ≡ take (k * j) d ++ ys
    unfolding after
    seam =
        let q : length (take (k * j) d) ≡ k * j = length-take-le (k * j) d (omega (arith, room)) in
        let s : length ys ≡ k * j + k - k * j = omega (arith, kept, piece_long) in
        let r : k * j + k ≡ length (take (k * j) d) + (k * j + k - k * j) = omega arith in
        ap (λ (m : ℕ). take m (take (k * j) d ++ (ys ++ drop (k * j + k - k * j) (drop (k * j) d)))) r
        ∙ take-append-add (take (k * j) d) (ys ++ drop (k * j + k - k * j) (drop (k * j) d)) (k * j + k - k * j)
        ∙ ap (λ (t : List ℕ). take (k * j) d ++ t) (take_at ys (drop (k * j + k - k * j) (drop (k * j) d)) (k * j + k - k * j) s)

    same-long : length after ≡ length d
    unfolding after
    same-long = simp (length-append, length-drop) (omega (arith, room, kept, piece_long, length-take-le (k * j) d (omega (arith, room))))

    pub written_next : Written g k n d₀ (take (k * j) d ++ (ys ++ drop (k * j + k - k * j) (drop (k * j) d))) (j + 1)
    unfolding after rows_of
    written_next = record {
      within = omega arith;
      size = h.size;
      long = same-long ∙ h.long;
      front = ap (λ (m : ℕ). take m (take (k * j) d ++ (ys ++ drop (k * j + k - k * j) (drop (k * j) d)))) (next_at k j) ∙ seam ∙ rw (add-one, h.front, is);
    }

pub written_done : (g : ℕ → List ℕ) (k n : ℕ) (d₀ d : List ℕ) (j : ℕ) → n ≤ j → Written g k n d₀ d j → d ≡ rows_of g n
written_done g k n d₀ d j l h =
    let q : j ≡ n = omega (arith, h.within) in
    let r : k * j ≡ k * n = ap (λ (i : ℕ). k * i) q in
    sym (take_all (k * j) d (omega (arith, h.size, h.long))) ∙ h.front ∙ ap (rows_of g) q

-- ---- the opening rows
row_is : (p t : ℕ) (points : List ℕ) (i : ℕ) → weights p (get_or points i 0) (take (t + 1) points) ≡ opening_row p t points i
unfolding opening_row
row_is p t points i = refl

module _ (p t : ℕ) (points d₀ d : List ℕ) (i : ℕ) (h : Written (opening_row p t points) (t + 1) (length points) d₀ d i) where
  pub row_end : i < length points → (t + 1) * i + (t + 1) ≤ length d
  row_end l = room h l

  pub row_fits : i < length points → length d₀ < 2 ^ 64 → (t + 1) * i + (t + 1) < 2 ^ 64
  row_fits l f = omega (arith, room h l, h.long)

  pub start_fits : i < length points → length d₀ < 2 ^ 64 → (t + 1) * i < 2 ^ 64
  start_fits l f = omega (arith, room h l, h.long)

  pub place_fits : i < length points → length d₀ * 8 < 2 ^ 63 → Fits w64 ((t + 1) * i * 8)
  place_fits l f = record { fits = omega (arith, room h l, h.long) }

  pub row_sized : i < length points → t < length points → length (take ((t + 1) * i + (t + 1) - (t + 1) * i) (drop ((t + 1) * i) d)) ≡ length (take (t + 1) points)
  row_sized l m = piece_long h l ∙ sym (length-take-le (t + 1) points (omega arith))

  pub row_written : (ys : List ℕ) → i < length points → length ys ≡ length (take ((t + 1) * i + (t + 1) - (t + 1) * i) (drop ((t + 1) * i) d)) → ys ≡ weights p (get_or points i 0) (take (t + 1) points) → Written (opening_row p t points) (t + 1) (length points) d₀ (take ((t + 1) * i) d ++ (ys ++ drop ((t + 1) * i + (t + 1) - (t + 1) * i) (drop ((t + 1) * i) d))) (i + 1)
  row_written ys l kept is = written_next h l ys kept (is ∙ row_is p t points i)

  pub rows_written : length points ≤ i → d ≡ opening_rows p t points
  unfolding opening_rows
  rows_written l = written_done (opening_row p t points) (t + 1) (length points) d₀ d i l h

pub ruleset writing = (rules, entry_below, all_below-take, none_written, row_end, row_fits, start_fits, place_fits, length_first, row_sized, row_written, rows_written)

-- ---- a row of the table
module _ (g : ℕ → List ℕ) (k : ℕ) (each : (j : ℕ) → length (g j) ≡ k) where
  pub length_rows : (n : ℕ) → length (rows_of g n) ≡ k * n
  unfolding rows_of
  length_rows zero = omega arith
  length_rows (suc n) = length-append (rows_of g n) (g n) ∙ omega (arith, length_rows n, each n, mul-suc k n)

  row_last : (n : ℕ) → take k (drop (k * n) (rows_of g (suc n))) ≡ g n
  unfolding rows_of
  row_last n = rw (drop_at (rows_of g n) (g n) (k * n) (length_rows n)) (take_all k (g n) (omega (arith, each n)))

  row_before : (n i : ℕ) → i < n → take k (drop (k * i) (rows_of g n)) ≡ g i → take k (drop (k * i) (rows_of g (suc n))) ≡ g i
  unfolding rows_of
  row_before n i l h =
      let fits : k * i + k ≤ length (rows_of g n) = omega (arith, row_room k i n l, length_rows n) in
      rw (drop-append-le (k * i) (rows_of g n) (g n) (omega arith), take-append-le k (drop (k * i) (rows_of g n)) (g n) (rw length-drop (omega arith))) h

  pub row_at : (n i : ℕ) → i < n → take k (drop (k * i) (rows_of g n)) ≡ g i
  row_at zero i l = absurd (omega arith)
  row_at (suc n) i l = ⊎_elim (λ (e : i ≡ n). rw e (row_last n)) (λ (m : i < n). row_before n i m (row_at n i m)) (eq-or-lt_of_le {n = i} {m = n} (omega arith))

-- ---- the loop over the parties
module _ (p t : ℕ) (points shares : List ℕ) where
  pub check_begin : Seeking (agrees p t points shares) (length points) 0
  check_begin = begin (agrees p t points shares) (length points)

  pub check_end : (i : ℕ) → Seeking (agrees p t points shares) (length points) i → length points ≤ i → None ≡ first_off p t points shares
  unfolding first_off
  check_end i h l = nothing (agrees p t points shares) (length points) i h l

  module _ (rows : List ℕ) (i : ℕ) (c : Checkable p t points rows) (l : i < length points) where
    long-rows : length rows ≡ (t + 1) * length points
    unfolding opening_rows
    long-rows = ap length c.weights ∙ length_rows (opening_row p t points) (t + 1) (λ j. length-row p t points j c.threshold) (length points)

    pub row_within : (t + 1) * i + (t + 1) ≤ length rows
    row_within = omega (arith, long-rows, row_room (t + 1) i (length points) l)

    pub end_fits : length rows * 8 < 2 ^ 63 → Fits w64 ((t + 1) * i + (t + 1))
    end_fits f = record { fits = omega (arith, row_within) }

    pub begin_fits : length rows * 8 < 2 ^ 63 → Fits w64 ((t + 1) * i)
    begin_fits f = record { fits = omega (arith, row_within) }

    pub bytes_fit : length rows * 8 < 2 ^ 63 → Fits w64 ((t + 1) * i * 8)
    bytes_fit f = record { fits = omega (arith, row_within) }

    part-is : take ((t + 1) * i + (t + 1) - (t + 1) * i) (drop ((t + 1) * i) rows) ≡ weights p (get_or points i 0) (take (t + 1) points)
    unfolding opening_rows opening_row
    part-is = rw (add-sub_cancel_left, c.weights) (row_at (opening_row p t points) (t + 1) (λ j. length-row p t points j c.threshold) (length points) i l)

    part-long : length (take ((t + 1) * i + (t + 1) - (t + 1) * i) (drop ((t + 1) * i) rows)) ≡ t + 1
    part-long = ap length part-is ∙ length-weights p (get_or points i 0) (take (t + 1) points) ∙ length_first t points c.threshold

    pub part_below : Ready p → all_below p (take ((t + 1) * i + (t + 1) - (t + 1) * i) (drop ((t + 1) * i) rows)) ≡ true
    part_below r = rw part-is (weights_below r.prime (get_or points i 0) (take (t + 1) points))

    pub part-short : length shares ≡ length points → length (take ((t + 1) * i + (t + 1) - (t + 1) * i) (drop ((t + 1) * i) rows)) ≤ length shares
    part-short s = omega (arith, part-long, c.threshold)

    pub part_small : length (take ((t + 1) * i + (t + 1) - (t + 1) * i) (drop ((t + 1) * i) rows)) ≤ 65536
    part_small = omega (arith, part-long, c.threshold, c.few)

    value-is : (v : ℕ) → Is p (dot p (take ((t + 1) * i + (t + 1) - (t + 1) * i) (drop ((t + 1) * i) rows)) shares) v → v ≡ interpolate p (get_or points i 0) (take (t + 1) points) shares
    unfolding interpolate
    value-is v is = is.eq ∙ ap (λ (ws : List ℕ). dot p ws shares) part-is

    module _ (h : Seeking (agrees p t points shares) (length points) i) where
      pub check-off : (v : ℕ) → Is p (dot p (take ((t + 1) * i + (t + 1) - (t + 1) * i) (drop ((t + 1) * i) rows)) shares) v → (v ≡ get_or shares i 0 → ⊥) → Some i ≡ first_off p t points shares
      unfolding first_off
      check-off v is off = found (agrees p t points shares) (length points) i h l (rw (← value-is v is) (ne_eqb (get_or shares i 0) v (λ q. off (sym q))))

      pub check-on : (v : ℕ) → Is p (dot p (take ((t + 1) * i + (t + 1) - (t + 1) * i) (drop ((t + 1) * i) rows)) shares) v → v ≡ get_or shares i 0 → Seeking (agrees p t points shares) (length points) (i + 1)
      check-on v is on = passed (agrees p t points shares) (length points) i h l (rw (← value-is v is) (eq-eqb (get_or shares i 0) v (sym on)))

-- a share's place is a point's
pub place_of : (points shares : List ℕ) (i : ℕ) → length shares ≡ length points → i < length shares → i < length points
place_of points shares i e l = omega arith

pub past_all : (points shares : List ℕ) (i : ℕ) → length shares ≡ length points → length shares ≤ i → length points ≤ i
past_all points shares i e l = omega arith

pub ruleset checking = (rules, check_begin, check_end, row_within, end_fits, begin_fits, bytes_fit, part_below, part-short, part_small, check-off, check-on, place_of, past_all)
