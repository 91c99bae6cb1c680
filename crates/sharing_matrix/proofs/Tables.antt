-- The code that writes tables row by row.
--     laying         the basis polynomials
-- Assumes nothing.
use mathlib.Core.Path.{◌≡◌, refl, sym, ap, ◌∙◌}
use mathlib.Core.Bool.{true}
use mathlib.Core.List.{List, ◌++◌, flat_map}
use Prim.Native.Nat.{ℕ, zero, suc, ◌+◌, ◌-◌, ◌*◌, ◌^◌, ◌≤◌, ◌<◌}
use native.Mathlib.Nat.{add-sub_cancel_left}
use native.Mathlib.Omega.{arith}
use borrow.Author.Rules.{rules}
use lib.ListN.{length, take, drop, get_or, length-append}
use lib.Seq.{take_all, take-suc}
use mir.Syntax.{w64}
use mir.Val.{Fits}
use Rattle.numbers.specs.Bytes.{all_below}
use Rattle.std.proofs.lemmas.List.{length-take, length-replicate}
use Rattle.numbers.proofs.Below.{all_below-take}
use Rattle.numbers.proofs.Tables.{row_room}
use Rattle.numbers.proofs.Rows.{flat-snoc, flat-length, flat-part}
use Rattle.field.specs.Field.{Ready}
use Rattle.sharing_laws.specs.Poly.{padded}
use Rattle.sharing_laws.specs.Sharing.{rows_of}
use Rattle.sharing_laws.specs.Basis.{basis}
use Rattle.sharing_laws.proofs.Elements.{basis-below, padded-below}
use Rattle.sharing.proofs.Coding.{entry_below}
use Rattle.sharing_openings.proofs.Rows.{Written, none_written, room, piece_long, written_next, written_done}
use Rattle.sharing_matrix.specs.Matrix.{low_basis, bases, Few, Based}

-- ---- rows of a list's entries
unfoldable pub row_for : (ℕ → List ℕ) → List ℕ → ℕ → List ℕ
row_for F xs i = F (get_or xs i 0)

rows-part : (F : ℕ → List ℕ) (xs : List ℕ) (n : ℕ) → n ≤ length xs → rows_of (row_for F xs) n ≡ flat_map F (take n xs)
unfolding rows_of row_for flat_map
rows-part F xs zero l = refl
rows-part F xs (suc n) l =
    rw (take-suc xs n 0 (omega arith), rows-part F xs n (omega arith)) (sym (flat-snoc F (take n xs) (get_or xs n 0)))

rows-flat : (F : ℕ → List ℕ) (xs : List ℕ) → rows_of (row_for F xs) (length xs) ≡ flat_map F xs
rows-flat F xs = rows-part F xs (length xs) (omega arith) ∙ ap (flat_map F) (take_all (length xs) xs (omega arith))

-- ---- the loop that writes them, each of k entries
pub record Laid (F : ℕ → List ℕ) (k : ℕ) (xs d₀ d : List ℕ) (i : ℕ) : Type 0 where
  pub rows : Written (row_for F xs) k (length xs) d₀ d i

module _ (F : ℕ → List ℕ) (k : ℕ) (xs d₀ : List ℕ) where
  pub lay-none : length d₀ ≡ k * length xs → Laid F k xs d₀ d₀ 0
  lay-none e = record { rows = none_written (row_for F xs) k (length xs) d₀ e }

  module _ (d : List ℕ) (i : ℕ) (h : Laid F k xs d₀ d i) where
    pub lay-whole : length xs ≤ i → d ≡ flat_map F xs
    lay-whole l = written_done (row_for F xs) k (length xs) d₀ d i l h.rows ∙ rows-flat F xs

    module _ (l : i < length xs) where
      pub row_end : k * i + k ≤ length d
      row_end = room h.rows l

      pub row_fits : length d₀ < 2 ^ 64 → k * i + k < 2 ^ 64
      row_fits f = omega (arith, room h.rows l, h.rows.long)

      pub start_fits : length d₀ < 2 ^ 64 → k * i < 2 ^ 64
      start_fits f = omega (arith, room h.rows l, h.rows.long)

      pub place_fits : length d₀ * 8 < 2 ^ 63 → Fits w64 (k * i * 8)
      place_fits f = record { fits = omega (arith, room h.rows l, h.rows.long) }

      pub part-long : length (take (k * i + k - k * i) (drop (k * i) d)) ≡ k
      part-long = piece_long h.rows l

      pub lay-more :
          (ys : List ℕ) → length ys ≡ length (take (k * i + k - k * i) (drop (k * i) d)) → ys ≡ F (get_or xs i 0)
          → Laid F k xs d₀ (take (k * i) d ++ (ys ++ drop (k * i + k - k * i) (drop (k * i) d))) (i + 1)
      unfolding row_for
      lay-more ys kept is = record { rows = written_next h.rows l ys kept is }

-- ---- the basis polynomials
module _ (p t : ℕ) (points : List ℕ) where
  module _ (d₀ d : List ℕ) (i : ℕ) (h : Laid (low_basis p (t + 1) points) (t + 1) points d₀ d i) (l : i < length points) where
    pub room_positive : 0 < length (take ((t + 1) * i + (t + 1) - (t + 1) * i) (drop ((t + 1) * i) d))
    room_positive = omega (arith, part-long (low_basis p (t + 1) points) (t + 1) points d₀ d i h l)

    pub basis-laid :
        (ys : List ℕ) → length ys ≡ length (take ((t + 1) * i + (t + 1) - (t + 1) * i) (drop ((t + 1) * i) d))
        → ys ≡ low_basis p (length (take ((t + 1) * i + (t + 1) - (t + 1) * i) (drop ((t + 1) * i) d))) points (get_or points i 0)
        → Laid (low_basis p (t + 1) points) (t + 1) points d₀ (take ((t + 1) * i) d ++ (ys ++ drop ((t + 1) * i + (t + 1) - (t + 1) * i) (drop ((t + 1) * i) d))) (i + 1)
    basis-laid ys kept is =
        lay-more (low_basis p (t + 1) points) (t + 1) points d₀ d i h l ys kept
        (is ∙ ap (λ (n : ℕ). low_basis p n points (get_or points i 0)) (part-long (low_basis p (t + 1) points) (t + 1) points d₀ d i h l))

  pub bases-whole : (d₀ d : List ℕ) (i : ℕ) → Laid (low_basis p (t + 1) points) (t + 1) points d₀ d i → length points ≤ i → d ≡ bases p t points
  unfolding bases
  bases-whole d₀ d i h l = lay-whole (low_basis p (t + 1) points) (t + 1) points d₀ d i h l

  pub width_fits : Few p t points → t + 1 < 2 ^ 64
  width_fits few = omega (arith, few.degree)

pub ruleset laying = (rules, lay-none, row_end, row_fits, start_fits, place_fits, room_positive, basis-laid, bases-whole, entry_below, width_fits)

pub table_based : (p t : ℕ) (points table : List ℕ) → Few p t points → table ≡ bases p t points → Based p t points table
table_based p t points table few is = record { few = few; is = is }

pub ruleset making = (rules, table_based)

-- ---- a row of a table
module _ (F : ℕ → List ℕ) (k : ℕ) (each : (x : ℕ) → length (F x) ≡ k) (xs table : List ℕ) (is : table ≡ flat_map F xs) where
  long : length table ≡ k * length xs
  long = ap length is ∙ flat-length F k each xs

  module _ (i : ℕ) (l : i < length xs) where
    pub part-end : k * i + k ≤ length table
    part-end = omega (arith, long, row_room k i (length xs) l)

    pub part-is : take (k * i + k - k * i) (drop (k * i) table) ≡ F (get_or xs i 0)
    part-is = rw (add-sub_cancel_left, is) (flat-part F k each xs i 0 l)

pub length-low : (p k : ℕ) (xs : List ℕ) (x : ℕ) → length (low_basis p k xs x) ≡ k
unfolding low_basis padded
length-low p k xs x = rw length-append (omega (arith, length-take k (basis p xs x), length-replicate {A = ℕ} (k - length (take k (basis p xs x))) 0))

module _ (p t : ℕ) (xs table : List ℕ) (b : Based p t xs table) (i : ℕ) (l : i < length xs) where
  laid : table ≡ flat_map (low_basis p (t + 1) xs) xs
  unfolding bases
  laid = b.is

  pub basis-end : (t + 1) * i + (t + 1) ≤ length table
  basis-end = part-end (low_basis p (t + 1) xs) (t + 1) (length-low p (t + 1) xs) xs table laid i l

  pub basis-is : take ((t + 1) * i + (t + 1) - (t + 1) * i) (drop ((t + 1) * i) table) ≡ low_basis p (t + 1) xs (get_or xs i 0)
  basis-is = part-is (low_basis p (t + 1) xs) (t + 1) (length-low p (t + 1) xs) xs table laid i l

  pub basis-long : length (take ((t + 1) * i + (t + 1) - (t + 1) * i) (drop ((t + 1) * i) table)) ≡ t + 1
  basis-long = ap length basis-is ∙ length-low p (t + 1) xs (get_or xs i 0)

  pub basis_elements : Ready p → all_below p (take ((t + 1) * i + (t + 1) - (t + 1) * i) (drop ((t + 1) * i) table)) ≡ true
  unfolding low_basis
  basis_elements r =
      rw basis-is
      (padded-below p (omega (arith, r.prime.above)) (t + 1) (take (t + 1) (basis p xs (get_or xs i 0)))
      (all_below-take p (t + 1) (basis p xs (get_or xs i 0)) (basis-below p r.prime.above xs (get_or xs i 0))))

  pub end_fits : length table * 8 < 2 ^ 63 → Fits w64 ((t + 1) * i + (t + 1))
  end_fits f = record { fits = omega (arith, basis-end) }

  pub begin_fits : length table * 8 < 2 ^ 63 → Fits w64 ((t + 1) * i)
  begin_fits f = record { fits = omega (arith, basis-end) }

  pub bytes_fit : length table * 8 < 2 ^ 63 → Fits w64 ((t + 1) * i * 8)
  bytes_fit f = record { fits = omega (arith, basis-end) }

pub based_width : (p t : ℕ) (xs table : List ℕ) → Based p t xs table → t + 1 < 2 ^ 64
based_width p t xs table b = omega (arith, b.few.degree)

-- a value's place is a point's
pub place_of : (xs vs : List ℕ) (i : ℕ) → length vs ≡ length xs → i < length vs → i < length xs
place_of xs vs i e l = omega arith

pub ruleset reading = (basis-end, basis-is, basis-long, basis_elements, end_fits, begin_fits, bytes_fit, based_width, place_of)
