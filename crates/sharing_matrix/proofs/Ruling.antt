-- The code of the matrix: its rows, and what they make of values.
--     valuing                 a row, from the basis polynomials
--     ruling, building        all rows, in a room that is lent
--     finding                 a row of the table
--     weighing, applying      what one row makes of values, and all rows
-- Assumes nothing.
use mathlib.Core.Path.{◌≡◌, refl, ap, ◌∙◌, fun_ext}
use mathlib.Core.Bool.{true}
use mathlib.Core.List.{List, ◌++◌, map, flat_map}
use Prim.Native.Nat.{ℕ, suc, ◌+◌, ◌-◌, ◌*◌, ◌^◌, ◌≤◌, ◌<◌}
use native.Mathlib.Numerals.{add-one}
use native.Mathlib.Nat.{mul-le-mul}
use native.Mathlib.Omega.{arith}
use borrow.Author.Rules.{rules}
use lib.ListN.{length, take, drop, set, get_or, length-map, length-set}
use lib.Seq.{length-take-le, take_at}
use mir.Syntax.{w64}
use mir.Val.{Fits}
use Rattle.numbers.specs.Bytes.{all_below}
use Rattle.numbers.proofs.Below.{all_below-take}
use Rattle.numbers.proofs.Fills.{Filled, fill_none, fill_next}
use Rattle.field.specs.Field.{Is, Ready}
use Rattle.field.proofs.Solve.{canon-lt}
use Rattle.field.proofs.Inverse.{pos}
use Rattle.sharing_laws.specs.Poly.{eval, padded}
use Rattle.sharing_laws.specs.Interp.{dot}
use Rattle.sharing_laws.specs.Basis.{basis, fitted, entry, row}
use Rattle.sharing_laws.proofs.Alls.{map_below}
use Rattle.sharing_laws.proofs.Polys.{eval_canon, eval-padded, values-padded}
use Rattle.sharing_laws.proofs.Elements.{padded-below}
use Rattle.sharing_laws.proofs.Bases.{cut-fitted}
use Rattle.sharing_matrix.proofs.Fitting.{mixture-below}
use Rattle.sharing.proofs.Coding.{entry_below, filled-map}
use Rattle.sharing_matrix.specs.Matrix.{low_basis, matrix, applied, Few, Based, Ruled}
use Rattle.sharing_matrix.proofs.Tables.{Laid, lay-none, lay-more, lay-whole, row_end, row_fits, start_fits, place_fits, part-long, part-end, part-is, reading, basis-is}

-- ---- a row
low-entry : (p t : ℕ) (xs : List ℕ) (x y : ℕ) → eval p (low_basis p (t + 1) xs y) x ≡ entry p t xs x y
unfolding low_basis entry
low-entry p t xs x y = eval-padded p (t + 1) (take (t + 1) (basis p xs y)) x ∙ rw add-one

filled-none : (f : ℕ → ℕ) (d : List ℕ) → Filled f d d 0
filled-none f d = record { within = omega arith; long = refl; front = fill_none f d }

-- the entry of the row of x in column k
unfoldable pub entry_at : ℕ → ℕ → List ℕ → ℕ → ℕ → ℕ
entry_at p t xs x k = entry p t xs x (get_or xs k 0)

pub row-none : (p t : ℕ) (xs : List ℕ) (x : ℕ) (d : List ℕ) → Filled (entry_at p t xs x) d d 0
row-none p t xs x d = filled-none (entry_at p t xs x) d

module _ (p t : ℕ) (xs : List ℕ) (x : ℕ) (d₀ d : List ℕ) (i : ℕ) (h : Filled (entry_at p t xs x) d₀ d i) (e : length d₀ ≡ length xs) where
  pub row-more :
      (table : List ℕ) (v : ℕ) → Based p t xs table → i < length d
      → Is p (eval p (take ((t + 1) * i + (t + 1) - (t + 1) * i) (drop ((t + 1) * i) table)) x) v
      → Filled (entry_at p t xs x) d₀ (set d i v) (i + 1)
  unfolding entry_at
  row-more table v b l is =
      let here : i < length xs = omega (arith, h.long) in
      record {
        within = omega (arith, h.long);
        long = length-set d i v ∙ h.long;
        front =
            fill_next (λ k. entry p t xs x (get_or xs k 0)) i d v l
            (is.eq ∙ ap (λ (f : List ℕ). eval p f x) (basis-is p t xs table b i here) ∙ low-entry p t xs x (get_or xs i 0)) h.front;
      }

  pub row-whole : length d ≤ i → d ≡ row p t xs x
  unfolding row entry_at
  row-whole l = filled-map (entry p t xs x) xs d₀ d i e (omega (arith, h.long)) h

pub ruleset valuing = (rules, reading, row-none, row-more, row-whole)

-- ---- all rows
pub length-row : (p t : ℕ) (xs : List ℕ) (x : ℕ) → length (row p t xs x) ≡ length xs
unfolding row
length-row p t xs x = length-map xs (entry p t xs x)

module _ (p t : ℕ) (xs : List ℕ) where
  module _ (d₀ d : List ℕ) (i : ℕ) (h : Laid (row p t xs) (length xs) xs d₀ d i) where
    pub row-laid :
        (ys : List ℕ) → i < length xs → length ys ≡ length (take (length xs * i + length xs - length xs * i) (drop (length xs * i) d))
        → ys ≡ row p t xs (get_or xs i 0)
        → Laid (row p t xs) (length xs) xs d₀ (take (length xs * i) d ++ (ys ++ drop (length xs * i + length xs - length xs * i) (drop (length xs * i) d))) (i + 1)
    row-laid ys l kept is = lay-more (row p t xs) (length xs) xs d₀ d i h l ys kept is

    pub matrix-whole : length xs ≤ i → d ≡ matrix p t xs
    unfolding matrix
    matrix-whole l = lay-whole (row p t xs) (length xs) xs d₀ d i h l

pub ruleset ruling = (rules, lay-none, row_end, row_fits, start_fits, place_fits, part-long, row-laid, matrix-whole, entry_below)

module _ (p t : ℕ) (xs : List ℕ) (few : Few p t xs) where
  used-small : (t + 1) * length xs ≤ 225
  used-small = mul-le-mul {n₁ = t + 1} {m₁ = length xs} {n₂ = 15} {m₂ = 15} (omega (arith, few.degree)) few.count

  pub used_fits : Fits w64 ((t + 1) * length xs)
  used_fits = record { fits = omega (arith, used-small) }

  pub used_within : (room : List ℕ) → length room ≡ 225 → (t + 1) * length xs ≤ length room
  used_within room size = omega (arith, used-small)

  pub used-long : (room : List ℕ) → length room ≡ 225 → length (take ((t + 1) * length xs) room) ≡ (t + 1) * length xs
  used-long room size = length-take-le ((t + 1) * length xs) room (used_within room size)

  pub degree_fits : t + 1 < 2 ^ 64
  degree_fits = omega (arith, few.degree)

  pub table_ruled : (table : List ℕ) → table ≡ matrix p t xs → Ruled p t xs table
  table_ruled table is = record { few = few; is = is }

pub ruleset building = (rules, used_fits, used_within, used-long, degree_fits, table_ruled)

-- ---- a row of the table
module _ (p t : ℕ) (xs table : List ℕ) (b : Ruled p t xs table) (i : ℕ) (l : i < length xs) where
  laid : table ≡ flat_map (row p t xs) xs
  unfolding matrix
  laid = b.is

  pub rule-end : length xs * i + length xs ≤ length table
  rule-end = part-end (row p t xs) (length xs) (length-row p t xs) xs table laid i l

  pub rule-is : take (length xs * i + length xs - length xs * i) (drop (length xs * i) table) ≡ row p t xs (get_or xs i 0)
  rule-is = part-is (row p t xs) (length xs) (length-row p t xs) xs table laid i l

  pub rule_end_fits : length table * 8 < 2 ^ 63 → Fits w64 (length xs * i + length xs)
  rule_end_fits f = record { fits = omega (arith, rule-end) }

  pub rule_begin_fits : length table * 8 < 2 ^ 63 → Fits w64 (length xs * i)
  rule_begin_fits f = record { fits = omega (arith, rule-end) }

  pub rule_bytes_fit : length table * 8 < 2 ^ 63 → Fits w64 (length xs * i * 8)
  rule_bytes_fit f = record { fits = omega (arith, rule-end) }

pub ruleset finding = (rules, rule-end, rule-is, rule_end_fits, rule_begin_fits, rule_bytes_fit)

-- ---- what they make of values
pub row_elements : (p t : ℕ) (xs : List ℕ) (x : ℕ) → Ready p → all_below p (row p t xs x) ≡ true
unfolding row entry
row_elements p t xs x r = map_below p (entry p t xs x) xs (λ y. canon-lt (pos r.prime) (eval_canon (take (suc t) (basis p xs y)) x))

module _ (p t : ℕ) (xs vs ws : List ℕ) (x : ℕ) (is : ws ≡ row p t xs x) where
  pub weights_elements : Ready p → all_below p ws ≡ true
  weights_elements r = rw is (row_elements p t xs x r)

  pub weights_within : length vs ≡ length xs → length ws ≤ length vs
  weights_within e = omega (arith, ap length is, length-row p t xs x)

  pub weights_few : (table : List ℕ) → Ruled p t xs table → length ws ≤ 16
  weights_few table b = omega (arith, ap length is, length-row p t xs x, b.few.count)

  pub weighed-is : (r : ℕ) → Is p (dot p ws vs) r → Is p (dot p (row p t xs x) vs) r
  weighed-is r e = record { eq = e.eq ∙ ap (λ (l : List ℕ). dot p l vs) is; lt = e.lt }

pub ruleset weighing = (rules, weights_elements, weights_within, weights_few, weighed-is)

unfoldable pub applied_at : ℕ → ℕ → List ℕ → List ℕ → ℕ → ℕ
applied_at p t xs vs k = dot p (row p t xs (get_or xs k 0)) vs

pub applied-none : (p t : ℕ) (xs vs d : List ℕ) → Filled (applied_at p t xs vs) d d 0
applied-none p t xs vs d = filled-none (applied_at p t xs vs) d

module _ (p t : ℕ) (xs vs d₀ d : List ℕ) (i : ℕ) (h : Filled (applied_at p t xs vs) d₀ d i) where
  pub applied-more : (v : ℕ) → i < length d → Is p (dot p (row p t xs (get_or xs i 0)) vs) v → Filled (applied_at p t xs vs) d₀ (set d i v) (i + 1)
  unfolding applied_at
  applied-more v l is = record {
    within = omega (arith, h.long);
    long = length-set d i v ∙ h.long;
    front = fill_next (λ k. dot p (row p t xs (get_or xs k 0)) vs) i d v l is.eq h.front;
  }

  pub applied-whole : length d₀ ≡ length xs → length d ≤ i → d ≡ applied p t xs vs
  unfolding applied applied_at
  applied-whole e l = filled-map (λ x. dot p (row p t xs x) vs) xs d₀ d i e (omega (arith, h.long)) h

pub ruleset applying = (rules, applied-none, applied-more, applied-whole)

-- ---- the same without rows
module _ (p t : ℕ) (xs vs : List ℕ) where
  low : List ℕ
  low = padded (t + 1) (take (t + 1) (fitted p xs vs))

  applied-dealt : Ready p → map (eval p low) xs ≡ applied p t xs vs
  unfolding low applied row entry
  applied-dealt r =
      values-padded p (t + 1) (take (t + 1) (fitted p xs vs)) xs
      ∙ ap (λ (h : ℕ → ℕ). map h xs) (fun_ext (λ x. rw add-one (cut-fitted r.prime (suc t) xs vs x)))

  module _ (room ys : List ℕ) (few : Few p t xs) (size : length room ≡ 15) where
    pub part-first : length (take (t + 1) room) ≡ t + 1
    part-first = length-take-le (t + 1) room (omega (arith, few.degree))

    module _ (is : ys ≡ padded (t + 1) (take (t + 1) (fitted p xs vs))) (long : length ys ≡ length (take (t + 1) room)) where
      front : take (t + 1) (ys ++ drop (t + 1) room) ≡ ys
      front = take_at ys (drop (t + 1) room) (t + 1) (long ∙ part-first)

      pub front_below : Ready p → all_below p (take (t + 1) (ys ++ drop (t + 1) room)) ≡ true
      unfolding fitted
      front_below r =
          rw (front, is)
          (padded-below p (pos r.prime) (t + 1) (take (t + 1) (fitted p xs vs))
          (all_below-take p (t + 1) (fitted p xs vs) (mixture-below p (pos r.prime) vs (map (basis p xs) xs))))

    pub first_within : t + 1 ≤ length room
    first_within = omega (arith, few.degree)

pub applied-is :
    (p t : ℕ) (xs vs room ys d : List ℕ) → d ≡ map (eval p (take (t + 1) (ys ++ drop (t + 1) room))) xs
    → ys ≡ padded (t + 1) (take (t + 1) (fitted p xs vs)) → length ys ≡ length (take (t + 1) room) → length room ≡ 15 → Few p t xs → Ready p
    → d ≡ applied p t xs vs
unfolding low
applied-is p t xs vs room ys d e is long size few r =
    e ∙ ap (λ (f : List ℕ). map (eval p f) xs) (front p t xs vs room ys few size is long ∙ is) ∙ applied-dealt p t xs vs r

pub few_points : (p t : ℕ) (xs : List ℕ) → Few p t xs → all_below p xs ≡ true
few_points p t xs few = few.elements

pub ruleset dealing = (rules, building, part-first, first_within, front_below, applied-is, few_points)
