-- A multiply gate's row by truncation.
--     cutting_products      what the matrix makes of the products
--     adding_rows           the sum of two rows
--     masking               the dealings of 0
--     truncating            both added
-- Assumes nothing.
use mathlib.Core.Path.{◌≡◌, sym, ap, ap₂, ◌∙◌}
use mathlib.Core.Bool.{true}
use mathlib.Core.List.{List, ◌++◌, map}
use Prim.Native.Nat.{ℕ, ◌*◌, ◌^◌, ◌<◌, ◌≤◌}
use native.Mathlib.Omega.{arith}
use borrow.Author.Rules.{rules}
use lib.ListN.{length, take, drop, get_or, replicate, length-map, length-replicate}
use lib.Seq.{take_all, length-take-le}
use mir.Syntax.{w64}
use mir.Val.{Fits}
use Rattle.std.proofs.lemmas.List.{take-replicate}
use Rattle.numbers.specs.Tables.{tab}
use Rattle.numbers.specs.Bytes.{all_below}
use Rattle.numbers.proofs.Tables.{length-tab, tab-ext}
use Rattle.numbers.proofs.Below.{all_below_at}
use Rattle.field.specs.Mod.{add}
use Rattle.field.specs.Field.{Ready}
use Rattle.field.proofs.Solve.{canon-lt}
use Rattle.field.proofs.Inverse.{pos}
use Rattle.sharing_laws.specs.Interp.{dot}
use Rattle.sharing_laws.specs.Basis.{row}
use Rattle.sharing_laws.proofs.Alls.{map-tab, map_below}
use Rattle.sharing_laws.proofs.Sums.{dot_canon, list_canon}
use Rattle.sharing_laws.proofs.Elements.{zeros-below}
use Rattle.sharing_matrix.specs.Matrix.{applied}
use Rattle.sharing_matrix.specs.declared.Matrix.{Matrix}
use Rattle.run_dealings.specs.Rows.{products_of, shared_by, summed_at, truncated_at, Cutting, Coined, Spaced}
use Rattle.run_dealings.proofs.RowLaws.{get_or-values}
use Rattle.run_dealings.proofs.DealingLaws.{coined_spaced, front-is, of_below}

-- ---- what the matrix makes of the products
-- the first n of an array of 15
pub part-long : (n : ℕ) (d : List ℕ) → length d ≡ 15 → n ≤ 15 → length (take n d) ≡ n
part-long n d e l = length-take-le n d (omega arith)

module _ (p t : ℕ) (points : List ℕ) (few : length points ≤ 15) where
  module _ (m : Matrix) (cutting : Cutting p t points m) where
    pub matrix-count : (d : List ℕ) → length d ≡ 15 → length (take (length points) d) ≡ length m.points.now
    matrix-count d e = part-long (length points) d e few ∙ ap length (sym cutting.are)

    pub matrix-elements : (a b : ℕ) (d table : List ℕ) → Ready p → take (length points) d ≡ products_of p (length points) (length points) a b table
        → all_below m.sums.field.p (take (length points) d) ≡ true
    matrix-elements a b d table r is = rw (cutting.field, is) (of_below p (length points) (length points) a b table r)

    pub matrix-applied : (a b : ℕ) (d e ys table : List ℕ) → length e ≡ 15 → length ys ≡ length (take (length points) e)
        → take (length points) d ≡ products_of p (length points) (length points) a b table
        → ys ≡ applied m.sums.field.p m.t m.points.now (take (length points) d)
        → take (length points) (ys ++ drop (length points) e) ≡ applied p t points (products_of p (length points) (length points) a b table)
    matrix-applied a b d e ys table long kept is made =
        front-is e ys (length points) (omega arith) kept ∙ rw (cutting.field, cutting.threshold, cutting.are, is) at made

pub ruleset cutting_products = (rules, matrix-count, matrix-elements, matrix-applied)

-- ---- two rows
module _ (p j : ℕ) (left right : List ℕ) (same : length left ≡ length right) (l : j < length left) where
  pub right-within : j < length right
  right-within = rw (← same) l

  pub left-fits : length left * 8 < 2 ^ 63 → Fits w64 (j * 8)
  left-fits f = record { fits = omega arith }

  pub left-below : all_below p left ≡ true → get_or left j 0 < p
  left-below h = all_below_at p left j h l

  pub right-below : all_below p right ≡ true → get_or right j 0 < p
  right-below h = all_below_at p right j h right-within

pub ruleset adding_rows = (rules, right-within, left-fits, left-below, right-below)

-- ---- the dealings of 0
pub step-fits : (t : ℕ) → t < 16 → Fits w64 (3 * t)
step-fits t l = record { fits = omega arith }

pub zeros-are : (n : ℕ) → n ≤ 15 → take n (replicate 15 0) ≡ replicate {A = ℕ} n 0
zeros-are n l = take-replicate n 15 0 l

module _ (p t : ℕ) (points cs : List ℕ) (few : length points ≤ 15) where
  pub zeros-spaced : (at : ℕ) → Coined p (3 * t) (length points) at cs → Spaced p t (3 * t) (length (take (length points) (replicate {A = ℕ} 15 0))) at cs
  zeros-spaced at c =
      rw (part-long (length points) (replicate 15 0) (length-replicate {A = ℕ} 15 0) few) (coined_spaced p t (3 * t) (length points) at cs c (omega arith))

  pub zeros-elements : Ready p → all_below p (take (length points) (replicate 15 0)) ≡ true
  zeros-elements r = rw (zeros-are (length points) few) (zeros-below p (pos r.prime) (length points))

  pub zeros-shared : (row : List ℕ) → take (length points) row ≡ map (summed_at p (shared_by t (3 * t) (take (length points) (replicate 15 0)) cs)) points
      → take (length points) row ≡ map (summed_at p (shared_by t (3 * t) (replicate (length points) 0) cs)) points
  zeros-shared row e = rw (zeros-are (length points) few) at e

pub ruleset masking = (rules, step-fits, zeros-spaced, zeros-elements, zeros-shared)

-- ---- both added
module _ (p t : ℕ) (points vs : List ℕ) (fs : List (List ℕ)) where
  pub products_below : (left : List ℕ) → Ready p → left ≡ applied p t points vs → all_below p left ≡ true
  unfolding applied
  products_below left r e = rw e (map_below p (λ x. dot p (row p t points x) vs) points (λ x. canon-lt (pos r.prime) (dot_canon p (row p t points x) vs)))

  pub masks_below : (right : List ℕ) → Ready p → right ≡ map (summed_at p fs) points → all_below p right ≡ true
  unfolding summed_at
  masks_below right r e = rw e (map_below p (summed_at p fs) points (λ x. canon-lt (pos r.prime) (list_canon p _)))

  pub truncated : (left right shares : List ℕ) → left ≡ applied p t points vs → right ≡ map (summed_at p fs) points
      → shares ≡ tab (λ j. add p (get_or left j 0) (get_or right j 0)) (length left)
      → take (length points) shares ≡ map (truncated_at p t points vs fs) points
  unfolding applied truncated_at
  truncated left right shares el er is =
      let product : ℕ → ℕ = λ x. dot p (row p t points x) vs in
      let n : length left ≡ length points = ap length el ∙ length-map points product in
      take_all (length points) shares (omega (arith, n, ap length is, length-tab (λ j. add p (get_or left j 0) (get_or right j 0)) (length left)))
      ∙ is
      ∙ ap (tab (λ j. add p (get_or left j 0) (get_or right j 0))) n
      ∙ tab-ext _ _ (length points)
      (λ j l. ap₂ (add p) (ap (λ (r : List ℕ). get_or r j 0) el ∙ get_or-values product points j l) (ap (λ (r : List ℕ). get_or r j 0) er ∙ get_or-values (summed_at p fs) points j l))
      ∙ sym (map-tab (λ x. add p (product x) (summed_at p fs x)) points)

pub ruleset truncating = (rules, part-long, products_below, masks_below, truncated)
