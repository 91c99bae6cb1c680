-- The grid of pieces.
--     column_sum_lem                     the law of the grid: a column's sum is the share that the receiving party's own call learns
--     column_held, grid_reduced      what stands in a column of the dealt grid, and the law on it
--     Columning, columning           the loop over the dealers: a column dealt, weighed and summed
--     Gridding, gridding             the loop over the receivers
-- Assumes nothing.
use mathlib.Core.Path.{◌≡◌, refl, sym, ap, ap₂, ◌∙◌}
use mathlib.Core.Logic.{⊎_elim}
use mathlib.Core.Bool.{true}
use mathlib.Core.List.{List, [], ◌∷◌, ◌++◌, map}
use Prim.Native.Nat.{ℕ, zero, suc, ◌+◌, ◌-◌, ◌*◌, ◌%◌, ◌^◌, ◌<◌, ◌≤◌}
use native.Mathlib.Numerals.{add-one}
use native.Mathlib.Nat.{add-sub_cancel_left, eq-or-lt_of_le}
use native.Mathlib.Omega.{arith}
use borrow.Author.Rules.{rules}
use lib.ListN.{length, take, drop, get_or, set, length-set, length-drop, length-map, get_or-map}
use lib.Seq.{get_or-set_same, get_or-set_other, get_or-take, ext_get_or, length-take-le}
use mir.Syntax.{w64}
use mir.Val.{Fits}
use Rattle.numbers.specs.Tables.{tab}
use Rattle.numbers.specs.Bytes.{all_below}
use Rattle.numbers.proofs.Tables.{length-tab, get_or-tab, tab-next, tab-zero, row_room}
use Rattle.numbers.proofs.Below.{all_below-take, all_below-drop, all_below-tab}
use Rattle.field.specs.Field.{Below2, Is, kept, sum_bound, Ready}
use Rattle.sharing_laws.specs.Interp.{weights, dot}
use Rattle.field.proofs.Solve.{canon-lt}
use Rattle.field.proofs.Inverse.{pos}
use Rattle.sharing.proofs.Coding.{entry_below, dot_canon, plain-dot, Summed, sum-none, sum_low, sum_more, sum-small, bound_sixteen, is_by, sum-whole}
use Rattle.sharing_laws.proofs.Interpolation.{length-weights}
use Rattle.sharing_laws.proofs.Alls.{map-tab}
use Rattle.plan.specs.Plans.{Plan, dealer_count, dealer_points}
use Rattle.plan.specs.declared.Step.TheVariants.{DealProduct}
use Rattle.seat_messages.specs.Messages.{learnt}
use Rattle.run_dealings.specs.Rows.{terms, powers, Powered}
use Rattle.run_dealings.specs.Columns.{column, column_sum, received, ColumnSum, piece_by, pieces_by, column_at, share_at, with_column, with_columns}
use Rattle.run_dealings.proofs.RowLaws.{Making, make-none, make-next, made}
use Rattle.run_dealings.proofs.PowerLaws.{length-powers, powers_below, power-row}
use Rattle.run_dealings.proofs.PolynomialLaws.{terms_within}

-- ---- the law of the grid
pub column_sum_lem : ColumnSum
unfolding column_sum learnt
column_sum_lem plan grid j g a b triples shares = ap (set shares g) (plain-dot plan.p (weights plan.p 0 _) (received plan grid j))

-- ---- a column set
with_none : (j : ℕ) (grid : List (List ℕ)) → with_column j [] grid ≡ grid
unfolding with_column
with_none j [] = refl
with_none j (row ∷ grid) = refl

-- one entry more
with_next : (j v : ℕ) (vs : List ℕ) (grid : List (List ℕ)) → set (with_column j vs grid) (length vs) (set (get_or (with_column j vs grid) (length vs) []) j v) ≡ with_column j (vs ++ (v ∷ [])) grid
unfolding with_column
with_next j v vs [] = refl
with_next j v [] (row ∷ grid) = ap (λ (g : List (List ℕ)). set row j v ∷ g) (sym (with_none j grid))
with_next j v (w ∷ vs) (row ∷ grid) = ap (λ (g : List (List ℕ)). set row j w ∷ g) (with_next j v vs grid)

with_more : (j : ℕ) (f : ℕ → ℕ) (d : ℕ) (grid : List (List ℕ)) → set (with_column j (tab f d) grid) d (set (get_or (with_column j (tab f d) grid) d []) j (f d)) ≡ with_column j (tab f (d + 1)) grid
with_more j f d grid =
    let after : List (List ℕ) = with_column j (tab f d) grid in
    ap (λ (i : ℕ). set after i (set (get_or after i []) j (f d))) (sym (length-tab f d))
    ∙ with_next j (f d) (tab f d) grid
    ∙ ap (λ (vs : List ℕ). with_column j vs grid) (sym (tab-next f d))

-- ---- what stands in the grid
-- the entry of row d in column i
abbrev pub entry : List (List ℕ) → ℕ → ℕ → ℕ
entry grid d i = get_or (get_or grid d []) i 0

module _ (j : ℕ) where
  with_rows : (vs : List ℕ) (grid : List (List ℕ)) → length (with_column j vs grid) ≡ length grid
  unfolding with_column
  with_rows vs [] = refl
  with_rows [] (row ∷ grid) = refl
  with_rows (v ∷ vs) (row ∷ grid) = ap suc (with_rows vs grid)

  with_long : (vs : List ℕ) (grid : List (List ℕ)) (d : ℕ) → length (get_or (with_column j vs grid) d []) ≡ length (get_or grid d [])
  unfolding with_column
  with_long vs [] d = refl
  with_long [] (row ∷ grid) d = refl
  with_long (v ∷ vs) (row ∷ grid) zero = length-set row j v
  with_long (v ∷ vs) (row ∷ grid) (suc d) = with_long vs grid d

  with_same : (vs : List ℕ) (grid : List (List ℕ)) (d : ℕ) → d < length vs → d < length grid → j < length (get_or grid d []) → entry (with_column j vs grid) d j ≡ get_or vs d 0
  unfolding with_column
  with_same vs [] d l m w = absurd (omega arith)
  with_same [] (row ∷ grid) d l m w = absurd (omega arith)
  with_same (v ∷ vs) (row ∷ grid) zero l m w = get_or-set_same row j v 0 w
  with_same (v ∷ vs) (row ∷ grid) (suc d) l m w = with_same vs grid d (omega arith) (omega arith) w

  with_other : (vs : List ℕ) (grid : List (List ℕ)) (d i : ℕ) → (i ≡ j → ⊥) → entry (with_column j vs grid) d i ≡ entry grid d i
  unfolding with_column
  with_other vs [] d i ne = refl
  with_other [] (row ∷ grid) d i ne = refl
  with_other (v ∷ vs) (row ∷ grid) zero i ne = get_or-set_other row j i v 0 ne
  with_other (v ∷ vs) (row ∷ grid) (suc d) i ne = with_other vs grid d i ne

-- column j of a grid whose first n columns were set
module _ (f : ℕ → List ℕ) (m : ℕ) (sized : (j : ℕ) → length (f j) ≡ m) (grid : List (List ℕ)) (rows : m ≤ length grid) where
  all_rows : (n : ℕ) → length (with_columns f n grid) ≡ length grid
  unfolding with_columns
  all_rows zero = refl
  all_rows (suc n) = with_rows n (f n) (with_columns f n grid) ∙ all_rows n

  all_long : (n d : ℕ) → length (get_or (with_columns f n grid) d []) ≡ length (get_or grid d [])
  unfolding with_columns
  all_long zero d = refl
  all_long (suc n) d = with_long n (f n) (with_columns f n grid) d ∙ all_long n d

  entry_held : (n d j : ℕ) → j < n → d < m → n ≤ length (get_or grid d []) → entry (with_columns f n grid) d j ≡ get_or (f j) d 0
  unfolding with_columns
  entry_held zero d j l k w = absurd (omega arith)
  entry_held (suc n) d j l k w =
      ⊎_elim
      (λ (e : j ≡ n). rw e (with_same n (f n) (with_columns f n grid) d (omega (arith, sized n)) (omega (arith, all_rows n)) (omega (arith, all_long n d))))
      (λ (lt : j < n). with_other n (f n) (with_columns f n grid) d j (λ e. absurd (omega arith)) ∙ entry_held n d j lt k (omega arith))
      (eq-or-lt_of_le {n = j} {m = n} (omega arith))

  pub column_held : (n j : ℕ) → j < n → ((d : ℕ) → d < m → n ≤ length (get_or grid d [])) → take m (column (with_columns f n grid) j) ≡ f j
  unfolding column
  column_held n j l wide =
      let all : List ℕ = map (λ (row : List ℕ). get_or row j 0) (with_columns f n grid) in
      let long : length (take m all) ≡ m = length-take-le m all (rw (length-map (with_columns f n grid) (λ (row : List ℕ). get_or row j 0), all_rows n) rows) in
      ext_get_or 0 (take m all) (f j) (long ∙ sym (sized j))
      (λ d k.
      let lt : d < m = omega (arith, long) in
      get_or-take m all d 0 lt ∙ get_or-map (λ (row : List ℕ). get_or row j 0) (with_columns f n grid) d [] ∙ entry_held n d j l lt (wide d lt))

-- the grid that the code leaves, of any polynomials: each receiver's sum is the share that its own call learns from its column
module _
    (plan : Plan) (k n : ℕ) (fs : List ℕ) (grid : List (List ℕ)) (rows : dealer_count plan ≤ length grid) (wide : (d : ℕ) → d < dealer_count plan → n ≤ length (get_or grid d []))
    (many : dealer_count plan ≤ length plan.points) where
  pub grid_reduced : (j g a b : ℕ) (triples shares : List ℕ) → j < n
      → set shares g (share_at plan.p k (weights plan.p 0 (dealer_points plan)) fs (get_or plan.points j 0))
      ≡ learnt plan (DealProduct g a b) triples shares (received plan (with_columns (column_at plan.p k plan.points fs (dealer_count plan)) n grid) j)
  unfolding share_at column_at pieces_by received dealer_points
  grid_reduced j g a b triples shares l =
      let ws : List ℕ = weights plan.p 0 (take (dealer_count plan) plan.points) in
      let long : length ws ≡ dealer_count plan = length-weights plan.p 0 (take (dealer_count plan) plan.points) ∙ length-take-le (dealer_count plan) plan.points many in
      let f : ℕ → List ℕ = λ i. tab (piece_by plan.p k (powers plan.p (get_or plan.points i 0) k) fs) (dealer_count plan) in
      ap (set shares g)
      (ap (λ (m : ℕ). column_sum plan.p ws (tab (piece_by plan.p k (powers plan.p (get_or plan.points j 0) k) fs) m)) long
      ∙ ap (column_sum plan.p ws) (sym (column_held f (dealer_count plan) (λ i. length-tab _ (dealer_count plan)) grid rows n j l wide)))
      ∙ column_sum_lem plan (with_columns f n grid) j g a b triples shares

-- ---- the loop over the dealers: d pieces of column j stand, and are summed
pub few_weights : (ws points : List ℕ) → length ws ≤ length points → length points ≤ 15 → length ws ≤ 15
few_weights ws points lw lp = omega arith

pub record Columning (p : ℕ) (ws ps fs : List ℕ) (j : ℕ) (grid₀ grid : List (List ℕ)) (sum d : ℕ) : Type 0 where
  pub summed : Summed p ws (pieces_by p (length ps) ps fs (length ws)) sum d
  pub dealt : grid ≡ with_column j (tab (piece_by p (length ps) ps fs) d) grid₀

module _ (p : ℕ) (ws ps fs : List ℕ) (j : ℕ) (grid₀ : List (List ℕ)) where
  pieces : List ℕ
  pieces = pieces_by p (length ps) ps fs (length ws)

  pub column-none : Columning p ws ps fs j grid₀ grid₀ 0 0
  column-none = record {
    summed = sum-none p ws (pieces_by p (length ps) ps fs (length ws));
    dealt = sym (ap (λ (vs : List ℕ). with_column j vs grid₀) (tab-zero (piece_by p (length ps) ps fs)) ∙ with_none j grid₀);
  }

  pieces_below : Ready p → all_below p pieces ≡ true
  unfolding pieces pieces_by piece_by
  pieces_below r = all_below-tab p _ (length ws) (λ i l. canon-lt (pos r.prime) (dot_canon p ps _))

  piece_at : (d : ℕ) → d < length ws → get_or pieces d 0 ≡ piece_by p (length ps) ps fs d
  unfolding pieces pieces_by
  piece_at d l = get_or-tab (piece_by p (length ps) ps fs) (length ws) d 0 l

  pieces_long : length pieces ≡ length ws
  unfolding pieces pieces_by
  pieces_long = length-tab (piece_by p (length ps) ps fs) (length ws)

  module _ (grid : List (List ℕ)) (sum d : ℕ) (h : Columning p ws ps fs j grid₀ grid sum d) where
    module _ (t : ℕ) (counted : length ps ≡ terms t) (l : d < length ws) (room : terms t * length ws ≤ length fs) where
      here : length ps * d + length ps ≤ length fs
      here = omega (arith, row_room (length ps) d (length ws) l, rw (← counted) at room)

      pub part-within : length ps * d + length ps ≤ length fs
      part-within = here

      pub part-end-fits : length fs * 8 < 2 ^ 63 → Fits w64 (length ps * d + length ps)
      part-end-fits f = record { fits = omega (arith, here) }

      pub part-at-fits : length fs * 8 < 2 ^ 63 → Fits w64 (length ps * d)
      part-at-fits f = record { fits = omega (arith, here) }

      pub part-start-fits : length fs * 8 < 2 ^ 63 → Fits w64 (length ps * d * 8)
      part-start-fits f = record { fits = omega (arith, here) }

      pub part_below : all_below p fs ≡ true → all_below p (take (length ps * d + length ps - length ps * d) (drop (length ps * d) fs)) ≡ true
      part_below b = all_below-take p (length ps * d + length ps - length ps * d) (drop (length ps * d) fs) (all_below-drop p (length ps * d) fs b)

      pub part-long : length ps ≤ length (take (length ps * d + length ps - length ps * d) (drop (length ps * d) fs))
      part-long = rw (add-sub_cancel_left, length-take-le (length ps) (drop (length ps * d) fs) (rw length-drop (omega (arith, here)))) (omega arith)

    module _ (l : d < length ws) (r : Ready p) (hw : all_below p ws ≡ true) (x : ℕ) (is : Is p (dot p ps (take (length ps * d + length ps - length ps * d) (drop (length ps * d) fs))) x) where
      x-is : x ≡ piece_by p (length ps) ps fs d
      unfolding piece_by
      x-is = is.eq ∙ rw (add-sub_cancel_left)

      pub piece-below : Below2 p (get_or ws d 0) x
      piece-below = record { left = entry_below p ws d r hw; right = is.lt }

      pub column-next : (y : ℕ) → y ≡ kept p (sum + get_or ws d 0 * x) → Columning p ws ps fs j grid₀ (set grid d (set (get_or grid d []) j x)) y (d + 1)
      unfolding pieces
      column-next y e = record {
        summed =
            sum_more p ws pieces r sum d h.summed hw (pieces_below r) (get_or ws d 0) x
            (record { within = l; also = omega (arith, pieces_long); left = refl; right = x-is ∙ sym (piece_at d l) })
            y (d + 1) e refl;
        dealt = rw (h.dealt, x-is) (with_more j (piece_by p (length ps) ps fs) d grid₀);
      }

    module _ (r : Ready p) where
      pub column-low : length ws ≤ 15 → sum ≤ 4294967296 * p
      unfolding pieces
      column-low le = sum_low p ws pieces r sum d h.summed (omega arith)

      pub column_bound : length ws ≤ 15 → sum ≤ sum_bound p 16
      unfolding pieces
      column_bound le = omega (arith, sum-small p ws pieces r sum d h.summed, bound_sixteen p (length ws) r (omega arith))

      pub column-summed : (y : ℕ) → length ws ≤ d → Is p (sum % p) y → Is p (column_sum p ws (pieces_by p (length ps) ps fs (length ws))) y
      unfolding pieces column_sum
      column-summed y le e = rw (plain-dot p ws pieces) (is_by p (sum % p) (dot p ws pieces) y (sum-whole p ws pieces r sum d h.summed le) e)

    pub column-dealt : length ws ≤ d → grid ≡ with_column j (pieces_by p (length ps) ps fs (length ws)) grid₀
    unfolding pieces_by
    column-dealt le = let q : d ≡ length ws = omega (arith, h.summed.within) in h.dealt ∙ ap (λ (i : ℕ). with_column j (tab (piece_by p (length ps) ps fs) i) grid₀) q

-- As it is: answers name this set, since the check leaves their goals open by `using` alone.
pub ruleset columning = (rules, few_weights, terms_within, entry_below, column-none, part-within, part-end-fits, part-at-fits, part-start-fits, part_below, part-long, piece-below, column-low, column-next, column_bound, column-summed, column-dealt)

-- ---- a loop over the points by their power rows
pub powered_by : (p t k : ℕ) → k ≡ terms t → (points rows : List ℕ) → Powered p (terms t) points rows → Powered p k points rows
powered_by p t k e points rows b = rw e b

module _
    (p t k : ℕ) (counted : k ≡ terms t) (points rows : List ℕ) (powered : Powered p (terms t) points rows) (j : ℕ) (l : j < length points) where
  b : Powered p k points rows
  b = powered_by p t k counted points rows powered

  row_end : k * j + k ≤ length rows
  row_end = omega (arith, b.room, row_room k j (length points) l)

  pub row_within : k * j + k ≤ length rows
  row_within = row_end

  pub row_end_fits : length rows * 8 < 2 ^ 63 → Fits w64 (k * j + k)
  row_end_fits s = record { fits = omega (arith, row_end) }

  pub row_at_fits : length rows * 8 < 2 ^ 63 → Fits w64 (k * j)
  row_at_fits s = record { fits = omega (arith, row_end) }

  pub row_start_fits : length rows * 8 < 2 ^ 63 → Fits w64 (k * j * 8)
  row_start_fits s = record { fits = omega (arith, row_end) }

  pub row_is : take (k * j + k - k * j) (drop (k * j) rows) ≡ powers p (get_or points j 0) k
  row_is = rw add-sub_cancel_left (power-row p k points rows j b l)

  pub row_below : Ready p → all_below p (take (k * j + k - k * j) (drop (k * j) rows)) ≡ true
  row_below r = rw row_is (powers_below p (get_or points j 0) k r)

  pub row_long : length (take (k * j + k - k * j) (drop (k * j) rows)) ≡ k
  row_long = ap length row_is ∙ length-powers p (get_or points j 0) k

  pub row_counted : length (take (k * j + k - k * j) (drop (k * j) rows)) ≡ terms t
  row_counted = row_long ∙ counted

  pub row_small : length (take (k * j + k - k * j) (drop (k * j) rows)) ≤ 16
  row_small = omega (arith, row_long, terms_within t k counted)

pub ruleset rowing = (rules, make-none, row_within, row_end_fits, row_at_fits, row_start_fits, row_below, row_counted, row_small)

-- ---- the loop over the receivers: j columns stand, with their sums
pub record Gridding (p k : ℕ) (points ws fs : List ℕ) (grid₀ grid : List (List ℕ)) (sums : List ℕ) (j : ℕ) : Type 0 where
  pub shares : Making (λ i. share_at p k ws fs (get_or points i 0)) (length points) sums j
  pub dealt : grid ≡ with_columns (column_at p k points fs (length ws)) j grid₀

module _ (p k : ℕ) (points ws fs : List ℕ) (grid₀ : List (List ℕ)) where
  pub grid-none : (sums : List ℕ) → length points ≤ length sums → Gridding p k points ws fs grid₀ grid₀ sums 0
  unfolding with_columns
  grid-none sums l = record { shares = make-none _ (length points) sums l; dealt = refl }

  module _ (grid : List (List ℕ)) (sums : List ℕ) (j : ℕ) (h : Gridding p k points ws fs grid₀ grid sums j) where
    module _ (t : ℕ) (counted : k ≡ terms t) (rows : List ℕ) (b : Powered p (terms t) points rows) (l : j < length points) where
      pub grid-next : (v : ℕ) (after : List (List ℕ))
          → Is p (column_sum p ws (pieces_by p (length (take (k * j + k - k * j) (drop (k * j) rows))) (take (k * j + k - k * j) (drop (k * j) rows)) fs (length ws))) v
          → after ≡ with_column j (pieces_by p (length (take (k * j + k - k * j) (drop (k * j) rows))) (take (k * j + k - k * j) (drop (k * j) rows)) fs (length ws)) grid
          → Gridding p k points ws fs grid₀ after (set sums j v) (j + 1)
      unfolding with_columns column_at share_at
      grid-next v after is to = record {
        shares = make-next _ (length points) sums j h.shares v l (is.eq ∙ ap (column_sum p ws) column-is);
        dealt = to ∙ ap₂ (with_column j) column-is h.dealt ∙ rw (add-one j);
      }
        where
          column-is : pieces_by p (length (take (k * j + k - k * j) (drop (k * j) rows))) (take (k * j + k - k * j) (drop (k * j) rows)) fs (length ws) ≡ pieces_by p k (powers p (get_or points j 0) k) fs (length ws)
          column-is =
              ap₂ (λ (m : ℕ) (ps : List ℕ). pieces_by p m ps fs (length ws)) (row_long p t k counted points rows b j l) (row_is p t k counted points rows b j l)

    module _ (end : length points ≤ j) where
      pub grid-summed : take (length points) sums ≡ map (share_at p k ws fs) points
      grid-summed = made _ (length points) sums j h.shares end ∙ sym (map-tab (share_at p k ws fs) points)

      pub grid-dealt : grid ≡ with_columns (column_at p k points fs (length ws)) (length points) grid₀
      grid-dealt = let q : j ≡ length points = omega (arith, h.shares.within) in h.dealt ∙ ap (λ (i : ℕ). with_columns (column_at p k points fs (length ws)) i grid₀) q

-- As it is: answers name this set, since the check leaves their goals open by `using` alone.
pub ruleset gridding = (rowing, grid-none, grid-next, grid-summed, grid-dealt)
