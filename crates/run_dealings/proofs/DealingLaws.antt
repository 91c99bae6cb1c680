-- The rows of inputs and of multiply gates, and what is worked out once for a plan.
--     shares_mixed                     the sums of the columns are the weighted sums of the dealt polynomials' values
--     dealing, inputs, multiplying     what closes the needs of the functions over a gate
--     preparing                        what is worked out once
-- Assumes nothing.
use mathlib.Core.Path.{◌≡◌, refl, sym, ap, ap₂, ◌∙◌, fun_ext}
use mathlib.Core.Bool.{Bool, true}
use mathlib.Core.List.{List, [], ◌∷◌, ◌++◌, map, flat_map}
use Prim.Native.Nat.{ℕ, zero, suc, ◌+◌, ◌-◌, ◌*◌, ◌/◌, ◌^◌, ◌<◌, ◌≤◌}
use native.Mathlib.Nat.{mul-le-mul}
use native.Mathlib.Omega.{arith}
use borrow.Author.Rules.{rules}
use lib.ListN.{length, take, drop, set, get_or, length-append, length-take, take-append-drop}
use lib.Seq.{take_at, drop_at, drop-drop, length-take-le}
use mir.Syntax.{w64}
use mir.Val.{Fits}
use Rattle.numbers.specs.Tables.{tab}
use Rattle.numbers.specs.Bytes.{width, numbers, all_below}
use Rattle.numbers.proofs.Tables.{length-tab, get_or-tab, tab-ext, tab-map, list-tab, row_room}
use Rattle.numbers.proofs.Below.{all_below_at, at-all_below, all_below-take, all_below-drop, append_below}
use Rattle.numbers.proofs.Bytes.{numbers-length}
use Rattle.field.specs.Mod.{mul}
use Rattle.field.specs.Field.{Is, is_wide, Ready}
use Rattle.field.proofs.Solve.{canon-lt, mul_canon}
use Rattle.field.proofs.Inverse.{pos}
use Rattle.field.proofs.Elements.{ready_positive}
use Rattle.sharing_laws.specs.Poly.{eval, padded}
use Rattle.sharing_laws.specs.Interp.{dot, weights}
use Rattle.sharing_laws.specs.Sharing.{rows_of}
use Rattle.sharing_laws.proofs.Polys.{eval-padded, values-padded}
use Rattle.sharing_laws.proofs.Elements.{padded-below}
use Rattle.sharing_laws.proofs.Alls.{map-tab}
use Rattle.sharing.proofs.Coding.{plain-dot}
use Rattle.sharing_laws.proofs.Interpolation.{length-weights}
use Rattle.sharing_openings.proofs.Rows.{row_at, weights_below}
use Rattle.run_dealings.specs.Rows.{terms, powers, power_rows, products_of, shared_by, mixed_at, Powered, Dealers, Weighted, Coined, Spaced}
use Rattle.run_dealings.specs.Columns.{column_sum, piece_by, pieces_by, share_at}
use Rattle.run_dealings.proofs.RowLaws.{Making, make-none, make-next, part_front, made}
use Rattle.run_dealings.proofs.PowerLaws.{eval-powers, length-powers, power-row, rows-flat}
use Rattle.run_dealings.proofs.PolynomialLaws.{length_shared, shared_short, below-cons, length-padded, polynomial_at, terms_few, terms_eight, terms_within, terms_small, terms_above}
use Rattle.run_dealings.proofs.ColumnLaws.{few_weights, powered_by, rowing, row_is, row_long, row_small}

-- ---- a dealing's row: j pieces stand
pub record Piecing (p : ℕ) (f points d : List ℕ) (j : ℕ) : Type 0 where
  pub fills : Making (λ i. eval p f (get_or points i 0)) (length points) d j

module _ (p : ℕ) (f points : List ℕ) where
  pub piece-none : (d : List ℕ) → length points ≤ length d → Piecing p f points d 0
  piece-none d l = record { fills = make-none _ (length points) d l }

  module _ (d : List ℕ) (j : ℕ) (h : Piecing p f points d j) where
    module _ (t : ℕ) (counted : length f ≡ terms t) (rows : List ℕ) (b : Powered p (terms t) points rows) (l : j < length points) where
      pub row-short : length (take (length f * j + length f - length f * j) (drop (length f * j) rows)) ≤ length f
      row-short = omega (arith, row_long p t (length f) counted points rows b j l)

      pub row_within_16 : length (take (length f * j + length f - length f * j) (drop (length f * j) rows)) ≤ 16
      row_within_16 = row_small p t (length f) counted points rows b j l

      pub piece-next : (v : ℕ) → Is p (dot p (take (length f * j + length f - length f * j) (drop (length f * j) rows)) f) v → Piecing p f points (set d j v) (j + 1)
      piece-next v is =
          let e : v ≡ eval p f (get_or points j 0) = is.eq ∙ ap (λ (ws : List ℕ). dot p ws f) (row_is p t (length f) counted points rows b j l) ∙ eval-powers p f (get_or points j 0) in
          record { fills = make-next _ (length points) d j h.fills v l e }

    pub pieces-made : length points ≤ j → take (length points) d ≡ map (eval p f) points
    pieces-made l = made _ (length points) d j h.fills l ∙ sym (map-tab (eval p f) points)

-- As it is: answers name this set, since the check leaves their goals open by `using` alone.
pub ruleset dealing = (rowing, piece-none, row-short, row_within_16, piece-next, pieces-made)

-- ---- an input's row
-- the first entries of an array, after they were lent and came back as ys
pub front-is : (d ys : List ℕ) (k : ℕ) → k ≤ length d → length ys ≡ length (take k d) → take k (ys ++ drop k d) ≡ ys
front-is d ys k l e = take_at ys (drop k d) k (e ∙ length-take-le k d l)

module _ (t k : ℕ) (few : t < 16) (e : k ≡ terms t) (d : List ℕ) (long : length d ≡ 16) where
  within : k ≤ length d
  within = omega (arith, terms_within t k e)

  front_long : length (take k d) ≡ k
  front_long = length-take-le k d within

  pub front-counted : k ≡ length (take k d)
  front-counted = sym front_long

  pub front_wide : t < length (take k d)
  front_wide = rw front_long (terms_above t k e few)

  module _ (ys : List ℕ) (kept : length ys ≡ length (take k d)) where
    ys-is : take k (ys ++ drop k d) ≡ ys
    ys-is = front-is d ys k within kept

    ys-long : length (take k (ys ++ drop k d)) ≡ k
    ys-long = ap length ys-is ∙ kept ∙ front_long

    pub whole_long : k ≤ length (ys ++ drop k d)
    whole_long = rw (length-append ys (drop k d)) (omega (arith, kept, front_long))

    pub dealt-counted : k ≡ length (take k (ys ++ drop k d))
    dealt-counted = sym ys-long

    module _ (p x at : ℕ) (coins : List ℕ) (is : ys ≡ padded (length (take k d)) (x ∷ take t (drop at (numbers coins)))) where
      pub dealt_below : Coined p t 1 at (numbers coins) → x < p → all_below p (take k (ys ++ drop k d)) ≡ true
      dealt_below c l =
          let one : t ≡ t * 1 = omega arith in
          let b : all_below p (take t (drop at (numbers coins))) ≡ true = rw one c.below in
          rw (ys-is, is) (padded-below p (omega arith) _ _ (below-cons p x (take t (drop at (numbers coins))) l b))

      pub input-dealt : (n : ℕ) (points row : List ℕ) → take n row ≡ map (eval p (take k (ys ++ drop k d))) points → take n row ≡ map (eval p (x ∷ take t (drop at (numbers coins)))) points
      input-dealt n points row r = r ∙ ap (λ (f : List ℕ). map (eval p f) points) (ys-is ∙ is) ∙ values-padded p _ _ points

pub one_dealing : (p t at : ℕ) (coins : List ℕ) → Coined p t 1 at (numbers coins) → at + t ≤ length coins / width
one_dealing p t at coins c = omega (arith, c.room, numbers-length coins)

-- As it is: answers name this set, since the check leaves their goals open by `using` alone.
pub ruleset inputs = (rules, terms_within, one_dealing, front-counted, front_wide, whole_long, dealt_below, input-dealt)

-- ---- a multiply's row
-- the counts of coefficients, where the grid is worked
module _ (t k : ℕ) (e : k ≡ terms t) where
  pub shares_by : (p i : ℕ) (row ws fs points : List ℕ) → take i row ≡ map (share_at p k ws fs) points → take i row ≡ map (share_at p (terms t) ws fs) points
  shares_by p i row ws fs points r = rw (← e) r

-- the range of the prime, by its test
pub in_range : (p : ℕ) (w v : Bool) → w ≡ is_wide p → w ≡ v → v ≡ is_wide p
in_range p w v e f = sym f ∙ e

pub ruleset sharing_by = (rules, terms_eight, shares_by)

-- what stands below p
tab_below : (p : ℕ) (F : List ℕ → List ℕ) (f : ℕ → List ℕ) (n : ℕ) → ((i : ℕ) → i < n → all_below p (F (f i)) ≡ true) → all_below p (flat_map F (tab f n)) ≡ true
unfolding tab flat_map all_below
tab_below p F f zero h = refl
tab_below p F f (suc n) h = append_below p (F (f 0)) (flat_map F (tab (λ i. f (suc i)) n)) (h 0 (omega arith)) (tab_below p F (λ i. f (suc i)) n (λ i l. h (suc i) (omega arith)))

pub shared_below : (p t step k at : ℕ) → 0 < p → (vs cs : List ℕ) → all_below p vs ≡ true → Spaced p t step (length vs) at cs → all_below p (flat_map (padded k) (shared_by t step vs (drop at cs))) ≡ true
unfolding shared_by
shared_below p t step k at above vs cs hv hc =
    tab_below p (padded k) (λ d. get_or vs d 0 ∷ take t (drop (step * d) (drop at cs))) (length vs)
    (λ i l.
    let own : all_below p (take t (drop (step * i) (drop at cs))) ≡ true = rw (drop-drop (step * i) at cs) (hc.below i l) in
    padded-below p above k (get_or vs i 0 ∷ take t (drop (step * i) (drop at cs))) (below-cons p (get_or vs i 0) (take t (drop (step * i) (drop at cs))) (all_below_at p vs i hv l) own))

-- the sum of a column is the weighted sum of the polynomials' values at its point
module _ (p t step k : ℕ) (ws vs cs : List ℕ) (wide : t < k) (many : length vs ≡ length ws) (x : ℕ) where
  fs : List (List ℕ)
  fs = shared_by t step vs cs

  each : (i : ℕ) → length (polynomial_at t step k vs cs i) ≡ k
  each i = length-padded k (get_or (shared_by t step vs cs) i []) (omega (arith, shared_short t step vs cs i))

  in_rows : flat_map (padded k) fs ≡ rows_of (polynomial_at t step k vs cs) (length ws)
  unfolding fs
  in_rows = sym (ap (rows_of (polynomial_at t step k vs cs)) (sym (length_shared t step vs cs ∙ many)) ∙ rows-flat (padded k) [] (shared_by t step vs cs))

  piece_is : (d : ℕ) → d < length ws → piece_by p k (powers p x k) (flat_map (padded k) fs) d ≡ eval p (get_or fs d []) x
  unfolding piece_by fs
  piece_is d l =
      let f : List ℕ = polynomial_at t step k vs cs d in
      ap (λ (r : List ℕ). dot p (powers p x k) (take k (drop (k * d) r))) in_rows
      ∙ ap (dot p (powers p x k)) (row_at (polynomial_at t step k vs cs) k each (length ws) d l)
      ∙ ap (λ (n : ℕ). dot p (powers p x n) f) (sym (each d))
      ∙ eval-powers p f x
      ∙ eval-padded p k (get_or (shared_by t step vs cs) d []) x

  pub shares_mixed : share_at p k ws (flat_map (padded k) (shared_by t step vs cs)) x ≡ mixed_at p ws (shared_by t step vs cs) x
  unfolding share_at column_sum pieces_by mixed_at fs
  shares_mixed =
      plain-dot p ws _
      ∙ ap (dot p ws)
      (tab-ext _ _ (length ws) piece_is
      ∙ sym (ap (map (λ f. eval p f x)) (list-tab fs []) ∙ tab-map (λ f. eval p f x) (λ i. get_or fs i []) (length fs) ∙ ap (tab (λ i. eval p (get_or fs i []) x)) (length_shared t step vs cs ∙ many)))

module _ (p n m a b : ℕ) (table : List ℕ) where
  pub of_below : Ready p → all_below p (products_of p n m a b table) ≡ true
  unfolding products_of
  of_below r =
      let f : ℕ → ℕ = λ j. mul p (get_or table (n * a + j) 0) (get_or table (n * b + j) 0) in
      at-all_below p (tab f m) (λ i l. rw (get_or-tab f m i 0 (rw length-tab at l)) (canon-lt (pos r.prime) (mul_canon (get_or table (n * a + i) 0) (get_or table (n * b + i) 0))))

-- k coefficients for each of the dealers
module _ (t k : ℕ) (few : t < 8) (e : k ≡ terms t) (ws points : List ℕ) (lw : length ws ≤ length points) (lp : length points ≤ 15) where
  used_few : k * length ws ≤ 120
  used_few = mul-le-mul {n₁ = k} {m₁ = length ws} {n₂ = 8} {m₂ = 15} (terms_small t k e few) (omega arith)

  pub used_fits : Fits w64 (k * length ws)
  used_fits = record { fits = omega (arith, used_few) }

  module _ (d : List ℕ) (room : terms t * length ws ≤ length d) where
    pub used_within : k * length ws ≤ length d
    used_within = rw e room

    used-long : length (take (k * length ws) d) ≡ k * length ws
    used-long = length-take-le (k * length ws) d used_within

    pub used-counted : k * length ws ≡ length (take (k * length ws) d)
    used-counted = sym used-long

    pub values-room : (vs : List ℕ) → length vs ≡ length ws → length (take (k * length ws) d) ≡ k * length vs
    values-room vs many = used-long ∙ ap (λ (i : ℕ). k * i) (sym many)

    module _ (ys : List ℕ) (kept : length ys ≡ length (take (k * length ws) d)) where
      ys-front : take (k * length ws) (ys ++ drop (k * length ws) d) ≡ ys
      ys-front = front-is d ys (k * length ws) used_within kept

      ys-sized : length (take (k * length ws) (ys ++ drop (k * length ws) d)) ≡ k * length ws
      ys-sized = ap length ys-front ∙ kept ∙ used-long

      pub dealt-within : k * length ws ≤ length (ys ++ drop (k * length ws) d)
      dealt-within = rw (length-append ys (drop (k * length ws) d)) (omega (arith, kept, used-long))

      pub dealt-again : k * length ws ≡ length (take (k * length ws) (ys ++ drop (k * length ws) d))
      dealt-again = sym ys-sized

      pub dealt-room : terms t * length ws ≤ length (take (k * length ws) (ys ++ drop (k * length ws) d))
      dealt-room = rw (ys-sized, e) (omega arith)

      module _ (p s step at : ℕ) (vs coins : List ℕ) (same : s ≡ t) (is : ys ≡ flat_map (padded k) (shared_by s step vs (drop at (numbers coins)))) where
        pub dealt-elements : Ready p → all_below p vs ≡ true → Spaced p s step (length vs) at (numbers coins) → all_below p (take (k * length ws) (ys ++ drop (k * length ws) d)) ≡ true
        dealt-elements r hv c = rw (ys-front, is) (shared_below p s step k at (pos r.prime) vs (numbers coins) hv c)

        pub row-mixed : (i : ℕ) (row : List ℕ) → length vs ≡ length ws → take i row ≡ map (share_at p (terms t) ws (take (k * length ws) (ys ++ drop (k * length ws) d))) points
            → take i row ≡ map (mixed_at p ws (shared_by s step vs (drop at (numbers coins)))) points
        row-mixed i row many r =
            r
            ∙ ap₂ (λ (j : ℕ) (fs : List ℕ). map (share_at p j ws fs) points) (sym e) (ys-front ∙ is)
            ∙ ap (λ (h : ℕ → ℕ). map h points) (fun_ext (λ z. shares_mixed p s step k ws vs (drop at (numbers coins)) (rw same (terms_above t k e (omega arith))) many z))

  pub dealt-wide : (s : ℕ) → s ≡ t → s < k
  dealt-wide s same = rw same (terms_above t k e (omega arith))

pub dealt-spaced : (p t step m at : ℕ) (coins : List ℕ) → Spaced p t step m at (numbers coins) → at + step * m + t ≤ length coins / width + step
dealt-spaced p t step m at coins c = omega (arith, c.room, numbers-length coins)

-- As it is: answers name this set, since the check leaves their goals open by `using` alone.
-- of coins in a row, the first t of each `step`
pub coined_spaced : (p t step m at : ℕ) (cs : List ℕ) → Coined p step m at cs → t ≤ step → Spaced p t step m at cs
coined_spaced p t step m at cs c l = record {
  room = omega (arith, c.room);
  below =
      λ d lt.
      rw (
        ← drop-drop (step * d) at cs,
        part_front (drop at cs) (step * m) (step * d) t (omega (arith, row_room step d m lt)),
      )
      (all_below-take p t _ (all_below-drop p (step * d) (take (step * m) (drop at cs)) c.below));
}

-- the room of few parties' polynomials, and of all's
module _ (t : ℕ) (ws points : List ℕ) (lw : length ws ≤ length points) where
  pub room_small : t < 4 → length points ≤ 5 → terms t * length ws ≤ 20
  room_small l few =
      let k : t + 1 ≡ terms t = terms_few t l in
      mul-le-mul {n₁ = terms t} {m₁ = length ws} {n₂ = 4} {m₂ = 5} (omega arith) (omega arith)

  pub room_whole : t < 8 → length points ≤ 15 → terms t * length ws ≤ 120
  room_whole l lp = used_few t (terms t) l refl ws points lw lp

pub ruleset rooming = (rules, room_small, room_whole)

pub ruleset weighing = (rules, used_fits, used_within, used-counted, values-room, dealt-within, dealt-again, dealt-room, dealt-elements, dealt-wide, dealt-spaced, row-mixed)

-- the dealers' products
module _ (ws points : List ℕ) (lw : length ws ≤ length points) (lp : length points ≤ 15) (vs : List ℕ) (many : length vs ≡ 15) where
  pub values_long : length (take (length ws) vs) ≡ length ws
  values_long = length-take-le (length ws) vs (omega arith)

  pub values_spaced : (p t at : ℕ) (cs : List ℕ) → Coined p t (length ws) at cs → Spaced p t t (length (take (length ws) vs)) at cs
  values_spaced p t at cs c = rw values_long (coined_spaced p t t (length ws) at cs c (omega arith))

  module _ (p n x y : ℕ) (table : List ℕ) (products : take (length ws) vs ≡ products_of p n (length ws) x y table) where
    pub products_below : Ready p → all_below p (take (length ws) vs) ≡ true
    products_below r = rw products (of_below p n (length ws) x y table r)

    pub products_mixed : (t : ℕ) (i : ℕ) (row cs : List ℕ) → take i row ≡ map (mixed_at p ws (shared_by t t (take (length ws) vs) cs)) points
        → take i row ≡ map (mixed_at p ws (shared_by t t (products_of p n (length ws) x y table) cs)) points
    products_mixed t i row cs r = rw products at r

pub ruleset multiplying = (rules, values_long, values_spaced, products_below, products_mixed)

-- ---- what is worked out once for a plan
module _ (t k : ℕ) (e : k ≡ terms t) (points : List ℕ) (many : length points ≤ 15) where
  powers_few : k * length points ≤ 240
  powers_few = mul-le-mul {n₁ = k} {m₁ = length points} {n₂ = 16} {m₂ = 15} (terms_within t k e) many

  pub powers_fit : Fits w64 (k * length points)
  powers_fit = record { fits = omega (arith, powers_few) }

  module _ (rows : List ℕ) (room : 240 ≤ length rows) where
    pub powers-within : k * length points ≤ length rows
    powers-within = omega (arith, powers_few)

    pub powers-long : length (take (k * length points) rows) ≡ k * length points
    powers-long = length-take-le (k * length points) rows powers-within

    pub powers-count : k * length points ≡ length (take (k * length points) rows)
    powers-count = sym powers-long

    pub powered : (p : ℕ) (ys : List ℕ) → length ys ≡ length (take (k * length points) rows) → ys ≡ power_rows p k points → Powered p (terms t) points (ys ++ drop (k * length points) rows)
    powered p ys kept is =
        let a : length ys ≡ k * length points = kept ∙ powers-long in
        rw (← e) (record { room = rw (length-append ys (drop (k * length points) rows)) (omega arith); front = take_at ys (drop (k * length points) rows) (k * length points) a ∙ is })

    pub powers-kept : (ys : List ℕ) → length ys ≡ length (take (k * length points) rows) → drop (terms t * length points) (ys ++ drop (k * length points) rows) ≡ drop (terms t * length points) rows
    powers-kept ys kept = rw (← e) (drop_at ys (drop (k * length points) rows) (k * length points) (kept ∙ powers-long))

-- the dealers
pub dealers_all : (t : ℕ) (points : List ℕ) → length points < t + t + 1 → Dealers t points (length points)
dealers_all t points l = record { eq = omega (arith, length-take (t + t + 1) points) }

pub dealers-some : (t : ℕ) (points : List ℕ) → t + t + 1 ≤ length points → Dealers t points (t + t + 1)
dealers-some t points l = record { eq = sym (length-take-le (t + t + 1) points l) }

pub ruleset counting_dealers = (rules, dealers_all, dealers-some)

module _ (t m : ℕ) (points : List ℕ) (h : Dealers t points m) where
  e : m ≡ length (take (t + t + 1) points)
  e = h.eq

  dealers_are : take m points ≡ take (t + t + 1) points
  dealers_are =
      ap (take m) (sym (take-append-drop (t + t + 1) points)) ∙ take_at (take (t + t + 1) points) (drop (t + t + 1) points) m (sym e)

  pub dealers_count : m ≡ length (take m points)
  dealers_count = e ∙ ap length (sym dealers_are)

  pub dealers_below : (p : ℕ) → all_below p points ≡ true → all_below p (take m points) ≡ true
  dealers_below p b = all_below-take p m points b

  pub dealers_in : m ≤ length points
  dealers_in = omega (arith, e, length-take (t + t + 1) points)

  module _ (many : length points ≤ 15) (ws : List ℕ) (wide : 15 ≤ length ws) where
    pub weights-in : m ≤ length ws
    weights-in = omega (arith, dealers_in)

    pub weights-count : m ≡ length (take m ws)
    weights-count = sym (length-take-le m ws weights-in)

    pub weights-long : length (take m ws) ≡ length (take m points)
    weights-long = sym weights-count ∙ dealers_count

    pub weights-kept : (zs : List ℕ) → length zs ≡ length (take m ws)
        → drop (length (take (t + t + 1) points)) (zs ++ drop m ws) ≡ drop (length (take (t + t + 1) points)) ws
    weights-kept zs kept = rw (← e) (drop_at zs (drop m ws) m (kept ∙ sym weights-count))

    pub weighted : (p : ℕ) (zs : List ℕ) → length zs ≡ length (take m ws) → zs ≡ weights p 0 (take m points) → Weighted p t points (zs ++ drop m ws)
    weighted p zs kept is =
        let b : length zs ≡ m = kept ∙ sym weights-count in
        record {
          wide = rw (length-append zs (drop m ws)) (omega arith);
          weighs = rw (← e) (take_at zs (drop m ws) m b) ∙ is ∙ ap (weights p 0) dealers_are;
        }

-- what is prepared for a field, for its sums
pub powered_for : (p q k : ℕ) (points rows : List ℕ) → q ≡ p → Powered p k points rows → Powered q k points rows
powered_for p q k points rows e b = rw e b

module _ (p t m : ℕ) (points ws : List ℕ) (h : Dealers t points m) (w : Weighted p t points ws) where
  pub dealers_weights : take m ws ≡ weights p 0 (take (t + t + 1) points)
  dealers_weights = rw h.eq w.weighs

  pub dealers_counted : length (take m ws) ≤ length points
  dealers_counted =
      omega (arith, ap length dealers_weights, length-weights p 0 (take (t + t + 1) points), length-take (t + t + 1) points)

  pub dealers_elements : (q : ℕ) → q ≡ p → Ready p → all_below q (take m ws) ≡ true
  dealers_elements q e r = rw (e, dealers_weights) (weights_below r.prime 0 (take (t + t + 1) points))

pub ruleset preparing = (rules, ready_positive, powers_fit, powers-within, powers-long, powers-count, powered, powers-kept, dealers_count, dealers_below, dealers_in, weights-in, weights-count, weights-long, weighted, weights-kept)

pub ruleset made_ready = (rules, dealers_in, powered_for, dealers_counted, dealers_elements)

-- ---- one point's powers
module _ (p t k : ℕ) (points rows : List ℕ) (h : Powered p (terms t) points rows) (e : k ≡ terms t) (j : ℕ) (l : j < length points) where
  pub point_row_within : k * j + k ≤ length rows
  point_row_within = omega (arith, h.room, ap (λ (m : ℕ). m * length points) e, row_room k j (length points) l)

  pub point_row_fits : length rows * 8 < 2 ^ 63 → Fits w64 (k * j)
  point_row_fits f = record { fits = omega (arith, point_row_within) }

  pub point_row_end_fits : length rows * 8 < 2 ^ 63 → Fits w64 (k * j + k)
  point_row_end_fits f = record { fits = omega (arith, point_row_within) }

  at_point : take (k * j + k - k * j) (drop (k * j) rows) ≡ powers p (get_or points j 0) k
  at_point = let q : k * j + k - k * j ≡ k = omega arith in rw (q, e) (power-row p (terms t) points rows j h l)

  at_point_long : length (take (k * j + k - k * j) (drop (k * j) rows)) ≡ k
  at_point_long = ap length at_point ∙ length-powers p (get_or points j 0) k

  pub point_row_some : t < 16 → t < length (take (k * j + k - k * j) (drop (k * j) rows))
  point_row_some few = omega (arith, at_point_long, terms_above t k e few)

  pub point_row_few : length (take (k * j + k - k * j) (drop (k * j) rows)) ≤ 16
  point_row_few = omega (arith, at_point_long, terms_within t k e)

  pub point_row_is : take (k * j + k - k * j) (drop (k * j) rows) ≡ powers p (get_or points j 0) (length (take (k * j + k - k * j) (drop (k * j) rows)))
  point_row_is = at_point ∙ ap (powers p (get_or points j 0)) (sym at_point_long)

  pub point_row_long : length (take (k * j + k - k * j) (drop (k * j) rows)) ≡ terms t
  point_row_long = at_point_long ∙ e

pub ruleset finding_row = (rules, point_row_long, point_row_within, point_row_fits, point_row_end_fits, point_row_some, point_row_few, point_row_is)
