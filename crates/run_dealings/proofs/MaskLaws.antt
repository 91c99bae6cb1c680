-- The masked products of a multiply gate by truncation.
--     masking       the masks: the values of the sum of the dealings of 0
--     masked        each product with its mask
-- Assumes nothing.
use mathlib.Core.Path.{◌≡◌, sym, ap, ap₂, ◌∙◌}
use mathlib.Core.Bool.{true}
use mathlib.Core.List.{List, [], ◌∷◌, ◌++◌, map}
use Prim.Native.Nat.{ℕ, zero, suc, ◌+◌, ◌-◌, ◌*◌, ◌<◌, ◌≤◌}
use native.Mathlib.Omega.{arith}
use borrow.Author.Rules.{rules}
use borrow.Author.Tests.{lt-ltb}
use lib.ListN.{length, take, drop, get_or, replicate, length-replicate, length-append, length-drop}
use lib.Seq.{length-take-le, take_all, take_at}
use mir.Syntax.{w64}
use mir.Val.{Fits}
use Rattle.numbers.specs.Tables.{tab}
use Rattle.numbers.specs.Bytes.{all_below}
use Rattle.numbers.proofs.Tables.{length-tab, get_or-tab, tab-ext}
use Rattle.numbers.proofs.Below.{all_below_at, all_below-tab, all_below-take, all_below-drop}
use Rattle.field.specs.Mod.{add, mul}
use Rattle.field.specs.Field.{Is, Ready}
use Rattle.field.proofs.Solve.{canon-lt, #, quote, solve}
use Rattle.field.proofs.Inverse.{pos}
use Rattle.sharing_laws.specs.Poly.{eval}
use Rattle.sharing_laws.specs.Interp.{dot}
use Rattle.sharing_laws.proofs.Sums.{list_canon}
use Rattle.sharing_laws.proofs.Alls.{map-tab}
use Rattle.sharing.proofs.Coding.{entry_below}
use Rattle.run_dealings.specs.Rows.{terms, power, powers, products_of, shared_by, summed_at, masked_of, Coined, Spaced}
use Rattle.run_dealings.specs.Columns.{summed_coefficient, total_of}
use Rattle.run_dealings.proofs.PowerLaws.{eval-powers, powers_below}
use Rattle.run_dealings.proofs.PolynomialLaws.{terms_small, terms_above}
use Rattle.run_dealings.proofs.DealingLaws.{coined_spaced, front-is, of_below}
use Rattle.run_dealings.proofs.SumLaws.{total_dealt}
use Rattle.run_dealings.proofs.RowLaws.{get_or-values}
use Rattle.run_dealings.proofs.TruncationLaws.{part-long, zeros-are, zeros-elements, masks_below}

module _ (t : ℕ) (few : t < 8) where
  pub double-fits : Fits w64 (t + t)
  double-fits = record { fits = omega arith }

  pub step_fits : Fits w64 (3 * t)
  step_fits = record { fits = omega arith }

module _ (p t : ℕ) (points cs : List ℕ) (few : length points ≤ 15) where
  pub mask_spaced : (at : ℕ) → Coined p (3 * t) (length points) at cs → Spaced p (t + t) (3 * t) (length (take (length points) (replicate {A = ℕ} 15 0))) at cs
  mask_spaced at c =
      rw (part-long (length points) (replicate 15 0) (length-replicate {A = ℕ} 15 0) few) (coined_spaced p (t + t) (3 * t) (length points) at cs c (omega arith))

-- ---- a polynomial in two halves
module _ (p x : ℕ) where
  halves : (k : ℕ) (f : List ℕ) → eval p f x ≡ add p (eval p (take k f) x) (mul p (power p x k) (eval p (drop k f) x))
  unfolding eval power
  halves zero [] = solve p search quote (omega arith)
  halves zero (a ∷ g) = solve p (search (quote, # a, # x, # (eval p g x))) (omega arith)
  halves (suc k) [] = solve p (search (quote, # (power p x k), # x)) (omega arith)
  halves (suc k) (a ∷ g) =
      rw (halves k g) (solve p (search (quote, # a, # x, # (power p x k), # (eval p (take k g) x), # (eval p (drop k g) x))) (omega arith))

  two_terms : (next low high : ℕ) → dot p (1 ∷ next ∷ []) (low ∷ high ∷ []) ≡ add p low (mul p next high)
  unfolding dot
  two_terms next low high = solve p (search (quote, # next, # low, # high)) (omega arith)

  module _ (k : ℕ) (row f : List ℕ) (low high next : ℕ) (some : 1 ≤ k) (are : row ≡ powers p x k) (long : length f ≡ k + k) where
    half_value : (g : List ℕ) (v : ℕ) → length g ≡ k → Is p (dot p row g) v → v ≡ eval p g x
    half_value g v e is = is.eq ∙ ap (λ (ws : List ℕ). dot p ws g) (are ∙ ap (powers p x) (sym e)) ∙ eval-powers p g x

    next_power : Is p (mul p (get_or row (k - 1) 0) x) next → next ≡ power p x k
    unfolding power powers
    next_power is =
        let q : suc (k - 1) ≡ k = omega arith in
        is.eq ∙ ap (λ (w : ℕ). mul p w x) (ap (λ (ws : List ℕ). get_or ws (k - 1) 0) are ∙ get_or-tab (power p x) k (k - 1) 0 (omega arith)) ∙ ap (power p x) q

    pub whole_is : (v : ℕ) → Is p (dot p row (take k f)) low → Is p (dot p row (take (length f - k) (drop k f))) high → Is p (mul p (get_or row (k - 1) 0) x) next
        → Is p (dot p (1 ∷ next ∷ []) (low ∷ high ∷ [])) v → Is p (eval p f x) v
    whole_is v il ih ip iv =
        let el : low ≡ eval p (take k f) x = half_value (take k f) low (length-take-le k f (omega (arith, long))) il in
        let eh : high ≡ eval p (drop k f) x = half_value (drop k f) high (omega (arith, length-drop k f, long)) (rw (take_all (length f - k) (drop k f) (omega (arith, length-drop k f))) at ih) in
        record {
          eq = iv.eq ∙ two_terms next low high ∙ ap₂ (add p) el (ap₂ (mul p) (next_power ip) eh) ∙ sym (halves k f);
          lt = iv.lt;
        }

pub pair_below : (p a b : ℕ) → a < p → b < p → all_below p (a ∷ b ∷ []) ≡ true
unfolding all_below
pair_below p a b l m = rw (lt-ltb a p l, lt-ltb b p m)

pub one_low : (p : ℕ) → Ready p → 1 < p
one_low p r = r.prime.above

-- the powers of the point, k of them
module _ (p t x : ℕ) (row f : List ℕ) (count : length row ≡ terms t) (long : length f ≡ terms t + terms t) where
  pub half_within : length row ≤ length f
  half_within = omega (arith, count, long)

  pub low_counted : length row ≤ length (take (length row) f)
  low_counted = omega (arith, length-take-le (length row) f half_within)

  pub high_counted : length row ≤ length (drop (length row) f)
  high_counted = omega (arith, length-drop (length row) f, count, long)

  pub doubled : length f ≡ length row + length row
  doubled = omega (arith, count, long)

pub row_some : (t k : ℕ) → t < k → 1 ≤ k
row_some t k l = omega arith

pub row_last : (t k : ℕ) → t < k → k - 1 < k
row_last t k l = omega arith

pub row_elements : (p x : ℕ) (row : List ℕ) → Ready p → row ≡ powers p x (length row) → all_below p row ≡ true
row_elements p x row r e = rw e (powers_below p x (length row) r)

-- a row by a rule is the rule's list
pub row_of_points : (f : ℕ → ℕ) (points row : List ℕ) → take (length points) row ≡ tab (λ j. f (get_or points j 0)) (length points) → take (length points) row ≡ map f points
row_of_points f points row e = e ∙ sym (map-tab f points)

-- the sum of the dealings of 0, as many coefficients as two power rows have
module _ (t k : ℕ) (small : t < 8) (e : k ≡ terms t) where
  pub twice_within : k + k ≤ 16
  twice_within = omega (arith, terms_small t k e small)

  pub twice_counted : (d : List ℕ) → length d ≡ 16 → k + k ≡ length (take (k + k) d)
  twice_counted d e = sym (length-take-le (k + k) d (omega (arith, twice_within)))

  pub twice_fits : Fits w64 (k + k)
  twice_fits = record { fits = omega (arith, twice_within) }

  module _ (p : ℕ) (d ys vs cs : List ℕ) (long : length d ≡ 16) (kept : length ys ≡ length (take (k + k) d)) (is : ys ≡ total_of p (length (take (k + k) d)) (shared_by (t + t) (3 * t) vs cs)) where
    sum_is : take (k + k) (ys ++ drop (k + k) d) ≡ total_of p (k + k) (shared_by (t + t) (3 * t) vs cs)
    sum_is =
        front-is d ys (k + k) (omega (arith, twice_within)) kept ∙ is
        ∙ ap (λ (n : ℕ). total_of p n (shared_by (t + t) (3 * t) vs cs)) (length-take-le (k + k) d (omega (arith, twice_within)))

    pub sum_there : k + k ≤ length (ys ++ drop (k + k) d)
    sum_there = rw (length-append ys (drop (k + k) d)) (omega (arith, kept, length-take-le (k + k) d (omega (arith, twice_within))))

    pub sum_long : length (take (k + k) (ys ++ drop (k + k) d)) ≡ terms t + terms t
    sum_long = rw (← e) (length-take-le (k + k) (ys ++ drop (k + k) d) sum_there)

    pub sum_elements : Ready p → all_below p (take (k + k) (ys ++ drop (k + k) d)) ≡ true
    unfolding total_of summed_coefficient
    sum_elements r = rw sum_is (all_below-tab p _ (k + k) (λ i l. canon-lt (pos r.prime) (list_canon p _)))

    -- its values
    pub sum_value : (n x v : ℕ) → n ≤ 15 → vs ≡ take n (replicate 15 0) → Is p (eval p (take (k + k) (ys ++ drop (k + k) d)) x) v
        → v ≡ summed_at p (shared_by (t + t) (3 * t) (replicate n 0) cs) x
    sum_value n x v few zeros i =
        i.eq ∙ ap (λ (f : List ℕ). eval p f x) sum_is ∙ total_dealt p (k + k) (t + t) (3 * t) vs cs x (omega (arith, terms_above t k e (omega arith)))
        ∙ ap (λ (zs : List ℕ). summed_at p (shared_by (t + t) (3 * t) zs cs) x) (zeros ∙ zeros-are n few)

pub ruleset halving = (rules, all_below-take, all_below-drop, all_below_at, entry_below, whole_is, pair_below, one_low, half_within, low_counted, high_counted, doubled, row_some, row_last, row_elements)

pub ruleset masking = (rules, double-fits, step_fits, part-long, mask_spaced, zeros-elements, twice_within, twice_fits, sum_there, sum_long, sum_elements)

-- ---- each product with its mask
module _ (p t : ℕ) (points table cs : List ℕ) (a b : ℕ) where
  pub masks_elements : (right : List ℕ) → Ready p → right ≡ map (summed_at p (shared_by (t + t) (3 * t) (replicate (length points) 0) cs)) points → all_below p right ≡ true
  masks_elements right r e = masks_below p t points [] (shared_by (t + t) (3 * t) (replicate (length points) 0) cs) right r e

  pub masked_all : (left right ys rest : List ℕ) → left ≡ products_of p (length points) (length points) a b table
      → right ≡ map (summed_at p (shared_by (t + t) (3 * t) (replicate (length points) 0) cs)) points
      → ys ≡ tab (λ j. add p (get_or left j 0) (get_or right j 0)) (length left)
      → take (length points) (ys ++ rest) ≡ masked_of p t points a b table cs
  unfolding masked_of products_of
  masked_all left right ys rest el er is =
      let n : length left ≡ length points = ap length el ∙ length-tab _ (length points) in
      take_at ys rest (length points) (ap length is ∙ length-tab _ (length left) ∙ n)
      ∙ is
      ∙ ap (tab (λ j. add p (get_or left j 0) (get_or right j 0))) n
      ∙ tab-ext _ _ (length points)
      (λ j l.
      ap₂ (add p) (ap (λ (r : List ℕ). get_or r j 0) el)
      (ap (λ (r : List ℕ). get_or r j 0) er ∙ get_or-values (summed_at p (shared_by (t + t) (3 * t) (replicate (length points) 0) cs)) points j l))

pub products_elements : (p : ℕ) (points table left : List ℕ) (a b : ℕ) → Ready p → left ≡ products_of p (length points) (length points) a b table → all_below p left ≡ true
products_elements p points table left a b r e = rw e (of_below p (length points) (length points) a b table r)

pub ruleset masked = (rules, part-long, masks_elements, products_elements, masked_all)
