-- Values of polynomials by powers of the point.
--     eval-powers                  the value at x is the weighted sum of the coefficients with the powers of x
--     powering                     what closes the needs of the loop that fills a row of powers
--     rows-flat                    rows one after the other, by index and by list
--     power-row                    one of the power rows
-- Assumes nothing.
use mathlib.Core.Path.{◌≡◌, refl, sym, ap, ◌∙◌}
use mathlib.Core.Bool.{true}
use mathlib.Core.List.{List, [], ◌∷◌, ◌++◌, map, flat_map, append_assoc, append-nil}
use Prim.Native.Nat.{ℕ, zero, suc, ◌+◌, ◌-◌, ◌*◌, ◌^◌, ◌<◌, ◌≤◌}
use native.Mathlib.Numerals.{add-one}
use native.Mathlib.Omega.{arith}
use borrow.Author.Rules.{rules}
use lib.ListN.{length, take, drop, set, get_or, length-set}
use mir.Syntax.{w64}
use mir.Val.{Fits}
use Rattle.numbers.specs.Tables.{tab}
use Rattle.numbers.specs.Bytes.{all_below}
use Rattle.numbers.proofs.Tables.{tab-cons, tab-map, length-tab, get_or-tab, row_room}
use Rattle.numbers.proofs.Below.{at-all_below}
use Rattle.numbers.proofs.Fills.{Filled, fill_none, fill_next, filled}
use Rattle.field.specs.Mod.{mul}
use Rattle.field.specs.Field.{Is, Ready}
use Rattle.field.proofs.Solve.{canon-lt, mul_canon, #, quote, solve}
use Rattle.field.proofs.Inverse.{pos}
use Rattle.sharing_laws.specs.Poly.{eval}
use Rattle.sharing_laws.specs.Interp.{dot}
use Rattle.sharing_laws.specs.Sharing.{rows_of}
use Rattle.sharing.proofs.Coding.{entry_below}
use Rattle.sharing_openings.proofs.Rows.{Written, none_written, room, piece_long, written_next, written_done}
use Rattle.run_dealings.specs.Rows.{power, powers, power_rows, Powered}
use Rattle.numbers.proofs.Rows.{flat-part}
use Rattle.run_dealings.proofs.RowLaws.{part_front}

-- ---- the value of a polynomial
module _ (p : ℕ) where
  pub dot_scaled : (c : ℕ) (ws vs : List ℕ) → dot p (map (λ w. mul p w c) ws) vs ≡ mul p c (dot p ws vs)
  unfolding dot
  dot_scaled c [] vs = solve p (search (quote, # c)) (omega arith)
  dot_scaled c (w ∷ ws) [] = solve p (search (quote, # c)) (omega arith)
  dot_scaled c (w ∷ ws) (v ∷ vs) = rw (dot_scaled c ws vs) (solve p (search (quote, # w, # c, # v, # (dot p ws vs))) (omega arith))

  pub powers-cons : (x m : ℕ) → powers p x (suc m) ≡ 1 ∷ map (λ w. mul p w x) (powers p x m)
  unfolding powers power
  powers-cons x m = tab-cons (power p x) m ∙ ap (λ (l : List ℕ). 1 ∷ l) (sym (tab-map (λ w. mul p w x) (power p x) m))

  pub eval-powers : (f : List ℕ) (x : ℕ) → dot p (powers p x (length f)) f ≡ eval p f x
  unfolding dot eval
  eval-powers [] x = at_none (powers p x 0)
    where
      at_none : (ws : List ℕ) → dot p ws [] ≡ 0
      at_none [] = refl
      at_none (w ∷ ws) = refl
  eval-powers (a ∷ f) x =
      rw (powers-cons x (length f), dot_scaled x (powers p x (length f)) f, eval-powers f x) (solve p (search (quote, # a, # x, # (eval p f x))) (omega arith))

  -- ---- the loop that fills a row
  pub length-powers : (x m : ℕ) → length (powers p x m) ≡ m
  unfolding powers
  length-powers x m = length-tab (power p x) m

power_below : (p x k : ℕ) → Ready p → power p x k < p
unfolding power
power_below p x zero r = r.prime.above
power_below p x (suc k) r = canon-lt (pos r.prime) (mul_canon (power p x k) x)

pub powers_below : (p x m : ℕ) → Ready p → all_below p (powers p x m) ≡ true
unfolding powers
powers_below p x m r = at-all_below p (tab (power p x) m) (λ i l. rw (get_or-tab (power p x) m i 0 (rw length-tab at l)) (power_below p x i r))

-- the invariant: acc is the next power
pub record Powering (p x acc : ℕ) (d₀ d : List ℕ) (i : ℕ) : Type 0 where
  pub filled : Filled (power p x) d₀ d i
  pub is : acc ≡ power p x i
  pub small : acc < p

module _ (p x : ℕ) (r : Ready p) where
  pub power-none : (d : List ℕ) → Powering p x 1 d d 0
  unfolding power
  power-none d = record { filled = record { within = omega arith; long = refl; front = fill_none (power p x) d }; is = refl; small = r.prime.above }

  module _ (acc : ℕ) (d₀ d : List ℕ) (i : ℕ) (h : Powering p x acc d₀ d i) where
    pub power_next : (v : ℕ) → i < length d → Is p (mul p acc x) v → Powering p x v d₀ (set d i acc) (i + 1)
    unfolding power
    power_next v l e = record {
      filled = record {
        within = omega (arith, h.filled.long);
        long = length-set d i acc ∙ h.filled.long;
        front = fill_next (power p x) i d acc l h.is h.filled.front;
      };
      is = rw (add-one i, ← h.is) e.eq;
      small = e.lt;
    }

    pub powers-filled : length d ≤ i → d ≡ powers p x (length d₀)
    unfolding powers
    powers-filled l = filled (power p x) d₀ d i l h.filled

-- As it is: answers name this set, since the check leaves their goals open by `using` alone.
pub ruleset powering = (rules, power-none, power_next, powers-filled)

-- ---- the rows
rows-cons : (g : ℕ → List ℕ) (n : ℕ) → rows_of g (suc n) ≡ g 0 ++ rows_of (λ k. g (suc k)) n
unfolding rows_of
rows-cons g zero = sym (append-nil (g 0))
rows-cons g (suc n) = ap (λ (l : List ℕ). l ++ g (suc n)) (rows-cons g n) ∙ append_assoc (g 0) (rows_of (λ k. g (suc k)) n) (g (suc n))

pub rows-flat : {A : Type 0} (F : A → List ℕ) (d : A) (l : List A) → rows_of (λ i. F (get_or l i d)) (length l) ≡ flat_map F l
unfolding rows_of flat_map
rows-flat F d [] = refl
rows-flat F d (x ∷ l) = rows-cons (λ i. F (get_or (x ∷ l) i d)) (length l) ∙ ap (λ (r : List ℕ). F x ++ r) (rows-flat F d l)

-- row i
abbrev pub powers_at : ℕ → ℕ → List ℕ → ℕ → List ℕ
powers_at p k points i = powers p (get_or points i 0) k

module _ (p k : ℕ) (points d₀ d : List ℕ) (i : ℕ) (h : Written (powers_at p k points) k (length points) d₀ d i) where
  pub row_end : i < length points → k * i + k ≤ length d
  row_end l = room h l

  pub row_start_fits : i < length points → length d₀ < 2 ^ 64 → k * i < 2 ^ 64
  row_start_fits l f = omega (arith, room h l, h.long)

  pub row_fits : i < length points → length d₀ < 2 ^ 64 → k * i + k < 2 ^ 64
  row_fits l f = omega (arith, room h l, h.long)

  pub place_fits : i < length points → length d₀ * 8 < 2 ^ 63 → Fits w64 (k * i * 8)
  place_fits l f = record { fits = omega (arith, room h l, h.long) }

  pub row_written : (ys : List ℕ) → i < length points → length ys ≡ length (take (k * i + k - k * i) (drop (k * i) d)) → ys ≡ powers p (get_or points i 0) (length (take (k * i + k - k * i) (drop (k * i) d)))
      → Written (powers_at p k points) k (length points) d₀ (take (k * i) d ++ (ys ++ drop (k * i + k - k * i) (drop (k * i) d))) (i + 1)
  row_written ys l kept is = written_next h l ys kept (is ∙ ap (powers p (get_or points i 0)) (piece_long h l))

  pub rows_written : length points ≤ i → d ≡ power_rows p k points
  unfolding power_rows
  rows_written l = written_done (powers_at p k points) k (length points) d₀ d i l h ∙ rows-flat (λ x. powers p x k) 0 points

-- As it is: answers name this set, since the check leaves their goals open by `using` alone.
pub ruleset writing = (rules, entry_below, none_written, row_end, row_fits, row_start_fits, place_fits, row_written, rows_written)

-- a row of those that stand in front
pub power-row : (p k : ℕ) (points rows : List ℕ) (j : ℕ) → Powered p k points rows → j < length points → take k (drop (k * j) rows) ≡ powers p (get_or points j 0) k
unfolding power_rows
power-row p k points rows j h l =
    part_front rows (k * length points) (k * j) k (row_room k j (length points) l)
    ∙ rw h.front (flat-part (λ x. powers p x k) k (λ x. length-powers p x k) points j 0 l)
