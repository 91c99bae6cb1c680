-- The code's loops: what each says of its definition, with a ruleset for the needs of each function.
--     Valued, valuing       the value of a polynomial, from the last coefficient
--     dealing               its values at the points
--     Summed, summing       the weighted sum, with one remainder
-- Assumes nothing.
use mathlib.Core.Path.{◌≡◌, refl, sym, ap, ◌∙◌}
use mathlib.Core.Bool.{Bool, true, false}
use mathlib.Core.List.{List, [], ◌∷◌, map, reverse}
use Prim.Native.Nat.{ℕ, suc, ◌+◌, ◌*◌, ◌-◌, ◌%◌, ◌^◌, ◌≤◌, ◌<◌}
use native.Mathlib.Numerals.{add-one}
use native.Mathlib.Nat.{mod-lt}
use native.Mathlib.Omega.{arith}
use borrow.Author.Rules.{rules}
use borrow.Author.Tests.{ltb-true, ltb-false}
use lib.Dec.{ltb}
use lib.ListN.{length, drop, get_or, get_or-eq_default, drop_of_length-le}
use lib.Seq.{drop-cons, drop-length}
use Rattle.std.proofs.lemmas.List.{length-reverse}
use Rattle.numbers.specs.Tables.{tab}
use Rattle.numbers.specs.Bytes.{all_below}
use Rattle.numbers.proofs.Below.{all_below_at}
use Rattle.numbers.proofs.Fills.{Filled, filling, filled}
use Rattle.field.specs.Mod.{add, mul}
use Rattle.field.specs.Field.{Below2, Is, kept, sum_bound, Ready}
use Rattle.field.proofs.Solve.{Canon, zero_canon, Same, same, turn, ◌⨾◌, plus, mul_same, add_same, mod_canon, add_canon, canon_same, mod_same}
use Rattle.field.proofs.Products.{word}
use Rattle.field.proofs.SumLaws.{kept_same, kept-bound, bound-low, bound-more}
use Rattle.sharing_laws.specs.Poly.{eval}
use Rattle.sharing_laws.specs.Interp.{dot, plain_sum}
use Rattle.sharing_laws.specs.Sharing.{deal}
use Rattle.sharing_laws.proofs.Alls.{map-tab}
use Rattle.sharing.proofs.Walks.{Next, Pair}

-- ---- lists of elements
-- every entry of a list of elements is one, and so is the 0 past its end
below_by : (p : ℕ) (xs : List ℕ) (i : ℕ) → 0 < p → all_below p xs ≡ true → (t : Bool) → ltb i (length xs) ≡ t → get_or xs i 0 < p
below_by p xs i pos h true e = all_below_at p xs i h (ltb-true i (length xs) e)
below_by p xs i pos h false e = rw (get_or-eq_default xs 0 {n = i} (ltb-false i (length xs) e)) pos

pub entry_below : (p : ℕ) (xs : List ℕ) (i : ℕ) → Ready p → all_below p xs ≡ true → get_or xs i 0 < p
entry_below p xs i r h = below_by p xs i (omega (arith, r.prime.above)) h (ltb i (length xs)) refl

-- ---- the value of a polynomial
-- one remainder for a step
pub step_value : (p a x e : ℕ) → (a + x * e) % p ≡ add p a (mul p x e)
step_value p a x e = canon_same (mod_canon (a + x * e)) (add_canon a (mul p x e)) (mod_same p (a + x * e) ⨾ plus (same refl) (turn (mul_same p x e)) ⨾ turn (add_same p a (mul p x e)))

-- the invariant: what stands from i on has the value acc
pub record Valued (p : ℕ) (f : List ℕ) (x acc i : ℕ) : Type 0 where
  pub within : i ≤ length f
  pub small : acc < p
  pub is : acc ≡ eval p (drop i f) x

module _ (p : ℕ) (f : List ℕ) (x : ℕ) where
  pub value_none : 1 < p → Valued p f x 0 (length f - 0)
  unfolding eval
  value_none h = let e : length f - 0 ≡ length f = omega arith in rw e (record { within = omega arith; small = omega arith; is = rw (drop-length f) })

  module _ (acc k a : ℕ) (v : Valued p f x acc (length f - k)) (n : Next f k a) where
    pub value_more : (j : ℕ) → j ≡ k + 1 → 1 < p → Valued p f x ((a + x * acc) % p) (length f - j)
    unfolding eval
    value_more j e above =
        let at : length f - k ≡ suc (length f - 1 - k) = omega (arith, n.within) in
        let to : length f - j ≡ length f - 1 - k = omega arith in
        let is : acc ≡ eval p (drop (suc (length f - 1 - k)) f) x = v.is ∙ ap (λ (m : ℕ). eval p (drop m f) x) at in
        rw to (record {
          within = omega arith;
          small = mod-lt (a + x * acc) (omega arith);
          is = rw (drop-cons f (length f - 1 - k) 0 (omega (arith, n.within)), ← is, n.is) (step_value p (get_or f (length f - 1 - k) 0) x acc);
        })

  pub value-whole : (acc k : ℕ) → Valued p f x acc (length f - k) → k ≡ length (reverse f) → Is p (eval p f x) acc
  value-whole acc k v e =
      let z : length f - k ≡ 0 = omega (arith, length-reverse f) in
      record { eq = v.is ∙ ap (λ (n : ℕ). eval p (drop n f) x) z; lt = v.small }

  pub product_fits : (acc i : ℕ) → Ready p → x < p → Valued p f x acc i → x * acc < 2 ^ 64
  product_fits acc i r l v = omega (arith, r.small, v.small, word x acc (omega (arith, r.small)) (omega (arith, r.small, v.small)))

  pub step_fits : (acc i k a : ℕ) → Ready p → x < p → all_below p f ≡ true → Valued p f x acc i → Next f k a → a + x * acc < 2 ^ 64
  step_fits acc i k a r l h v n =
      let small : a < p = rw n.is (entry_below p f (length f - 1 - k) r h) in
      omega (arith, r.small, v.small, small, word x acc (omega (arith, r.small)) (omega (arith, r.small, v.small)))

pub ruleset valuing = (rules, value_none, value_more, value-whole, step_fits, product_fits)

-- ---- the values at the points
pub filled-map : (f : ℕ → ℕ) (xs d₀ d : List ℕ) (i : ℕ) → length d₀ ≡ length xs → length xs ≤ i → Filled (λ k. f (get_or xs k 0)) d₀ d i → d ≡ map f xs
filled-map f xs d₀ d i e l h = filled (λ k. f (get_or xs k 0)) d₀ d i (omega (arith, h.long)) h ∙ ap (tab (λ k. f (get_or xs k 0))) e ∙ sym (map-tab f xs)

-- a polynomial whose first coefficient is the dealt value, and the others its coins
pub dealt : (p s : ℕ) (coins xs : List ℕ) → map (eval p (s ∷ coins)) xs ≡ deal p s coins xs
unfolding deal
dealt p s coins xs = refl

-- As it is: answers name this set, since the check leaves their goals open by `using` alone.
pub ruleset dealing = (filling, filled-map, entry_below)

-- ---- the weighted sum
plain_same : (p : ℕ) (ws vs : List ℕ) → Same p (plain_sum ws vs) (dot p ws vs)
unfolding plain_sum dot
plain_same p [] vs = same refl
plain_same p (w ∷ ws) [] = same refl
plain_same p (w ∷ ws) (v ∷ vs) = plus (turn (mul_same p w v)) (plain_same p ws vs) ⨾ turn (add_same p (mul p w v) (dot p ws vs))

pub dot_canon : (p : ℕ) (ws vs : List ℕ) → Canon p (dot p ws vs)
unfolding dot
dot_canon p [] vs = zero_canon
dot_canon p (w ∷ ws) [] = zero_canon
dot_canon p (w ∷ ws) (v ∷ vs) = add_canon _ _

pub plain-dot : (p : ℕ) (ws vs : List ℕ) → plain_sum ws vs % p ≡ dot p ws vs
plain-dot p ws vs = (plain_same p ws vs).rest ∙ (dot_canon p ws vs).canon

-- the invariant: sum, with what is left from i on, is the whole sum modulo p
pub record Summed (p : ℕ) (ws vs : List ℕ) (sum i : ℕ) : Type 0 where
  pub within : i ≤ length ws
  pub small : sum ≤ sum_bound p i
  pub whole : Same p (sum + plain_sum (drop i ws) (drop i vs)) (plain_sum ws vs)

module _ (p : ℕ) (ws vs : List ℕ) where
  pub sum-none : Summed p ws vs 0 0
  sum-none = record { within = omega arith; small = omega arith; whole = same (omega arith) }

  plain-drop : (i : ℕ) → i < length ws → i < length vs → plain_sum (drop i ws) (drop i vs) ≡ get_or ws i 0 * get_or vs i 0 + plain_sum (drop (i + 1) ws) (drop (i + 1) vs)
  unfolding plain_sum
  plain-drop i l m = rw (drop-cons ws i 0 l, drop-cons vs i 0 m, add-one)

  module _ (r : Ready p) (sum i : ℕ) (s : Summed p ws vs sum i) where
    -- what has been added is small enough for one product more
    pub sum_low : length ws ≤ 65536 → sum ≤ 4294967296 * p
    sum_low le = omega (arith, s.small, bound-low p r.small i (omega (arith, s.within)))

    module _ (hw : all_below p ws ≡ true) (hv : all_below p vs ≡ true) (a b : ℕ) (c : Pair ws vs i a b) where
      pub term-below : Below2 p a b
      term-below = record { left = rw c.left (entry_below p ws i r hw); right = rw c.right (entry_below p vs i r hv) }

      pub sum_more : (y j : ℕ) → y ≡ kept p (sum + a * b) → j ≡ i + 1 → Summed p ws vs y j
      sum_more y j e to = rw (to, e, c.left, c.right) (record {
        within = omega (arith, c.within);
        small = kept-bound p r.small (get_or ws i 0) (get_or vs i 0) (entry_below p ws i r hw) (entry_below p vs i r hv) i sum s.small;
        whole =
            plus (kept_same p (sum + get_or ws i 0 * get_or vs i 0)) (same refl)
            ⨾ same {b = sum + plain_sum (drop i ws) (drop i vs)} (omega (arith, plain-drop i c.within c.also))
            ⨾ s.whole;
      })

    pub sum-small : sum ≤ sum_bound p (length ws)
    sum-small = omega (arith, s.small, bound-more p r.small i (length ws) s.within)

    pub sum-whole : length ws ≤ i → sum % p ≡ dot p ws vs
    unfolding plain_sum
    sum-whole l =
        let all : Same p (sum + 0) (plain_sum ws vs) = rw (drop_of_length-le ws {i = i} l) at s.whole in
        (same {b = sum + 0} (omega arith) ⨾ all).rest ∙ plain-dot p ws vs

pub is_by : (p v w r : ℕ) → v ≡ w → Is p v r → Is p w r
is_by p v w r e h = record { eq = h.eq ∙ e; lt = h.lt }

pub ready_positive : (p : ℕ) → Ready p → 0 < p
ready_positive p r = omega (arith, r.prime.above)

-- a sum of at most 16 products
pub bound_sixteen : (p n : ℕ) → Ready p → n ≤ 16 → sum_bound p n ≤ sum_bound p 16
bound_sixteen p n r le = bound-more p r.small n 16 le

pub ruleset summing = (rules, ready_positive, sum-none, sum_low, term-below, sum_more, sum-small, sum-whole, bound_sixteen, is_by)
