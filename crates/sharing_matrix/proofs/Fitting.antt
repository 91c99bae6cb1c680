-- The code of the polynomial with given values: the basis polynomials, each times a value, added up.
--     Added, adding          one multiple more
--     Mixed, fitting         all of them
-- Assumes nothing.
use mathlib.Core.Path.{◌≡◌, refl, sym, ap, ap₂, ◌∙◌}
use mathlib.Core.Bool.{true}
use mathlib.Core.List.{List, [], ◌∷◌, ◌++◌, append_assoc, append-nil, map}
use Prim.Native.Nat.{ℕ, zero, suc, ◌+◌, ◌*◌, ◌%◌, ◌^◌, ◌≤◌, ◌<◌}
use native.Mathlib.Numerals.{add-one}
use native.Mathlib.Nat.{mod-lt}
use native.Mathlib.Omega.{arith}
use borrow.Author.Rules.{rules}
use lib.ListN.{length, take, drop, set, get_or, replicate, length-set, length-map, drop_of_length-le}
use lib.Seq.{drop-cons, drop-set-lt, take-suc-set, take_all, take-suc, take-nil, length-take-le}
use Rattle.std.proofs.lemmas.List.{map-append}
use Rattle.numbers.specs.Bytes.{all_below}
use Rattle.numbers.proofs.Below.{all_below-set, all_below-take}
use Rattle.field.specs.Mod.{add, mul}
use Rattle.field.specs.Field.{Ready}
use Rattle.field.proofs.Solve.{Canon, #, quote, solve, same}
use Rattle.field.proofs.Products.{word}
use Rattle.sharing_laws.specs.Poly.{sum_of, scale, padded}
use Rattle.sharing_laws.specs.Interp.{All}
use Rattle.sharing_laws.specs.Sharing.{mixture}
use Rattle.sharing_laws.specs.Basis.{basis, fitted}
use Rattle.sharing_laws.proofs.Elements.{zeros-below, scale-below, sum_below, padded-below}
use Rattle.sharing_laws.proofs.Zeros.{sum-none, sum_turn, sum_swap, mixture_canons}
use Rattle.sharing.proofs.Coding.{entry_below, step_value}
use Rattle.sharing_delta.proofs.Factors.{padded-nil, padded-cons}
use Rattle.sharing_matrix.specs.Matrix.{low_basis}
use Rattle.sharing_matrix.proofs.Tables.{reading}

-- ---- one multiple more
-- the invariant: what is written, and what is left to write from j on, is the sum
pub record Added (p c : ℕ) (g d₀ d : List ℕ) (j : ℕ) : Type 0 where
  pub within : j ≤ length d₀
  pub long : length d ≡ length d₀
  pub elements : all_below p d ≡ true
  pub whole : take j d ++ sum_of p (drop j d) (scale p c (drop j g)) ≡ sum_of p d₀ (scale p c g)

module _ (p c : ℕ) (g d₀ : List ℕ) (r : Ready p) where
  pub add-none : all_below p d₀ ≡ true → Added p c g d₀ d₀ 0
  add-none e = record { within = omega arith; long = refl; elements = e; whole = refl }

  module _ (d : List ℕ) (j : ℕ) (h : Added p c g d₀ d j) where
    pub add_more : length d₀ ≡ length g → j < length d → Added p c g d₀ (set d j ((get_or d j 0 + c * get_or g j 0) % p)) (j + 1)
    unfolding sum_of scale
    add_more e l =
        let v : ℕ = (get_or d j 0 + c * get_or g j 0) % p in
        record {
          within = omega (arith, h.long);
          long = length-set d j v ∙ h.long;
          elements = all_below-set p j v d h.elements (mod-lt (get_or d j 0 + c * get_or g j 0) (omega (arith, r.prime.above)));
          whole =
              rw (drop-set-lt (j + 1) d j v (omega arith), add-one, take-suc-set d j v l, append_assoc, step_value p (get_or d j 0) c (get_or g j 0))
              (rw (drop-cons d j 0 l, drop-cons g j 0 (omega (arith, h.long))) at h.whole);
        }

    pub add-whole : length d₀ ≡ length g → length d ≤ j → d ≡ sum_of p d₀ (scale p c g)
    unfolding sum_of scale
    add-whole e l = sym (take_all j d l) ∙ sym (append-nil (take j d)) ∙ rw (drop_of_length-le d {i = j} l, drop_of_length-le g {i = j} (omega (arith, h.long))) at h.whole

    pub multiple_fits : c < p → all_below p g ≡ true → c * get_or g j 0 < 2 ^ 64
    multiple_fits l e = let m : get_or g j 0 < p = entry_below p g j r e in omega (arith, word c (get_or g j 0) (omega (arith, r.small)) (omega (arith, r.small)))

    pub sum-fits : c < p → all_below p g ≡ true → get_or d j 0 + c * get_or g j 0 < 2 ^ 64
    sum-fits l e =
        let m : get_or g j 0 < p = entry_below p g j r e in
        let n : get_or d j 0 < p = entry_below p d j r h.elements in
        omega (arith, r.small, word c (get_or g j 0) (omega (arith, r.small)) (omega (arith, r.small)))

pub ruleset adding = (rules, add-none, add_more, add-whole, multiple_fits, sum-fits)

-- ---- a polynomial that is cut, or has room above it, and a multiple of one that is
module _ (p : ℕ) where
  room_sum : (c k : ℕ) → sum_of p (replicate k 0) (scale p c (replicate k 0)) ≡ replicate k 0
  unfolding sum_of scale
  room_sum c zero = refl
  room_sum c (suc k) = ap₂ ◌∷◌ (solve p (search (quote, # c)) (omega arith)) (room_sum c k)

  low_nil : (k : ℕ) → replicate k 0 ≡ padded k (take k [])
  low_nil k = sym (rw (take-nil k) (padded-nil k))

  low-sum :
      (c k : ℕ) (f g : List ℕ) → All (Canon p) f
      → sum_of p (padded k (take k f)) (scale p c (padded k (take k g))) ≡ padded k (take k (sum_of p f (scale p c g)))
  unfolding sum_of scale
  low-sum c zero f g can = rw (padded-nil 0)
  low-sum c (suc k) [] [] can = rw (padded-nil (suc k)) (room_sum c (suc k))
  low-sum c (suc k) [] (b ∷ g) can =
      rw (padded-nil (suc k), padded-cons k b (take k g), padded-cons k (mul p c b) (take k (scale p c g)))
      (ap₂ ◌∷◌ (solve p (search (quote, # b, # c)) (omega arith))
      (ap (λ (l : List ℕ). sum_of p l (scale p c (padded k (take k g)))) (low_nil k) ∙ low-sum c k [] g tt))
  low-sum c (suc k) (a ∷ f) [] can =
      rw (padded-nil (suc k), padded-cons k a (take k f))
      (ap₂ ◌∷◌ (solve p (search (quote, can.0, # a, # c)) (omega arith))
      (ap (λ (l : List ℕ). sum_of p (padded k (take k f)) (scale p c l)) (low_nil k) ∙ low-sum c k f [] can.1
      ∙ ap (λ (l : List ℕ). padded k (take k l)) (sum-none p f)))
  low-sum c (suc k) (a ∷ f) (b ∷ g) can =
      rw (padded-cons k a (take k f), padded-cons k b (take k g), padded-cons k (add p a (mul p c b)) (take k (sum_of p f (scale p c g))))
      (ap (λ (l : List ℕ). add p a (mul p c b) ∷ l) (low-sum c k f g can.1))

  -- ---- a mixture with one polynomial more
  sum_assoc : (f g h : List ℕ) → sum_of p f (sum_of p g h) ≡ sum_of p (sum_of p f g) h
  sum_assoc f g h = sum_turn p f (sum_of p g h) ∙ sum_swap p g h f ∙ ap (λ (l : List ℕ). sum_of p l h) (sum_turn p g f)

  mixture-more :
      (ws : List ℕ) (fs : List (List ℕ)) (w : ℕ) (f : List ℕ) → length ws ≡ length fs
      → mixture p (ws ++ (w ∷ [])) (fs ++ (f ∷ [])) ≡ sum_of p (mixture p ws fs) (scale p w f)
  unfolding mixture sum_of scale
  mixture-more [] [] w f e = sum-none p (scale p w f)
  mixture-more [] (g ∷ fs) w f e = absurd (omega arith)
  mixture-more (v ∷ ws) [] w f e = absurd (omega arith)
  mixture-more (v ∷ ws) (g ∷ fs) w f e =
      ap (sum_of p (scale p v g)) (mixture-more ws fs w f (omega arith)) ∙ sum_assoc (scale p v g) (mixture p ws fs) (scale p w f)

  pub mixture-below : 0 < p → (ws : List ℕ) (fs : List (List ℕ)) → all_below p (mixture p ws fs) ≡ true
  unfolding mixture
  mixture-below pos [] fs = zeros-below p pos 0
  mixture-below pos (w ∷ ws) [] = zeros-below p pos 0
  mixture-below pos (w ∷ ws) (f ∷ fs) = sum_below p pos (scale p w f) (mixture p ws fs) (scale-below p pos w f) (mixture-below pos ws fs)

-- ---- all of them: those of the first i points are added
unfoldable pub mixed : ℕ → ℕ → List ℕ → List ℕ → ℕ → List ℕ
mixed p k xs vs i = padded k (take k (mixture p (take i vs) (map (basis p xs) (take i xs))))

pub record Mixed (p t : ℕ) (xs vs d : List ℕ) (i : ℕ) : Type 0 where
  pub within : i ≤ length vs
  pub is : d ≡ mixed p (t + 1) xs vs i

module _ (p t : ℕ) (xs vs : List ℕ) where
  pub mix-none : (d e : List ℕ) → d ≡ replicate (length e) 0 → length e ≡ t + 1 → Mixed p t xs vs d 0
  unfolding mixed mixture
  mix-none d e is l = record {
    within = omega arith;
    is = is ∙ ap (λ (n : ℕ). replicate n 0) l ∙ rw (take-nil (t + 1), padded-nil (t + 1));
  }

  module _ (d : List ℕ) (i : ℕ) (h : Mixed p t xs vs d i) where
    pub mix-more :
        (e part : List ℕ) → length vs ≡ length xs → i < length vs → part ≡ low_basis p (t + 1) xs (get_or xs i 0)
        → e ≡ sum_of p d (scale p (get_or vs i 0) part) → Mixed p t xs vs e (i + 1)
    unfolding mixed low_basis
    mix-more e part same l ep to =
        let long : length (take i vs) ≡ length (map (basis p xs) (take i xs)) =
        length-take-le i vs (omega arith) ∙ sym (length-map (take i xs) (basis p xs) ∙ length-take-le i xs (omega arith)) in
        record {
          within = omega arith;
          is =
              to ∙ rw (h.is, ep)
              (low-sum p (get_or vs i 0) (t + 1) (mixture p (take i vs) (map (basis p xs) (take i xs))) (basis p xs (get_or xs i 0)) (mixture_canons p (take i vs) (map (basis p xs) (take i xs))))
              ∙ ap (λ (f : List ℕ). padded (t + 1) (take (t + 1) f))
              (sym (mixture-more p (take i vs) (map (basis p xs) (take i xs)) (get_or vs i 0) (basis p xs (get_or xs i 0)) long)
              ∙ rw (add-one, take-suc vs i 0 l, take-suc xs i 0 (omega arith), map-append));
        }

    pub mix-whole : length vs ≡ length xs → length vs ≤ i → d ≡ padded (t + 1) (take (t + 1) (fitted p xs vs))
    unfolding mixed fitted
    mix-whole same l = h.is ∙ rw (take_all i vs l, take_all i xs (omega arith))

    pub mixed-below : 0 < p → all_below p d ≡ true
    unfolding mixed
    mixed-below pos =
        rw h.is
        (padded-below p pos (t + 1) (take (t + 1) (mixture p (take i vs) (map (basis p xs) (take i xs))))
        (all_below-take p (t + 1) (mixture p (take i vs) (map (basis p xs) (take i xs))) (mixture-below p pos (take i vs) (map (basis p xs) (take i xs)))))

pub ready_positive : (p : ℕ) → Ready p → 0 < p
ready_positive p r = omega (arith, r.prime.above)

pub ruleset fitting = (rules, reading, mix-none, mix-more, mix-whole, mixed-below, ready_positive, entry_below)
