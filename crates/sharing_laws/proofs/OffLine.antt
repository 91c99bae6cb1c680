-- What an opening and its check say: the party that is told is the first whose share is off the polynomial through the first t + 1, none is told
-- where all shares lie on one polynomial of degree t or less, and a dealing opens to its value.
--     on_one            none is told
--     off_at            a party is told
--     off-line          the law
--     dealing-opens     the opening of a polynomial's values is its value at 0
--     dealing-on        and the check finds nothing
-- Assumes nothing.
use Rattle.std.proofs.Common.{Some, None}
use mathlib.Core.Path.{◌≡◌, refl, sym, ap, ap₂, ◌∙◌}
use mathlib.Core.Logic.{◌↔◌, ⊎_elim}
use mathlib.Core.Bool.{Bool, true, false}
use mathlib.Core.List.{List, [], ◌∷◌, map}
use Prim.Native.Nat.{ℕ, zero, suc, ◌+◌, ◌≤◌, ◌<◌}
use native.Mathlib.Nat.{eq-or-lt_of_le}
use native.Mathlib.Omega.{arith}
use borrow.Author.Tests.{eqb-true, eq-eqb, ltb-true, ltb-false}
use lib.Dec.{eqb, ltb}
use lib.ListN.{length, take, get_or, length-map}
use lib.Seq.{get_or-take, length-take-le}
use Rattle.numbers.specs.Bytes.{all_below}
use Rattle.numbers.specs.Tables.{first_failing}
use Rattle.numbers.proofs.Tables.{is-tab, get_or-tab}
use Rattle.numbers.proofs.Below.{all_below-take}
use Rattle.numbers.proofs.Searches.{First, nothing_passes, passes-nothing, first_failing_lem, failing_first, first_ext}
use Rattle.field.specs.Prime.{Prime}
use Rattle.field.proofs.Solve.{canon-lt}
use Rattle.field.proofs.Inverse.{pos}
use Rattle.sharing_laws.specs.Poly.{eval}
use Rattle.sharing_laws.specs.Interp.{Distinct, weights, dot, interpolate}
use Rattle.sharing_laws.specs.Sharing.{opened, first_off}
use Rattle.sharing_laws.specs.OffLine.{OnOne, OffAt, OffLine}
use Rattle.sharing_laws.proofs.Polys.{eval_canon}
use Rattle.sharing_laws.proofs.Interpolation.{length-weights, interpolation}
use Rattle.sharing_laws.proofs.Roots.{through, through-values, length-through}
use Rattle.sharing_laws.proofs.Shares.{lies-on}
use Rattle.sharing_laws.proofs.Alls.{distinct-take, length_first, map-tab, map_below, below_canon}

-- ---- the first entries of lists
take-take : (j k : ℕ) (xs : List ℕ) → j ≤ k → take j (take k xs) ≡ take j xs
take-take zero k xs l = refl
take-take (suc j) zero xs l = absurd (omega arith)
take-take (suc j) (suc k) [] l = refl
take-take (suc j) (suc k) (x ∷ xs) l = ap (λ (l : List ℕ). x ∷ l) (take-take j k xs (omega arith))

map-take : (f : ℕ → ℕ) (k : ℕ) (xs : List ℕ) → map f (take k xs) ≡ take k (map f xs)
map-take f zero xs = refl
map-take f (suc k) [] = refl
map-take f (suc k) (x ∷ xs) = ap (λ (l : List ℕ). f x ∷ l) (map-take f k xs)

-- a weighted sum reads as many values as there are weights
dot-take : (p k : ℕ) (ws vs : List ℕ) → length ws ≤ k → dot p ws (take k vs) ≡ dot p ws vs
unfolding dot
dot-take p k [] vs l = refl
dot-take p zero (w ∷ ws) vs l = absurd (omega arith)
dot-take p (suc k) (w ∷ ws) [] l = refl
dot-take p (suc k) (w ∷ ws) (v ∷ vs) l = rw (dot-take p k ws vs (omega arith))

pub interpolate-take : (p z k : ℕ) (xs vs : List ℕ) → length xs ≤ k → interpolate p z xs (take k vs) ≡ interpolate p z xs vs
unfolding interpolate
interpolate-take p z k xs vs l = dot-take p k (weights p z xs) vs (omega (arith, length-weights p z xs))

-- ---- the check, as an equation of lists
-- the share of party i is the one that the first t + 1 shares give
abbrev pub agrees : ℕ → ℕ → List ℕ → List ℕ → ℕ → Bool
agrees p t points shares i = eqb (get_or shares i 0) (interpolate p (get_or points i 0) (take (t + 1) points) shares)

-- the party that is told is one of the points'
pub off_within : (p t : ℕ) (points shares : List ℕ) (i : ℕ) → first_off p t points shares ≡ Some i → i < length points
unfolding first_off
off_within p t points shares i e = (first_failing_lem (agrees p t points shares) (length points) i e).within

module _ (p t : ℕ) (points shares : List ℕ) (m : t < length points) (same : length shares ≡ length points) where
  at : ℕ → ℕ
  at y = interpolate p y (take (t + 1) points) (take (t + 1) shares)

  at-is : (y : ℕ) → at y ≡ interpolate p y (take (t + 1) points) shares
  unfolding at
  at-is y = interpolate-take p y (t + 1) (take (t + 1) points) shares (omega (arith, length_first t points m))

  found_all : first_off p t points shares ≡ None → map at points ≡ shares
  unfolding first_off
  found_all h = map-tab at points ∙ sym (is-tab (λ i. at (get_or points i 0)) (length points) shares 0 same (λ i l. eqb-true (get_or shares i 0) (interpolate p (get_or points i 0) (take (t + 1) points) shares) (nothing_passes (agrees p t points shares) (length points) h i l) ∙ sym (at-is (get_or points i 0))))

  all_found : map at points ≡ shares → first_off p t points shares ≡ None
  unfolding first_off
  all_found h = passes-nothing (agrees p t points shares) (length points) (λ i l. eq-eqb (get_or shares i 0) (interpolate p (get_or points i 0) (take (t + 1) points) shares) (here i l))
    where
      here : (i : ℕ) → i < length points → get_or shares i 0 ≡ interpolate p (get_or points i 0) (take (t + 1) points) shares
      here i l = ap (λ (l : List ℕ). get_or l i 0) (sym h ∙ map-tab at points) ∙ get_or-tab (λ k. at (get_or points k 0)) (length points) i 0 l ∙ at-is (get_or points i 0)

module _ {p : ℕ} (prime : Prime p) (t : ℕ) (points : List ℕ) (d : Distinct p points) (m : t < length points) where
  pub on_one : (shares : List ℕ) → length shares ≡ length points → all_below p shares ≡ true → (first_off p t points shares ≡ None) ↔ OnOne p t points shares
  unfolding at
  on_one shares same h = (there, back)
    where
      first : length (take (t + 1) points) ≡ t + 1
      first = length_first t points m

      law : ((f : List ℕ) × (length f ≤ length (take (t + 1) points)) × (map (eval p f) (take (t + 1) points) ≡ take (t + 1) shares) × (map (eval p f) points ≡ shares)) ↔ (map (λ y. interpolate p y (take (t + 1) points) (take (t + 1) shares)) points ≡ shares)
      law = lies-on prime (take (t + 1) points) points (take (t + 1) shares) shares (distinct-take p (t + 1) points d) (below_canon p (take (t + 1) shares) (all_below-take p (t + 1) shares h)) (length_first t shares (omega arith) ∙ sym first)

      there : first_off p t points shares ≡ None → OnOne p t points shares
      there e = let f : (f : List ℕ) × (length f ≤ length (take (t + 1) points)) × (map (eval p f) (take (t + 1) points) ≡ take (t + 1) shares) × (map (eval p f) points ≡ shares) = law.1 (found_all p t points shares m same e) in
          record { polynomial = f.0; short = omega (arith, f.1, first); values = f.3 }

      back : OnOne p t points shares → first_off p t points shares ≡ None
      back o = all_found p t points shares m same (law.0 (o.polynomial, omega (arith, o.short, first), map-take (eval p o.polynomial) (t + 1) points ∙ ap (take (t + 1)) o.values, o.values))

  -- from the values of a polynomial
  pub values-interpolate : (z : ℕ) (f : List ℕ) → length f ≤ t + 1 → interpolate p z (take (t + 1) points) (map (eval p f) points) ≡ eval p f z
  values-interpolate z f l =
      sym (interpolate-take p z (t + 1) (take (t + 1) points) (map (eval p f) points) (omega (arith, length_first t points m)))
      ∙ ap (interpolate p z (take (t + 1) points)) (sym (map-take (eval p f) (t + 1) points))
      ∙ interpolation prime z (take (t + 1) points) f (distinct-take p (t + 1) points d) (omega (arith, length_first t points m))

  pub dealing-opens : (f : List ℕ) → length f ≤ t + 1 → opened p t points (map (eval p f) points) ≡ eval p f 0
  unfolding opened
  dealing-opens f l = values-interpolate 0 f l

  values-below : (f : List ℕ) → all_below p (map (eval p f) points) ≡ true
  values-below f = map_below p (eval p f) points (λ x. canon-lt (pos prime) (eval_canon f x))

  pub dealing-on : (f : List ℕ) → length f ≤ t + 1 → first_off p t points (map (eval p f) points) ≡ None
  dealing-on f l = (on_one (map (eval p f) points) (length-map points (eval p f)) (values-below f)).1 (record { polynomial = f; short = l; values = refl })

-- ---- the party that is told
module _ {p : ℕ} (prime : Prime p) (t : ℕ) (points : List ℕ) (d : Distinct p points) (m : t < length points) (shares : List ℕ) (same : length shares ≡ length points) (h : all_below p shares ≡ true) where
  ok : ℕ → Bool
  ok = agrees p t points shares

  agrees-take : (k i : ℕ) → t < k → i < k → agrees p t (take k points) (take k shares) i ≡ ok i
  unfolding ok
  agrees-take k i l u =
      ap₂ eqb (get_or-take k shares i 0 u)
      (ap₂ (λ (z : ℕ) (xs : List ℕ). interpolate p z xs (take k shares)) (get_or-take k points i 0 u) (take-take (t + 1) k points (omega arith))
      ∙ interpolate-take p (get_or points i 0) k (take (t + 1) points) shares (omega (arith, length_first t points m)))

  -- the first k shares lie on one polynomial just where the check of k parties finds nothing
  module _ (k : ℕ) (l : t < k) (u : k ≤ length points) where
    long : length (take k points) ≡ k
    long = length-take-le k points u

    check-take : first_off p t (take k points) (take k shares) ≡ first_failing ok k
    unfolding first_off
    check-take =
        ap (first_failing (agrees p t (take k points) (take k shares))) long
        ∙ first_ext (agrees p t (take k points) (take k shares)) ok k (λ i v. agrees-take k i l v)

    on-first : (first_off p t (take k points) (take k shares) ≡ None) ↔ OnOne p t (take k points) (take k shares)
    on-first =
        on_one prime t (take k points) (distinct-take p k points d) (omega (arith, long)) (take k shares)
        (length-take-le k shares (omega arith) ∙ sym long) (all_below-take p k shares h)

    passes_on : ((i : ℕ) → i < k → ok i ≡ true) → OnOne p t (take k points) (take k shares)
    passes_on e = on-first.0 (check-take ∙ passes-nothing ok k e)

    on-passes : OnOne p t (take k points) (take k shares) → (i : ℕ) → i < k → ok i ≡ true
    on-passes o = nothing_passes ok k (sym check-take ∙ on-first.1 o)

  -- the first t + 1 shares lie on the polynomial through them
  first_on : OnOne p t (take (t + 1) points) (take (t + 1) shares)
  first_on =
      let xs : List ℕ = take (t + 1) points in
      let vs : List ℕ = take (t + 1) shares in
      let each : length vs ≡ length xs = length_first t shares (omega arith) ∙ sym (length_first t points m) in
      record {
        polynomial = through p xs vs;
        short = omega (arith, length-through prime xs vs each, length_first t points m);
        values = through-values prime xs vs (distinct-take p (t + 1) points d) (below_canon p vs (all_below-take p (t + 1) shares h)) each;
      }

  true≢false : true ≡ false → ⊥
  true≢false e = let z : ◌≡◌ {A = ℕ} 0 1 = cc in omega arith

  told-past : (i : ℕ) → ok i ≡ false → (b : Bool) → ltb t i ≡ b → t < i
  told-past i e true q = ltb-true t i q
  told-past i e false q = absurd (true≢false (sym (on-passes (t + 1) (omega arith) (omega arith) first_on i (omega (arith, ltb-false t i q))) ∙ e))

  told : (i : ℕ) → First ok (length points) i → OffAt p t points shares i
  told i w =
      let past : t < i = told-past i w.fails (ltb t i) refl in
      record {
        past = past;
        within = w.within;
        before = passes_on i past (omega (arith, w.within)) w.before;
        breaks = λ o. true≢false (sym (on-passes (i + 1) (omega arith) (omega (arith, w.within)) o i (omega arith)) ∙ w.fails);
      }

  fails_by : (i : ℕ) → OffAt p t points shares i → (b : Bool) → ok i ≡ b → b ≡ false
  fails_by i o false e = refl
  fails_by i o true e =
      absurd (o.breaks (passes_on (i + 1) (omega (arith, o.past)) (omega (arith, o.within)) (λ k l. ⊎_elim
      (λ (q : k ≡ i). ap ok q ∙ e)
      (λ (q : k < i). on-passes i o.past (omega (arith, o.within)) o.before k q)
      (eq-or-lt_of_le {n = k} {m = i} (omega arith)))))

  untold : (i : ℕ) → OffAt p t points shares i → First ok (length points) i
  untold i o = record {
    within = o.within;
    fails = fails_by i o (ok i) refl;
    before = λ k l. on-passes i o.past (omega (arith, o.within)) o.before k l;
  }

  pub off_at : (i : ℕ) → (first_off p t points shares ≡ Some i) ↔ OffAt p t points shares i
  unfolding first_off ok
  off_at i = (λ e. told i (first_failing_lem ok (length points) i e), λ o. failing_first ok (length points) i (untold i o))

-- ---- the law
pub off-line : OffLine
off-line p t points shares prime d m same h = (off_at prime t points d m shares same h, on_one prime t points d m shares same h)
