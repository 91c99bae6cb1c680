-- The matrix takes the values of a polynomial to those of its coefficients 0 to t.
--     eval-basis, length-basis     the basis polynomial of a point
--     eval-fitted, fitted-values   the polynomial with given values
--     fitted-long, fitted-whole    it has as many coefficients as there are points
--     truncation                   the matrix
-- Assumes nothing.
use mathlib.Core.Path.{◌≡◌, refl, sym, ap, ap₂, ◌∙◌, fun_ext}
use mathlib.Core.Bool.{Bool, true, false, cond}
use mathlib.Core.Logic.{◌≢◌}
use mathlib.Core.List.{List, [], ◌∷◌, append-nil, map, map-map, Memᴰ}
use Prim.Native.Nat.{ℕ, zero, suc, ◌-◌, ◌%◌, ◌≤◌, ◌<◌}
use native.Mathlib.Omega.{arith}
use borrow.Author.Tests.{eq-eqb, ne_eqb}
use lib.Dec.{eqb}
use lib.ListN.{length, take}
use lib.Seq.{take_all}
use Rattle.field.specs.Mod.{add, mul, sub}
use Rattle.field.specs.Prime.{Prime, inv}
use Rattle.field.proofs.Solve.{#, quote, solve}
use Rattle.field.proofs.Inverse.{pos, one-canon}
use Rattle.sharing_laws.specs.Poly.{eval, sum_of, scale, linear, padded}
use Rattle.sharing_laws.specs.Interp.{All, Distinct, factor, weight, weights, dot, interpolate}
use Rattle.sharing_laws.specs.Sharing.{mixture}
use Rattle.sharing_laws.proofs.Polys.{eval_canon, eval-linear, length-linear, length_sum, length-scale}
use Rattle.sharing_laws.proofs.Shares.{eval-mixture, Every, length-mixture}
use Rattle.sharing_laws.proofs.Interpolation.{interpolation}
use Rattle.sharing_laws.specs.Basis.{basis, fitted, entry, row}
use Rattle.sharing_laws.proofs.Cuts.{take_sum, take-scale, cut-agree}

take-mixture : (p k : ℕ) (ws : List ℕ) (fs : List (List ℕ)) → take k (mixture p ws fs) ≡ mixture p ws (map (take k) fs)
unfolding mixture
take-mixture p zero [] fs = refl
take-mixture p (suc k) [] fs = refl
take-mixture p zero (w ∷ ws) [] = refl
take-mixture p (suc k) (w ∷ ws) [] = refl
take-mixture p k (w ∷ ws) (f ∷ fs) = take_sum p k (scale p w f) (mixture p ws fs) ∙ ap₂ (sum_of p) (take-scale p w k f) (take-mixture p k ws fs)

-- ---- the basis polynomial of a point
factor-linear : (p x y z : ℕ) → 0 < p → add p (mul p (sub p 0 y) (inv p (sub p x y))) (mul p (inv p (sub p x y)) z) ≡ mul p (sub p z y) (inv p (sub p x y))
factor-linear p x y z pos = solve p (search (quote, # y, # z, # (inv p (sub p x y)))) (omega arith)

module _ {p : ℕ} (prime : Prime p) where
  pub eval-basis : (ys : List ℕ) (x z : ℕ) → eval p (basis p ys x) z ≡ weight p z ys x
  unfolding basis weight factor eval
  eval-basis [] x z = solve p (search (quote, one-canon prime, # z)) (omega arith)
  eval-basis (y ∷ ys) x z = pick (eqb x y) (eval-basis ys x z)
    where
      pick :
          (b : Bool) → eval p (basis p ys x) z ≡ weight p z ys x
          → eval p (cond b (basis p ys x) (linear p (mul p (sub p 0 y) (inv p (sub p x y))) (inv p (sub p x y)) (basis p ys x))) z
          ≡ mul p (cond b 1 (mul p (sub p z y) (inv p (sub p x y)))) (weight p z ys x)
      pick true e = rw (← e) (solve p (search (quote, eval_canon, # (eval p (basis p ys x) z))) (omega arith))
      pick false e =
          eval-linear p (mul p (sub p 0 y) (inv p (sub p x y))) (inv p (sub p x y)) (basis p ys x) z
          ∙ ap₂ (mul p) (factor-linear p x y z (pos prime)) e

  length-basis-all : (ys : List ℕ) (x : ℕ) → length (basis p ys x) ≤ suc (length ys)
  unfolding basis
  length-basis-all [] x = omega arith
  length-basis-all (y ∷ ys) x = pick (eqb x y) (length-basis-all ys x)
    where
      pick :
          (b : Bool) → length (basis p ys x) ≤ suc (length ys)
          → length (cond b (basis p ys x) (linear p (mul p (sub p 0 y) (inv p (sub p x y))) (inv p (sub p x y)) (basis p ys x))) ≤ suc (suc (length ys))
      pick true le = omega arith
      pick false le = omega (arith, length-linear p (mul p (sub p 0 y) (inv p (sub p x y))) (inv p (sub p x y)) (basis p ys x))

  pub length-basis : (ys : List ℕ) (x : ℕ) → Memᴰ x ys → length (basis p ys x) ≤ length ys
  unfolding basis
  length-basis [] x x3 = elim x3 [ ]
  length-basis (y ∷ ys) x (Memᴰ.head e) = rw (eq-eqb x y e) (length-basis-all ys x)
  length-basis (y ∷ ys) x (Memᴰ.tail m) = pick (eqb x y) (length-basis ys x m)
    where
      pick :
          (b : Bool) → length (basis p ys x) ≤ length ys
          → length (cond b (basis p ys x) (linear p (mul p (sub p 0 y) (inv p (sub p x y))) (inv p (sub p x y)) (basis p ys x))) ≤ suc (length ys)
      pick true le = omega arith
      pick false le = omega (arith, length-linear p (mul p (sub p 0 y) (inv p (sub p x y))) (inv p (sub p x y)) (basis p ys x))

  bases-short : (xs ys : List ℕ) → ((x : ℕ) → Memᴰ x ys → Memᴰ x xs) → Every (λ f. length f ≤ length xs) (map (basis p xs) ys)
  bases-short xs [] within = tt
  bases-short xs (y ∷ ys) within = (length-basis xs y (within y (Memᴰ.head refl)), bases-short xs ys (λ x m. within x (Memᴰ.tail m)))

  -- ---- the polynomial with given values
  pub length-fitted : (xs vs : List ℕ) → length (fitted p xs vs) ≤ length xs
  unfolding fitted
  length-fitted xs vs = length-mixture p (length xs) vs (map (basis p xs) xs) (bases-short xs xs (λ x m. m))

  -- at distinct points it has as many coefficients as there are points
  length-out : (ys : List ℕ) (x : ℕ) → All (λ y. y % p ≢ x % p) ys → length (basis p ys x) ≡ suc (length ys)
  unfolding basis
  length-out [] x a = refl
  length-out (y ∷ ys) x a =
      let b : ℕ = inv p (sub p x y) in
      rw (ne_eqb x y (λ e. a.0 (ap (λ (z : ℕ). z % p) (sym e))))
      (length-linear p (mul p (sub p 0 y) b) b (basis p ys x) ∙ ap suc (length-out ys x a.1))

  length-in : (ys : List ℕ) (x : ℕ) → Distinct p ys → Memᴰ x ys → length (basis p ys x) ≡ length ys
  unfolding basis
  length-in [] x d m = elim m [ ]
  length-in (y ∷ ys) x d (Memᴰ.head e) = rw (eq-eqb x y e) (length-out ys x (rw e d.0))
  length-in (y ∷ ys) x d (Memᴰ.tail m) =
      let b : ℕ = inv p (sub p x y) in
      rw (ne_eqb x y (λ e. apart_in ys d.0 m (ap (λ (z : ℕ). z % p) e)))
      (length-linear p (mul p (sub p 0 y) b) b (basis p ys x) ∙ ap suc (length-in ys x d.1 m))
    where
      apart_in : (zs : List ℕ) → All (λ z. z % p ≢ y % p) zs → Memᴰ x zs → x % p ≢ y % p
      apart_in [] a n = elim n [ ]
      apart_in (z ∷ zs) a (Memᴰ.head e) = rw e a.0
      apart_in (z ∷ zs) a (Memᴰ.tail n) = apart_in zs a.1 n

  pub fitted-long : (xs vs : List ℕ) → Distinct p xs → length vs ≡ length xs → length (fitted p xs vs) ≡ length xs
  unfolding fitted mixture
  fitted-long [] [] d e = refl
  fitted-long [] (v ∷ vs) d e = absurd (omega arith)
  fitted-long (x ∷ xs) [] d e = absurd (omega arith)
  fitted-long (x ∷ xs) (v ∷ vs) d e =
      let f : List ℕ = basis p (x ∷ xs) x in
      let rest : List ℕ = mixture p vs (map (basis p (x ∷ xs)) xs) in
      let long : length f ≡ length (x ∷ xs) = length-in (x ∷ xs) x d (Memᴰ.head refl) in
      omega (arith, long, length_sum p (scale p v f) rest, length-scale p v f, length-fitted (x ∷ xs) (v ∷ vs))

  -- so they are all its first ones
  pub fitted-whole : (xs vs : List ℕ) → Distinct p xs → length vs ≡ length xs → padded (length xs) (take (length xs) (fitted p xs vs)) ≡ fitted p xs vs
  unfolding padded
  fitted-whole xs vs d e =
      let long : length (fitted p xs vs) ≡ length xs = fitted-long xs vs d e in
      let none : length xs - length xs ≡ 0 = omega arith in
      rw (take_all (length xs) (fitted p xs vs) (omega (arith, long)), long, none) (append-nil (fitted p xs vs))

  dot-turn : (ws vs : List ℕ) → dot p ws vs ≡ dot p vs ws
  unfolding dot
  dot-turn [] [] = refl
  dot-turn [] (v ∷ vs) = refl
  dot-turn (w ∷ ws) [] = refl
  dot-turn (w ∷ ws) (v ∷ vs) = rw (dot-turn ws vs) (solve p (search (quote, # w, # v, # (dot p vs ws))) (omega arith))

  pub eval-fitted : (xs vs : List ℕ) (z : ℕ) → eval p (fitted p xs vs) z ≡ interpolate p z xs vs
  unfolding fitted interpolate weights
  eval-fitted xs vs z =
      eval-mixture p vs (map (basis p xs) xs) z
      ∙ ap (dot p vs) (map-map (λ f. eval p f z) (basis p xs) xs ∙ ap (λ (h : ℕ → ℕ). map h xs) (fun_ext (λ x. eval-basis xs x z)))
      ∙ dot-turn vs (map (weight p z xs) xs)

  pub cut-fitted : (k : ℕ) (xs vs : List ℕ) (x : ℕ) → eval p (take k (fitted p xs vs)) x ≡ dot p (map (λ y. eval p (take k (basis p xs y)) x) xs) vs
  unfolding fitted
  cut-fitted k xs vs x =
      ap (λ (f : List ℕ). eval p f x) (take-mixture p k vs (map (basis p xs) xs))
      ∙ eval-mixture p vs (map (take k) (map (basis p xs) xs)) x
      ∙ ap (dot p vs) (map-map (λ f. eval p f x) (take k) (map (basis p xs) xs) ∙ map-map (λ f. eval p (take k f) x) (basis p xs) xs)
      ∙ dot-turn vs (map (λ y. eval p (take k (basis p xs y)) x) xs)

  -- fitted to a polynomial's values, it has this polynomial's value at every point
  pub fitted-values : (xs f : List ℕ) → Distinct p xs → length f ≤ length xs → (z : ℕ) → eval p (fitted p xs (map (eval p f) xs)) z ≡ eval p f z
  fitted-values xs f d le z = eval-fitted xs (map (eval p f) xs) z ∙ interpolation prime z xs f d le

  -- ---- the matrix
  pub truncation :
      (t : ℕ) (xs f : List ℕ) → Distinct p xs → length f ≤ length xs
      → (x : ℕ) → dot p (row p t xs x) (map (eval p f) xs) ≡ eval p (take (suc t) f) x
  unfolding row entry
  truncation t xs f d le x =
      sym (cut-fitted (suc t) xs (map (eval p f) xs) x)
      ∙ cut-agree prime (suc t) xs (fitted p xs (map (eval p f) xs)) f d (length-fitted xs (map (eval p f) xs)) le
      (ap (λ (h : ℕ → ℕ). map h xs) (fun_ext (fitted-values xs f d le))) x
