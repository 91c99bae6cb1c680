-- Polynomials whose coefficients are elements: zeros, scaled ones, sums, products with a linear one, delta, basis polynomials, and padded ones.
use mathlib.Core.Path.{◌≡◌, ◌∙◌}
use mathlib.Core.Bool.{Bool, true, false, cond}
use mathlib.Core.List.{List, [], ◌∷◌}
use Prim.Native.Nat.{ℕ, zero, suc, ◌-◌, ◌<◌}
use native.Mathlib.Omega.{arith}
use borrow.Author.Tests.{lt-ltb}
use lib.Dec.{eqb}
use lib.ListN.{length, replicate}
use Rattle.numbers.specs.Bytes.{all_below}
use Rattle.numbers.proofs.Below.{all_below_at, at-all_below, all_below-append}
use Rattle.field.specs.Mod.{add, mul, sub}
use Rattle.field.specs.Prime.{inv}
use Rattle.field.proofs.Solve.{canon-lt, add_canon, mul_canon}
use Rattle.sharing_laws.specs.Poly.{sum_of, scale, linear, carried, padded}
use Rattle.sharing_laws.specs.Interp.{delta}
use Rattle.sharing_laws.specs.Basis.{basis}

module _ (p : ℕ) where
  below-cons : (x : ℕ) (xs : List ℕ) → x < p → all_below p xs ≡ true → all_below p (x ∷ xs) ≡ true
  unfolding all_below
  below-cons x xs l h = rw (lt-ltb x p l, h)

  pub below_rest : (x : ℕ) (xs : List ℕ) → all_below p (x ∷ xs) ≡ true → all_below p xs ≡ true
  below_rest x xs h = at-all_below p xs (λ i l. all_below_at p (x ∷ xs) (suc i) h (omega arith))

  pub zeros-below : 0 < p → (m : ℕ) → all_below p (replicate m 0) ≡ true
  zeros-below pos zero = at-all_below p [] (λ i l. absurd (omega arith))
  zeros-below pos (suc m) = below-cons 0 (replicate m 0) pos (zeros-below pos m)

  pub scale-below : 0 < p → (c : ℕ) (f : List ℕ) → all_below p (scale p c f) ≡ true
  unfolding scale
  scale-below pos c [] = at-all_below p [] (λ i l. absurd (omega arith))
  scale-below pos c (a ∷ f) = below-cons (mul p c a) (scale p c f) (canon-lt pos (mul_canon c a)) (scale-below pos c f)

  pub sum_below : 0 < p → (f g : List ℕ) → all_below p f ≡ true → all_below p g ≡ true → all_below p (sum_of p f g) ≡ true
  unfolding sum_of
  sum_below pos [] g hf hg = hg
  sum_below pos (a ∷ f) [] hf hg = hf
  sum_below pos (a ∷ f) (b ∷ g) hf hg = below-cons (add p a b) (sum_of p f g) (canon-lt pos (add_canon a b)) (sum_below pos f g (below_rest a f hf) (below_rest b g hg))

  pub linear-below : 0 < p → (a b : ℕ) (f : List ℕ) → all_below p (linear p a b f) ≡ true
  unfolding linear
  linear-below pos a b f = sum_below pos (scale p a f) (0 ∷ scale p b f) (scale-below pos a f) (below-cons 0 (scale p b f) pos (scale-below pos b f))

  pub carried-below : 0 < p → (a b c : ℕ) (f : List ℕ) → all_below p (carried p a b c f) ≡ true
  unfolding carried
  carried-below pos a b c [] = at-all_below p [] (λ i l. absurd (omega arith))
  carried-below pos a b c (x ∷ f) =
      below-cons (add p (mul p a x) (mul p b c)) (carried p a b x f) (canon-lt pos (add_canon (mul p a x) (mul p b c))) (carried-below pos a b x f)

  pub delta-below : 1 < p → (cs : List ℕ) → all_below p (delta p cs) ≡ true
  unfolding delta
  delta-below h [] = below-cons 1 [] h (at-all_below p [] (λ i l. absurd (omega arith)))
  delta-below h (c ∷ cs) = linear-below (omega arith) 1 (sub p 0 (inv p c)) (delta p cs)

  basis_by : 0 < p → (a b : ℕ) (f : List ℕ) (t : Bool) → all_below p f ≡ true → all_below p (cond t f (linear p a b f)) ≡ true
  basis_by pos a b f true h = h
  basis_by pos a b f false h = linear-below pos a b f

  pub basis-below : 1 < p → (ys : List ℕ) (x : ℕ) → all_below p (basis p ys x) ≡ true
  unfolding basis
  basis-below h [] x = below-cons 1 [] h (at-all_below p [] (λ i l. absurd (omega arith)))
  basis-below h (y ∷ ys) x =
      basis_by (omega arith) (mul p (sub p 0 y) (inv p (sub p x y))) (inv p (sub p x y)) (basis p ys x) (eqb x y) (basis-below h ys x)

  pub padded-below : 0 < p → (n : ℕ) (f : List ℕ) → all_below p f ≡ true → all_below p (padded n f) ≡ true
  unfolding padded
  padded-below pos n f h = all_below-append p f (replicate (n - length f) 0) ∙ rw (h, zeros-below pos (n - length f))
