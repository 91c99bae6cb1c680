-- The values and the lengths of sums, products and quotients of polynomials.
use mathlib.Core.Path.{◌≡◌, refl, ap, ap₂}
use mathlib.Core.List.{List, [], ◌∷◌, ◌++◌, map}
use Prim.Native.Nat.{ℕ, zero, suc, ◌+◌, ◌-◌, ◌≤◌, ◌<◌, max}
use native.Mathlib.Omega.{arith}
use lib.ListN.{length, replicate, length-map}
use Rattle.field.proofs.Solve.{Canon, zero_canon, add_canon, #, quote, solve}
use Rattle.field.specs.Mod.{add, mul, sub}
use Rattle.sharing_laws.specs.Poly.{eval, sum_of, scale, product, linear, padded}

-- the quotient of f by X - x, whose remainder is the value at x: the values at x of f's tails
unfoldable pub tails_at : ℕ → ℕ → List ℕ → List ℕ
tails_at p x [] = []
tails_at p x (a ∷ f) = eval p (a ∷ f) x ∷ tails_at p x f

unfoldable pub quotient : ℕ → ℕ → List ℕ → List ℕ
quotient p x [] = []
quotient p x (a ∷ f) = tails_at p x f

pub eval_canon : {p : ℕ} (f : List ℕ) (x : ℕ) → Canon p (eval p f x)
unfolding eval
eval_canon [] x = zero_canon
eval_canon (a ∷ f) x = add_canon a _

pub eval_sum : (p : ℕ) (f g : List ℕ) (x : ℕ) → eval p (sum_of p f g) x ≡ add p (eval p f x) (eval p g x)
unfolding eval sum_of
eval_sum p [] g x = solve p (search (quote, eval_canon, # (eval p g x))) (omega arith)
eval_sum p (a ∷ f) [] x = solve p (search (quote, # a, # x, # (eval p f x))) (omega arith)
eval_sum p (a ∷ f) (b ∷ g) x = rw (eval_sum p f g x) (solve p (search (quote, # a, # b, # x, # (eval p f x), # (eval p g x)) depth 7) (omega arith))

pub eval-scale : (p c : ℕ) (f : List ℕ) (x : ℕ) → eval p (scale p c f) x ≡ mul p c (eval p f x)
unfolding eval scale
eval-scale p c [] x = solve p (search (quote, # c)) (omega arith)
eval-scale p c (a ∷ f) x = rw (eval-scale p c f x) (solve p (search (quote, # a, # c, # x, # (eval p f x)) depth 7) (omega arith))

pub eval-product : (p : ℕ) (f g : List ℕ) (x : ℕ) → eval p (product p f g) x ≡ mul p (eval p f x) (eval p g x)
unfolding eval product
eval-product p [] g x = solve p (search (quote, # (eval p g x))) (omega arith)
eval-product p (a ∷ f) g x = rw (eval_sum p (scale p a g) (0 ∷ product p f g) x, eval-scale p a g x, eval-product p f g x) (solve p (search (quote, # a, # x, # (eval p f x), # (eval p g x)) depth 7) (omega arith))

-- zeros above a polynomial change no value
eval_zeros : (p k x : ℕ) → eval p (replicate k 0) x ≡ 0
unfolding eval
eval_zeros p zero x = refl
eval_zeros p (suc k) x = rw (eval_zeros p k x) (solve p (search (quote, # x)) (omega arith))

eval_above : (p k : ℕ) (f : List ℕ) (x : ℕ) → eval p (f ++ replicate k 0) x ≡ eval p f x
unfolding eval
eval_above p k [] x = eval_zeros p k x
eval_above p k (a ∷ f) x = ap (λ (v : ℕ). add p a (mul p x v)) (eval_above p k f x)

pub eval-padded : (p n : ℕ) (f : List ℕ) (x : ℕ) → eval p (padded n f) x ≡ eval p f x
unfolding padded
eval-padded p n f x = eval_above p (n - length f) f x

pub values-padded : (p n : ℕ) (f xs : List ℕ) → map (eval p (padded n f)) xs ≡ map (eval p f) xs
values-padded p n f [] = refl
values-padded p n f (x ∷ xs) = ap₂ (λ (v : ℕ) (l : List ℕ). v ∷ l) (eval-padded p n f x) (values-padded p n f xs)

pub length_sum : (p : ℕ) (f g : List ℕ) → length (sum_of p f g) ≡ max (length f) (length g)
unfolding sum_of
length_sum p [] g = omega arith
length_sum p (a ∷ f) [] = omega arith
length_sum p (a ∷ f) (b ∷ g) = omega (arith, length_sum p f g)

pub length-scale : (p c : ℕ) (f : List ℕ) → length (scale p c f) ≡ length f
unfolding scale
length-scale p c f = length-map f (mul p c)

pub length-product : (p : ℕ) (f g : List ℕ) → length (product p f g) ≤ length f + (length g - 1)
unfolding product
length-product p [] g = omega arith
length-product p (a ∷ f) g = omega (arith, length_sum p (scale p a g) (0 ∷ product p f g), length-scale p a g, length-product p f g)

pub eval-linear : (p a b : ℕ) (f : List ℕ) (x : ℕ) → eval p (linear p a b f) x ≡ mul p (add p a (mul p b x)) (eval p f x)
unfolding eval linear
eval-linear p a b f x = rw (eval_sum p (scale p a f) (0 ∷ scale p b f) x, eval-scale p a f x, eval-scale p b f x) (solve p (search (quote, # a, # b, # x, # (eval p f x)) depth 7) (omega arith))

pub length-linear : (p a b : ℕ) (f : List ℕ) → length (linear p a b f) ≡ suc (length f)
unfolding linear
length-linear p a b f = omega (arith, length_sum p (scale p a f) (0 ∷ scale p b f), length-scale p a f, length-scale p b f)

pub length_tails : (p x : ℕ) (f : List ℕ) → length (tails_at p x f) ≡ length f
unfolding tails_at
length_tails p x [] = refl
length_tails p x (a ∷ f) = ap suc (length_tails p x f)

pub length_quotient : (p x : ℕ) (f : List ℕ) → length (quotient p x f) ≡ length f - 1
unfolding quotient
length_quotient p x [] = refl
length_quotient p x (a ∷ f) = omega (arith, length_tails p x f)

tails_law : (p x z : ℕ) → 0 < p → (f : List ℕ) → mul p z (eval p f z) ≡ add p (mul p x (eval p f x)) (mul p (sub p z x) (eval p (tails_at p x f) z))
unfolding eval tails_at
tails_law p x z pos [] = solve p (search (quote, # x, # z)) (omega arith)
tails_law p x z pos (a ∷ f) = rw (tails_law p x z pos f) (solve p (search (quote, # a, # x, # z, # (eval p f x), # (eval p (tails_at p x f) z)) depth 9) (omega arith))

-- f(z) = f(x) + (z - x)·g(z), with g the quotient
pub division : (p x z : ℕ) → 0 < p → (f : List ℕ) → eval p f z ≡ add p (eval p f x) (mul p (sub p z x) (eval p (quotient p x f) z))
unfolding eval quotient
division p x z pos [] = solve p (search (quote, # x, # z)) (omega arith)
division p x z pos (a ∷ f) = rw (tails_law p x z pos f) (solve p (search (quote, # a, # x, # z, # (eval p f x), # (eval p (tails_at p x f) z)) depth 9) (omega arith))
