-- The coefficients of a polynomial below a bound.
--     take_sum, take-scale      the cut of a sum and of a multiple
--     cut-agree                 two polynomials that agree at enough points agree when cut
--     coefficients              and have the same coefficients, if these are elements
-- Assumes nothing.
use mathlib.Core.Path.{◌≡◌, refl, sym, ap, ap₂, ◌∙◌}
use mathlib.Core.List.{List, [], ◌∷◌, map, tail-eq_of_cons-eq, head-eq_of_cons-eq}
use Prim.Native.Nat.{ℕ, zero, suc, ◌%◌, ◌≤◌, ◌<◌}
use native.Mathlib.Omega.{arith}
use lib.ListN.{length, take}
use Rattle.field.specs.Mod.{add, mul, sub}
use Rattle.field.specs.Prime.{Prime}
use Rattle.field.proofs.Solve.{Canon, #, quote, solve, combine}
use Rattle.field.proofs.Inverse.{pos}
use Rattle.sharing_laws.specs.Poly.{eval, sum_of, scale}
use Rattle.sharing_laws.specs.Interp.{All, Distinct}
use Rattle.sharing_laws.proofs.Polys.{eval_canon, eval_sum, eval-scale, length_sum, length-scale}
use Rattle.sharing_laws.proofs.Roots.{Root, Zero, roots}
use Rattle.sharing_laws.proofs.Alls.{all_take}

pub take_sum : (p k : ℕ) (f g : List ℕ) → take k (sum_of p f g) ≡ sum_of p (take k f) (take k g)
unfolding sum_of
take_sum p zero f g = refl
take_sum p (suc k) [] g = refl
take_sum p (suc k) (a ∷ f) [] = refl
take_sum p (suc k) (a ∷ f) (b ∷ g) = ap (λ (l : List ℕ). add p a b ∷ l) (take_sum p k f g)

pub take-scale : (p c k : ℕ) (f : List ℕ) → take k (scale p c f) ≡ scale p c (take k f)
unfolding scale
take-scale p c zero f = refl
take-scale p c (suc k) [] = refl
take-scale p c (suc k) (a ∷ f) = ap (λ (l : List ℕ). mul p c a ∷ l) (take-scale p c k f)

-- zeros have the value 0
pub eval-nothing : (p : ℕ) (f : List ℕ) (x : ℕ) → All (Zero p) f → eval p f x ≡ 0
unfolding eval
eval-nothing p [] x z = refl
eval-nothing p (a ∷ f) x z = rw (eval-nothing p f x z.1) (solve p {b = a % p} (search (quote, # a, # x)) (omega arith) ∙ z.0)

-- f - g
unfoldable pub less : ℕ → List ℕ → List ℕ → List ℕ
less p f g = sum_of p f (scale p (sub p 0 1) g)

module _ {p : ℕ} (prime : Prime p) where
  eval-less : (f g : List ℕ) (x : ℕ) → eval p (less p f g) x ≡ sub p (eval p f x) (eval p g x)
  unfolding less
  eval-less f g x =
      let pos : 0 < p = pos prime in
      rw (eval_sum p f (scale p (sub p 0 1) g) x, eval-scale p (sub p 0 1) g x)
      (solve p (search (quote, # (eval p f x), # (eval p g x))) (omega arith))

  take_less : (k : ℕ) (f g : List ℕ) → take k (less p f g) ≡ less p (take k f) (take k g)
  unfolding less
  take_less k f g = take_sum p k f (scale p (sub p 0 1) g) ∙ ap (sum_of p (take k f)) (take-scale p (sub p 0 1) k g)

  same-nothing : (a b : ℕ) → a ≡ b → sub p a b ≡ 0
  same-nothing a b e = let pos : 0 < p = pos prime in rw e (solve p (search (quote, # b)) (omega arith))

  nothing-same : (a b : ℕ) → Canon p a → Canon p b → sub p a b ≡ 0 → a ≡ b
  nothing-same a b ca cb e = let pos : 0 < p = pos prime in combine p 1 ca cb e (solve p (search (quote, # a, # b)) (omega arith))

  less-roots : (f g xs : List ℕ) → map (eval p f) xs ≡ map (eval p g) xs → All (Root p (less p f g)) xs
  less-roots f g [] e = tt
  less-roots f g (x ∷ xs) e =
      (eval-less f g x ∙ same-nothing (eval p f x) (eval p g x) (head-eq_of_cons-eq e), less-roots f g xs (tail-eq_of_cons-eq e))

  -- two polynomials that agree at enough points have no difference
  pub less-nothing :
      (xs f g : List ℕ) → Distinct p xs → length f ≤ length xs → length g ≤ length xs → map (eval p f) xs ≡ map (eval p g) xs
      → All (Zero p) (less p f g)
  unfolding less
  less-nothing xs f g d lf lg e =
      roots prime xs (less p f g) d (less-roots f g xs e)
      (omega (arith, length_sum p f (scale p (sub p 0 1) g), length-scale p (sub p 0 1) g))

  -- so they agree when cut
  pub cut-agree :
      (k : ℕ) (xs f g : List ℕ) → Distinct p xs → length f ≤ length xs → length g ≤ length xs → map (eval p f) xs ≡ map (eval p g) xs
      → (x : ℕ) → eval p (take k f) x ≡ eval p (take k g) x
  cut-agree k xs f g d lf lg e x =
      nothing-same (eval p (take k f) x) (eval p (take k g) x) (eval_canon (take k f) x) (eval_canon (take k g) x)
      (sym (eval-less (take k f) (take k g) x) ∙ ap (λ (h : List ℕ). eval p h x) (sym (take_less k f g))
      ∙ eval-nothing p (take k (less p f g)) x (all_take (Zero p) k (less p f g) (less-nothing xs f g d lf lg e)))

  -- and have the same coefficients
  pub zero-less : (f g : List ℕ) → length f ≡ length g → All (Canon p) f → All (Canon p) g → All (Zero p) (less p f g) → f ≡ g
  unfolding less sum_of scale
  zero-less [] [] len cf cg z = refl
  zero-less [] (b ∷ g) len cf cg z = absurd (omega arith)
  zero-less (a ∷ f) [] len cf cg z = absurd (omega arith)
  zero-less (a ∷ f) (b ∷ g) len cf cg z =
      let pos : 0 < p = pos prime in
      ap₂ ◌∷◌ (nothing-same a b cf.0 cg.0 (solve p {b = add p a (mul p (sub p 0 1) b) % p} (search (quote, # a, # b)) (omega arith) ∙ z.0))
      (zero-less f g (omega arith) cf.1 cg.1 z.1)

  pub coefficients :
      (xs f g : List ℕ) → Distinct p xs → length f ≤ length xs → length f ≡ length g → All (Canon p) f → All (Canon p) g
      → map (eval p f) xs ≡ map (eval p g) xs → f ≡ g
  coefficients xs f g d lf len cf cg e = zero-less f g len cf cg (less-nothing xs f g d lf (omega arith) e)
