-- Polynomials modulo p: the list of the coefficients, lowest first.
use Rattle.std.specs.Prelude.{List, [], ◌∷◌, ◌++◌, map, ℕ, ◌-◌, length, replicate}
use Rattle.field.specs.Mod.{add, mul}

-- the value at x
unfoldable pub eval : ℕ → List ℕ → ℕ → ℕ
eval p [] x = 0
eval p (a ∷ f) x = add p a (mul p x (eval p f x))

unfoldable pub sum_of : ℕ → List ℕ → List ℕ → List ℕ
sum_of p [] g = g
sum_of p (a ∷ f) [] = a ∷ f
sum_of p (a ∷ f) (b ∷ g) = add p a b ∷ sum_of p f g

unfoldable pub scale : ℕ → ℕ → List ℕ → List ℕ
scale p c f = map (mul p c) f

unfoldable pub product : ℕ → List ℕ → List ℕ → List ℕ
product p [] g = []
product p (a ∷ f) g = sum_of p (scale p a g) (0 ∷ product p f g)

-- (a + b·X)·f
unfoldable pub linear : ℕ → ℕ → ℕ → List ℕ → List ℕ
linear p a b f = sum_of p (scale p a f) (0 ∷ scale p b f)

-- ---- for the code alone: no other definition and no demand cites these
-- the first coefficients of b·c + (a + b·X)·f, as many as f has: a times each, and b times the one before it, where c is before the first
unfoldable pub carried : ℕ → ℕ → ℕ → ℕ → List ℕ → List ℕ
carried p a b c [] = []
carried p a b c (x ∷ f) = add p (mul p a x) (mul p b c) ∷ carried p a b x f

-- f with zeros above it, n coefficients in all
unfoldable pub padded : ℕ → List ℕ → List ℕ
padded n f = f ++ replicate (n - length f) 0
