-- Interpolation modulo a prime, from any distinct points to any point.
use Rattle.std.specs.Prelude.{◌≢◌, cond, List, [], ◌∷◌, map, ℕ, ◌+◌, ◌*◌, ◌%◌, eqb}
use Rattle.field.specs.Mod.{add, mul, sub}
use Rattle.field.specs.Prime.{inv}
use Rattle.sharing_laws.specs.Poly.{linear}

-- what the point y does to the weight of the point x: (z - y) / (x - y), and nothing to its own
unfoldable pub factor : ℕ → ℕ → ℕ → ℕ → ℕ
factor p z x y = cond (eqb x y) 1 (mul p (sub p z y) (inv p (sub p x y)))

-- the weight of x at z, among the points ys
unfoldable pub weight : ℕ → ℕ → List ℕ → ℕ → ℕ
weight p z [] x = 1
weight p z (y ∷ ys) x = mul p (factor p z x y) (weight p z ys x)

unfoldable pub weights : ℕ → ℕ → List ℕ → List ℕ
weights p z xs = map (weight p z xs) xs

-- the sum of the products
unfoldable pub dot : ℕ → List ℕ → List ℕ → ℕ
dot p (w ∷ ws) (v ∷ vs) = add p (mul p w v) (dot p ws vs)
dot p _ _ = 0

-- the value at z of the polynomial that has the values vs at the points xs
unfoldable pub interpolate : ℕ → ℕ → List ℕ → List ℕ → ℕ
interpolate p z xs vs = dot p (weights p z xs) vs

abbrev pub All : (ℕ → Type 0) → List ℕ → Type 0
All P [] = Unit
All P (x ∷ xs) = P x × All P xs

-- no two of the points are the same modulo p
abbrev pub Distinct : ℕ → List ℕ → Type 0
Distinct p [] = Unit
Distinct p (x ∷ xs) = All (λ y. y % p ≢ x % p) xs × Distinct p xs

-- the product of 1 - X / c over the points c
unfoldable pub delta : ℕ → List ℕ → List ℕ
delta p [] = 1 ∷ []
delta p (c ∷ cs) = linear p 1 (sub p 0 (inv p c)) (delta p cs)

-- ---- for the code alone: no other definition and no demand cites these
-- the numerator of a factor, at a = z, and its denominator, at a = x: a - y, and 1 where y is x itself
unfoldable pub apart : ℕ → ℕ → ℕ → ℕ → ℕ
apart p a x y = cond (eqb x y) 1 (sub p a y)

-- the same as it stands, not reduced
unfoldable pub plain_sum : List ℕ → List ℕ → ℕ
plain_sum [] vs = 0
plain_sum (w ∷ ws) [] = 0
plain_sum (w ∷ ws) (v ∷ vs) = w * v + plain_sum ws vs
