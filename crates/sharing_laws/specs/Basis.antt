-- The Lagrange basis, and the matrix of the reduction of 1988, which takes a polynomial's values at all points to the values of its coefficients 0 to t.
use Rattle.std.specs.Prelude.{cond, ℕ, suc, eqb, take, get_or}
use mathlib.Core.List.{List, [], ◌∷◌, map, tail}
use Rattle.field.specs.Mod.{add, mul, sub}
use Rattle.field.specs.Prime.{inv}
use Rattle.sharing_laws.specs.Poly.{eval, sum_of, scale, linear}
use Rattle.sharing_laws.specs.Sharing.{mixture, matched}

-- the sum of a list
unfoldable pub sum_all : ℕ → List ℕ → ℕ
sum_all p [] = 0
sum_all p (x ∷ xs) = add p x (sum_all p xs)

-- the polynomial that is 1 at x and 0 at the other points of ys: the product of (X - y) / (x - y) over them
unfoldable pub basis : ℕ → List ℕ → ℕ → List ℕ
basis p [] x = 1 ∷ []
basis p (y ∷ ys) x =
    cond (eqb x y) (basis p ys x) (linear p (mul p (sub p 0 y) (inv p (sub p x y))) (inv p (sub p x y)) (basis p ys x))

-- the polynomial with the values vs at the points xs
unfoldable pub fitted : ℕ → List ℕ → List ℕ → List ℕ
fitted p xs vs = mixture p vs (map (basis p xs) xs)

-- the matrix among the points xs: the entry in the row of the point x and the column of the point y, and a row
unfoldable pub entry : ℕ → ℕ → List ℕ → ℕ → ℕ → ℕ
entry p t xs x y = eval p (take (suc t) (basis p xs y)) x

unfoldable pub row : ℕ → ℕ → List ℕ → ℕ → List ℕ
row p t xs x = map (entry p t xs x) xs

-- the coins of a dealing of 0 that takes up the change d of a product's polynomial: less d's coefficient of X^j, and d's constant times
-- delta's, at coin j
unfoldable pub matched_zero : ℕ → List ℕ → List ℕ → List ℕ → List ℕ
matched_zero p cs d coins = matched p cs (get_or d 0 0) (sum_of p coins (scale p (sub p 0 1) (tail d)))
