-- Shamir's sharing: dealings, opening, and the coins of a matched dealing.
use mathlib.Core.List.{List, [], ◌∷◌, ◌++◌, map, tail}
use Rattle.std.specs.Prelude.{Option, ℕ, zero, suc, ◌+◌, eqb, length, take, get_or}
use Rattle.numbers.specs.Tables.{first_failing}
use Rattle.sharing_laws.specs.Poly.{eval, sum_of, scale}
use Rattle.sharing_laws.specs.Interp.{weights, interpolate, delta}

-- the dealing of s with the given coins: its shares at the points xs
unfoldable pub deal : ℕ → ℕ → List ℕ → List ℕ → List ℕ
deal p s coins xs = map (eval p (s ∷ coins)) xs

-- the opening of a value from the shares at the first t + 1 points
unfoldable pub opened : ℕ → ℕ → List ℕ → List ℕ → ℕ
opened p t points shares = interpolate p 0 (take (t + 1) points) shares

-- the first party, counted from 0, whose share isn't on the polynomial through the shares at the first t + 1 points
unfoldable pub first_off : ℕ → ℕ → List ℕ → List ℕ → Option ℕ
first_off p t points shares =
    first_failing (λ i. eqb (get_or shares i 0) (interpolate p (get_or points i 0) (take (t + 1) points) shares)) (length points)

-- the weighted sum of polynomials
unfoldable pub mixture : ℕ → List ℕ → List (List ℕ) → List ℕ
mixture p (w ∷ ws) (f ∷ fs) = sum_of p (scale p w f) (mixture p ws fs)
mixture p _ _ = []

-- the coins of the matched dealing, whose dealt value is d more: d times delta's coefficient of X^j, added to coin j
unfoldable pub matched : ℕ → List ℕ → ℕ → List ℕ → List ℕ
matched p cs d coins = sum_of p coins (scale p d (tail (delta p cs)))

-- ---- for the code alone: no other definition and no demand cites these
-- g 0, then g 1, .. n rows
unfoldable pub rows_of : (ℕ → List ℕ) → ℕ → List ℕ
rows_of g zero = []
rows_of g (suc n) = rows_of g n ++ g n

-- the weights at each party's point among the first t + 1 points, a row for each party
unfoldable pub opening_row : ℕ → ℕ → List ℕ → ℕ → List ℕ
opening_row p t points i = weights p (get_or points i 0) (take (t + 1) points)

unfoldable pub opening_rows : ℕ → ℕ → List ℕ → List ℕ
opening_rows p t points = rows_of (opening_row p t points) (length points)
