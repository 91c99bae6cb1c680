-- The tables that the code keeps: basis polynomials, and the matrix' rows.
use mathlib.Core.List.{map, flat_map}
use Rattle.std.specs.Prelude.{◌≡◌, true, List, ℕ, ◌+◌, ◌≤◌, length, take}
use Rattle.numbers.specs.Bytes.{all_below}
use Rattle.sharing_laws.specs.Poly.{padded}
use Rattle.sharing_laws.specs.Interp.{dot}
use Rattle.sharing_laws.specs.Basis.{basis, row}

-- the first k coefficients of the basis polynomial of the point x among the points xs
unfoldable pub low_basis : ℕ → ℕ → List ℕ → ℕ → List ℕ
low_basis p k xs x = padded k (take k (basis p xs x))

-- those up to X^t of all points, one after the other
unfoldable pub bases : ℕ → ℕ → List ℕ → List ℕ
bases p t xs = flat_map (low_basis p (t + 1) xs) xs

-- the matrix, row by row
unfoldable pub matrix : ℕ → ℕ → List ℕ → List ℕ
matrix p t xs = flat_map (row p t xs) xs

-- what its rows make of the values vs
unfoldable pub applied : ℕ → ℕ → List ℕ → List ℕ → List ℕ
applied p t xs vs = map (λ x. dot p (row p t xs x) vs) xs

-- at most 15 points, and at most 15 coefficients
pub record Few (p t : ℕ) (points : List ℕ) : Type 0 where
  pub elements : all_below p points ≡ true
  pub count : length points ≤ 15
  pub degree : t ≤ 14

-- a table of basis polynomials
pub record Based (p t : ℕ) (points table : List ℕ) : Type 0 where
  pub few : Few p t points
  pub is : table ≡ bases p t points

-- a table of the matrix
pub record Ruled (p t : ℕ) (points table : List ℕ) : Type 0 where
  pub few : Few p t points
  pub is : table ≡ matrix p t points
