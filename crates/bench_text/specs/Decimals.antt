-- Printed numbers and words, as ASCII bytes.
use Rattle.std.specs.Prelude.{ℕ, zero, suc, ◌+◌, ◌/◌, ◌%◌, cond, ltb}
use mathlib.Core.List.{List, [], ◌∷◌, ◌++◌, flat_map}

-- the digits of x, of which there are at most as many as the first argument says
unfoldable pub digits : ℕ → ℕ → List ℕ
digits zero x = []
digits (suc k) x = cond (ltb x 10) ((48 + x) ∷ []) (digits k (x / 10) ++ ((48 + x % 10) ∷ []))

-- a number in decimal; no number that is printed has over 20 digits
unfoldable pub decimal : ℕ → List ℕ
decimal x = digits 20 x

-- a blank, then the number
unfoldable pub field : ℕ → List ℕ
field x = 32 ∷ decimal x

-- a line: its word, its numbers, each after a blank, and a line feed
unfoldable pub line : List ℕ → List ℕ → List ℕ
line word xs = word ++ (flat_map field xs ++ (10 ∷ []))
