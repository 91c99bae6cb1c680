-- Who is off the line: what the check of an opening tells, for any prime and any distinct points.
use Rattle.std.specs.Prelude.{Some, None, ◌≡◌, ◌↔◌, true, List, map, ℕ, ◌+◌, ◌≤◌, ◌<◌, length, take}
use Rattle.numbers.specs.Bytes.{all_below}
use Rattle.field.specs.Prime.{Prime}
use Rattle.sharing_laws.specs.Poly.{eval}
use Rattle.sharing_laws.specs.Interp.{Distinct}
use Rattle.sharing_laws.specs.Sharing.{first_off}

-- the shares at the points lie on one polynomial of degree t or less
pub record OnOne (p t : ℕ) (points shares : List ℕ) : Type 0 where
  pub polynomial : List ℕ
  pub short : length polynomial ≤ t + 1
  pub values : map (eval p polynomial) points ≡ shares

-- party i, counted from 0, is the first that is off: it comes after the first t + 1; the shares of the parties before it lie on one polynomial
-- of degree t or less; and with its own share they do not
pub record OffAt (p t : ℕ) (points shares : List ℕ) (i : ℕ) : Type 0 where
  pub past : t < i
  pub within : i < length points
  pub before : OnOne p t (take i points) (take i shares)
  pub breaks : OnOne p t (take (i + 1) points) (take (i + 1) shares) → ⊥

-- A party is told just where it is the first that is off, and none is told just where all shares lie on one polynomial of degree t or less.
abbrev pub OffLine : Type 0
OffLine =
    (p t : ℕ) (points shares : List ℕ) → Prime p → Distinct p points → t < length points
    → length shares ≡ length points → all_below p shares ≡ true
    → ((i : ℕ) → (first_off p t points shares ≡ Some i) ↔ OffAt p t points shares i)
    × ((first_off p t points shares ≡ None) ↔ OnOne p t points shares)
