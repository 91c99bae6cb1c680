-- What an opening takes.
use Rattle.std.specs.Prelude.{◌≡◌, true, List, ℕ, ◌<◌, ◌≤◌, length}
use Rattle.numbers.specs.Bytes.{all_below}
use Rattle.sharing_laws.specs.Sharing.{opening_rows}

-- the shares of a value, one at each of at most 15 points, of which t + 1 open it
pub record Openable (p t : ℕ) (points shares : List ℕ) : Type 0 where
  pub elements : all_below p points ≡ true
  pub known : all_below p shares ≡ true
  pub threshold : t < length points
  pub few : length points ≤ 15
  pub each : length shares ≡ length points

-- what checks openings among at most 65536 points, of which t + 1 open a value: their opening rows
pub record Checkable (p t : ℕ) (points rows : List ℕ) : Type 0 where
  pub threshold : t < length points
  pub few : length points ≤ 65536
  pub weights : rows ≡ opening_rows p t points
