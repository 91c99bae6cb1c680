-- Text that is appended to a lent buffer as far as there is room.
use Rattle.std.specs.Prelude.{ℕ, ◌≤◌, ◌≡◌, List, ◌++◌, length, take}

-- a buffer of which `at` bytes stood, after the bytes xs are appended to them: `r` bytes stand
pub record Put (xs : List ℕ) (at : ℕ) (old new : List ℕ) (r : ℕ) : Type 0 where
  pub long : length new ≡ length old
  pub room : r ≤ length old
  pub text : take r new ≡ take (length old) (take at old ++ xs)

-- a buffer after the text xs is written to it, as far as there is room: `r` bytes of it
pub record Reported (xs old new : List ℕ) (r : ℕ) : Type 0 where
  pub room : r ≤ length new
  pub text : take r new ≡ take (length old) xs
  pub count : r ≡ length (take (length old) xs)
