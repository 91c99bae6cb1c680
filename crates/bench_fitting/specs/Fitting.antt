-- How long the bench program's text can be, so that its buffer holds it and `report` is printed whole.
use Rattle.std.specs.Prelude.{ℕ, ◌≤◌, ◌≡◌, List, length, take}
use Rattle.bench_lines.specs.Report.{report}

-- no text has more bytes
abbrev pub longest : ℕ
longest = 1000000

abbrev pub Fitting : Type 0
Fitting = (bs : List ℕ) → length (report bs) ≤ longest

-- a buffer whose first r bytes are the text xs, no more and no less
pub record Whole (xs new : List ℕ) (r : ℕ) : Type 0 where
  pub room : r ≤ length new
  pub text : take r new ≡ xs
  pub count : r ≡ length xs
