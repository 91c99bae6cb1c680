-- A text as the code reads it: field by field, from a place on. Between fields a place never stands at a blank: the blanks after a field are
-- skipped with it, so that it stands at the next field, at the line feed or at the text's end. proofs/Lines.antt joins this to Lines.antt.
use Rattle.std.specs.Prelude.{Option, Some, None, ℕ, zero, suc, ◌+◌, ◌-◌, ◌*◌, ◌<◌, ◌≤◌, ◌≡◌, Bool, true, cond, ◌&&◌, List, [], ◌∷◌, eqb, leb, length, get_or, drop}
use Rattle.std.specs.List.{starts_with}
use Rattle.text_decimals.specs.Reading.{blanks_end, decimal_at}
use Rattle.import_lines.specs.declared.Values.{Values}

-- ---- lines
unfoldable pub is_gap : ℕ → Bool
is_gap b = cond (eqb b 32) true (eqb b 10)

-- the first place from `at` on with neither a blank nor a line feed
unfoldable pub line_from : ℕ → List ℕ → ℕ → ℕ
line_from zero s at = at
line_from (suc m) s at = cond (is_gap (get_or s at 0)) (line_from m s (suc at)) at

unfoldable pub line_start : List ℕ → ℕ → ℕ
line_start s at = line_from (length s - at) s at

-- the line is over: its line feed, or the text's end
unfoldable pub line_over : List ℕ → ℕ → Bool
line_over s at = cond (leb (length s) at) true (eqb (get_or s at 0) 10)

-- ---- fields
-- a field ends at a blank or with its line
unfoldable pub field_over : List ℕ → ℕ → Bool
field_over s at = cond (eqb (get_or s at 0) 32) true (line_over s at)

unfoldable pub whole_field : List ℕ → Option (ℕ × ℕ) → Option (ℕ × ℕ)
whole_field s (Some (v, e)) = cond (field_over s e) (Some (v, blanks_end s e)) None
whole_field s None = None

-- the number that is the field at a place, at most 65,535
unfoldable pub number_at : List ℕ → ℕ → Option (ℕ × ℕ)
number_at s at = whole_field s (decimal_at 65536 s at)

-- the field at a place is this word, and the line's last: the place past it
unfoldable pub word_past : List ℕ → List ℕ → ℕ → Option ℕ
word_past w s at =
    cond (leb (at + length w) (length s) && (starts_with eqb (drop at s) w && line_over s (blanks_end s (at + length w)))) (Some (at + length w)) None

-- what goes on after a number, with its value and the next field's place
unfoldable pub with_number : {A : Type 0} → A → (ℕ → ℕ → A) → Option (ℕ × ℕ) → A
with_number other f (Some (v, e)) = f v e
with_number other f None = other

-- ---- lines of numbers
pub data NumbersRead : Type 0 where
  Read : List ℕ → ℕ → NumbersRead
  Wrong : NumbersRead

unfoldable pub following : ℕ → NumbersRead → NumbersRead
following v (Read vs e) = Read (v ∷ vs) e
following v Wrong = Wrong

-- k numbers, and then the line is over
unfoldable pub numbers_at : ℕ → List ℕ → ℕ → NumbersRead
numbers_at zero s at = cond (line_over s at) (Read [] at) Wrong
numbers_at (suc k) s at = with_number Wrong (λ v e. following v (numbers_at k s e)) (number_at s at)

unfoldable pub sum_of : List ℕ → ℕ
sum_of [] = 0
sum_of (x ∷ xs) = x + sum_of xs

-- their sum, after a sum x
unfoldable pub summed : ℕ → ℕ → ℕ → NumbersRead → Option Values
summed k at x (Read vs e) = Some (record { count = k; first = at; total = x + sum_of vs; past = e })
summed k at x Wrong = None

-- a line that says how many numbers follow, then these: the count, the first one's place, their sum, and the place past them
unfoldable pub values_at : List ℕ → ℕ → Option Values
values_at s at = with_number None (λ k e. summed k e 0 (numbers_at k s e)) (number_at s at)

-- ---- what the code says beside the value
unfoldable pub SmallNumeral : Option (ℕ × ℕ) → Type 0
SmallNumeral (Some (v, e)) = v < 65536
SmallNumeral None = Unit

-- a number read as the definition says, below 65,536
pub record NumberRead (d r : Option (ℕ × ℕ)) : Type 0 where
  pub eq : r ≡ d
  pub small : SmallNumeral r

unfoldable pub SmallValues : Option Values → Type 0
SmallValues (Some v) = record { few : v.count < 65536; small : v.total ≤ 65535 * 65535 }
SmallValues None = Unit

pub record ValuesRead (d r : Option Values) : Type 0 where
  pub eq : r ≡ d
  pub small : SmallValues r
