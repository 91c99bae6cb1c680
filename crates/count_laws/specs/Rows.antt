-- Views with their counts: each view once, ascending, with the number of times that it stands in a list of views.
use Rattle.std.specs.Prelude.{ℕ, suc, ◌+◌, ◌-◌, ◌*◌, ◌<◌, ◌≤◌, ◌≡◌, true, cond, length, get_or, replicate}
use mathlib.Core.List.{List, [], ◌∷◌, ◌++◌, map, flat_map}
use Rattle.numbers.specs.Tables.{count_where}
use Rattle.plan.specs.File.{same_bytes}
use Rattle.count_rows.specs.Tables.{is_before}

pub record Row : Type 0 where
  pub seen : List ℕ
  pub count : ℕ

-- one setting more that leads to a view
unfoldable pub counted : List ℕ → List Row → List Row
counted v [] = record { seen = v; count = 1 } ∷ []
counted v (r ∷ rs) =
    cond (same_bytes v r.seen) (record { seen = r.seen; count = suc r.count } ∷ rs)
    (cond (is_before v r.seen) (record { seen = v; count = 1 } ∷ (r ∷ rs)) (r ∷ counted v rs))

unfoldable pub rows_of : List (List ℕ) → List Row
rows_of [] = []
rows_of (v ∷ vs) = counted v (rows_of vs)

-- a view's numbers, then its count
unfoldable pub row_numbers : Row → List ℕ
row_numbers r = r.seen ++ (r.count ∷ [])

-- the numbers of `settings` rows of `wide` numbers each; rows left over are 0
unfoldable pub listed : ℕ → ℕ → List Row → List ℕ
listed settings wide rows = flat_map row_numbers rows ++ replicate (wide * (settings - length rows)) 0

-- ---- what is claimed of the rows of any list of views
-- how often a view stands in a list of views
unfoldable pub times_in : List ℕ → List (List ℕ) → ℕ
times_in v vs = count_where (same_bytes v) vs

unfoldable pub counts_of : List Row → ℕ
counts_of [] = 0
counts_of (r ∷ rs) = r.count + counts_of rs

abbrev pub no_row : Row
no_row = record { seen = []; count = 0 }

pub record Tallied (vs : List (List ℕ)) : Type 0 where
  -- a row's view is reached, and its count is right
  pub right :
      (i : ℕ) → i < length (rows_of vs)
      → ((get_or (rows_of vs) i no_row).count ≡ times_in (get_or (rows_of vs) i no_row).seen vs) × (1 ≤ (get_or (rows_of vs) i no_row).count)
  -- each view reached has one row
  pub complete : (v : List ℕ) → 1 ≤ times_in v vs → times_in v (map (λ r. r.seen) (rows_of vs)) ≡ 1
  -- the rows stand ascending, compared from their first number
  pub ascending : (i : ℕ) → suc i < length (rows_of vs) → is_before (get_or (rows_of vs) i no_row).seen (get_or (rows_of vs) (suc i) no_row).seen ≡ true
  -- the counts add up to the settings, so there are no more rows than settings
  pub sum : counts_of (rows_of vs) ≡ length vs
  pub few : length (rows_of vs) ≤ length vs
