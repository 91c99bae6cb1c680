-- Rows of a view's numbers and a count: neighbours with the same view become one row, and the counts add up.
use Rattle.std.specs.Prelude.{ℕ, ◌+◌, ◌-◌, ◌*◌, ◌≤◌, ◌<◌, Bool, cond, List, [], ◌∷◌, ◌++◌, length, take, drop, get_or, set, replicate}
use Rattle.numbers.specs.Bytes.{limit}
use Rattle.std.specs.Ordering.{is_eq}
use Rattle.count_rows.specs.Tables.{order_of, row}

-- the first v numbers are the same
unfoldable pub same_view : ℕ → List ℕ → List ℕ → Bool
same_view v r s = is_eq (order_of (take v r) (take v s))

-- number v of a row is its count
abbrev pub count_of : ℕ → List ℕ → ℕ
count_of v r = get_or r v 0

unfoldable pub added : ℕ → List ℕ → List ℕ → List ℕ
added v r s = set r v (count_of v r + count_of v s)

-- a row that collects what follows it
unfoldable pub merged_from : ℕ → List ℕ → List (List ℕ) → List (List ℕ)
merged_from v r [] = r ∷ []
merged_from v r (s ∷ rs) = cond (same_view v r s) (merged_from v (added v r s) rs) (r ∷ merged_from v s rs)

unfoldable pub merged : ℕ → List (List ℕ) → List (List ℕ)
merged v [] = []
merged v (r ∷ rs) = merged_from v r rs

unfoldable pub counts_of : ℕ → List (List ℕ) → ℕ
counts_of v [] = 0
counts_of v (r ∷ rs) = count_of v r + counts_of v rs

-- one row after the other
unfoldable pub flat : List (List ℕ) → List ℕ
flat [] = []
flat (r ∷ rs) = r ++ flat rs

-- k rows of w numbers; rows left over are 0
unfoldable pub listed : ℕ → ℕ → List (List ℕ) → List ℕ
listed w k rs = flat rs ++ replicate (w * (k - length rs)) 0

-- ---- rows up to `to` are merged, rows from `from` on are still to come
unfoldable pub whole : ℕ → List (List ℕ) → ℕ → ℕ → List (List ℕ)
whole v t to from = take to t ++ merged_from v (row t to) (drop from t)

pub record Live (v : ℕ) (t : List (List ℕ)) (to from : ℕ) : Type 0 where
  pub low : to < from
  pub high : from ≤ length t
  pub small : count_of v (row t to) + counts_of v (drop from t) < limit
