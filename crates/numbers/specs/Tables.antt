-- Lists by a rule, the first index at which a test fails, counts and sums.
use Rattle.std.specs.Prelude.{Option, Some, None, ℕ, zero, suc, ◌+◌, Bool, cond, List, [], ◌∷◌}

-- f 0, f 1, .. up to n entries
unfoldable pub tab : {A : Type 0} → (ℕ → A) → ℕ → List A
tab f zero = []
tab f (suc n) = f 0 ∷ tab (λ k. f (suc k)) n

-- of the n indices i, i + 1, .. the first at which the test fails
unfoldable pub first_from : (ℕ → Bool) → ℕ → ℕ → Option ℕ
first_from ok zero i = None
first_from ok (suc n) i = cond (ok i) (first_from ok n (suc i)) (Some i)

-- of the first n indices the first at which the test fails
unfoldable pub first_failing : (ℕ → Bool) → ℕ → Option ℕ
first_failing ok n = first_from ok n 0

-- how many entries pass the test
unfoldable pub count_where : {A : Type 0} → (A → Bool) → List A → ℕ
count_where f [] = 0
count_where f (x ∷ xs) = cond (f x) (suc (count_where f xs)) (count_where f xs)

unfoldable pub total : List ℕ → ℕ
total [] = 0
total (x ∷ xs) = x + total xs
