-- What holds of every entry of a list, of parts of it; points apart from each other.
use mathlib.Core.Path.{◌≡◌, refl, ap, ◌∙◌}
use mathlib.Core.Logic.{◌≢◌}
use mathlib.Core.Bool.{true}
use mathlib.Core.List.{List, [], ◌∷◌, ◌++◌, map}
use Prim.Native.Nat.{ℕ, zero, suc, ◌+◌, ◌%◌, ◌<◌}
use native.Mathlib.Omega.{arith}
use borrow.Author.Tests.{lt-ltb}
use lib.ListN.{length, take, drop, get_or}
use lib.Seq.{length-take-le}
use Rattle.numbers.specs.Tables.{tab}
use Rattle.numbers.specs.Bytes.{all_below}
use Rattle.numbers.proofs.Tables.{list-tab, tab-map}
use Rattle.numbers.proofs.Below.{all_below_at, at-all_below}
use Rattle.field.proofs.Solve.{Canon, below, canon-lt}
use Rattle.sharing_laws.specs.Interp.{All, Distinct}

pub all-tab : (P : ℕ → Type 0) (f : ℕ → ℕ) (n : ℕ) → ((k : ℕ) → k < n → P (f k)) → All P (tab f n)
unfolding tab
all-tab P f zero h = tt
all-tab P f (suc n) h = (h 0 (omega arith), all-tab P (λ k. f (suc k)) n (λ k l. h (suc k) (omega arith)))

pub all_append : (P : ℕ → Type 0) (xs ys : List ℕ) → All P xs → All P ys → All P (xs ++ ys)
all_append P [] ys a b = b
all_append P (x ∷ xs) ys a b = (a.0, all_append P xs ys a.1 b)

pub all_take : (P : ℕ → Type 0) (n : ℕ) (xs : List ℕ) → All P xs → All P (take n xs)
all_take P zero xs a = tt
all_take P (suc n) [] a = tt
all_take P (suc n) (x ∷ xs) a = (a.0, all_take P n xs a.1)

pub all_drop : (P : ℕ → Type 0) (n : ℕ) (xs : List ℕ) → All P xs → All P (drop n xs)
all_drop P zero xs a = a
all_drop P (suc n) [] a = tt
all_drop P (suc n) (x ∷ xs) a = all_drop P n xs a.1

pub all_at : (P : ℕ → Type 0) (xs : List ℕ) (i : ℕ) → All P xs → i < length xs → P (get_or xs i 0)
all_at P [] i a l = absurd (omega arith)
all_at P (x ∷ xs) zero a l = a.0
all_at P (x ∷ xs) (suc i) a l = all_at P xs i a.1 (omega arith)

pub distinct-take : (p k : ℕ) (xs : List ℕ) → Distinct p xs → Distinct p (take k xs)
distinct-take p zero xs d = tt
distinct-take p (suc k) [] d = tt
distinct-take p (suc k) (x ∷ xs) d = (all_take (λ y. y % p ≢ x % p) k xs d.0, distinct-take p k xs d.1)

-- ---- the first t + 1 points
pub length_first : (t : ℕ) (points : List ℕ) → t < length points → length (take (t + 1) points) ≡ t + 1
length_first t points l = length-take-le (t + 1) points (omega arith)

-- ---- a rule at every entry
pub map-tab : (f : ℕ → ℕ) (xs : List ℕ) → map f xs ≡ tab (λ i. f (get_or xs i 0)) (length xs)
map-tab f xs = ap (map f) (list-tab xs 0) ∙ tab-map f (λ i. get_or xs i 0) (length xs)

-- ---- lists of elements
pub map_below : (p : ℕ) (f : ℕ → ℕ) (xs : List ℕ) → ((x : ℕ) → f x < p) → all_below p (map f xs) ≡ true
unfolding all_below
map_below p f [] h = refl
map_below p f (x ∷ xs) h = rw (lt-ltb (f x) p (h x)) (map_below p f xs h)

pub below_canon : (p : ℕ) (xs : List ℕ) → all_below p xs ≡ true → All (Canon p) xs
below_canon p [] h = tt
below_canon p (x ∷ xs) h = (below (all_below_at p (x ∷ xs) 0 h (omega arith)), below_canon p xs (at-all_below p xs (λ i l. all_below_at p (x ∷ xs) (suc i) h (omega arith))))

pub canon_below : (p : ℕ) → 0 < p → (xs : List ℕ) → All (Canon p) xs → all_below p xs ≡ true
unfolding all_below
canon_below p pos [] h = refl
canon_below p pos (x ∷ xs) h = rw (lt-ltb x p (canon-lt pos h.0), canon_below p pos xs h.1)
