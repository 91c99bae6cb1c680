-- The grid of pieces of a multiply gate, row the dealer and column the receiver, and the sums of its columns.
use Rattle.std.specs.Prelude.{ℕ, zero, suc, ◌+◌, ◌*◌, ◌%◌, ◌≡◌, List, [], ◌∷◌, map, length, take, drop, get_or, set}
use Rattle.numbers.specs.Tables.{tab}
use Rattle.sharing_laws.specs.Interp.{weights, dot, plain_sum}
use Rattle.sharing_laws.specs.Basis.{sum_all}
use Rattle.plan.specs.Plans.{Plan, dealer_count, dealer_points}
use Rattle.plan.specs.declared.Step.TheVariants.{DealProduct}
use Rattle.seat_messages.specs.Messages.{learnt}
use Rattle.run_dealings.specs.Rows.{powers}

-- a column: in it what each row gives to one receiver
unfoldable pub column : List (List ℕ) → ℕ → List ℕ
column grid j = map (λ row. get_or row j 0) grid

-- a column's sum as the code works it: weight times piece, added as they stand, and one remainder
unfoldable pub column_sum : ℕ → List ℕ → List ℕ → ℕ
column_sum p ws pieces = plain_sum ws pieces % p

-- the pieces of a plan's dealers in column j
unfoldable pub received : Plan → List (List ℕ) → ℕ → List ℕ
received plan grid j = take (dealer_count plan) (column grid j)

-- The law of the grid, proved as `column_sum_lem` in proofs/ColumnLaws.antt: for any pieces below p, those of a run or others, the sum of a column is
-- the share that the receiving party's own call learns from the column's pieces. (The equation holds for pieces that are not below p, too.)
abbrev pub ColumnSum : Type 0
ColumnSum =
    (plan : Plan) (grid : List (List ℕ)) (j g a b : ℕ) (triples shares : List ℕ)
    → set shares g (column_sum plan.p (weights plan.p 0 (dealer_points plan)) (received plan grid j))
    ≡ learnt plan (DealProduct g a b) triples shares (received plan grid j)

-- ---- what the code deals
-- the piece of polynomial d at the point with these powers; the polynomials stand one after the other, k coefficients each
unfoldable pub piece_by : ℕ → ℕ → List ℕ → List ℕ → ℕ → ℕ
piece_by p k powers polynomials d = dot p powers (take k (drop (k * d) polynomials))

-- those of the first m polynomials
unfoldable pub pieces_by : ℕ → ℕ → List ℕ → List ℕ → ℕ → List ℕ
pieces_by p k powers polynomials m = tab (piece_by p k powers polynomials) m

-- column j of the grid: the pieces at point j
unfoldable pub column_at : ℕ → ℕ → List ℕ → List ℕ → ℕ → ℕ → List ℕ
column_at p k points polynomials m j = pieces_by p k (powers p (get_or points j 0) k) polynomials m

-- the sum of the column at point x
unfoldable pub share_at : ℕ → ℕ → List ℕ → List ℕ → ℕ → ℕ
share_at p k ws polynomials x = column_sum p ws (pieces_by p k (powers p x k) polynomials (length ws))

-- coefficient i of the weighted sum of these polynomials, and the sum
unfoldable pub mixed_coefficient : ℕ → ℕ → List ℕ → List ℕ → ℕ → ℕ
mixed_coefficient p k ws polynomials i = dot p ws (tab (λ d. get_or polynomials (k * d + i) 0) (length ws))

unfoldable pub mixture_of : ℕ → ℕ → List ℕ → List ℕ → List ℕ
mixture_of p k ws polynomials = tab (mixed_coefficient p k ws polynomials) k

-- coefficient i of the sum of these polynomials, and the sum with k coefficients
unfoldable pub summed_coefficient : ℕ → List (List ℕ) → ℕ → ℕ
summed_coefficient p fs i = sum_all p (map (λ f. get_or f i 0) fs)

unfoldable pub total_of : ℕ → ℕ → List (List ℕ) → List ℕ
total_of p k fs = tab (summed_coefficient p fs) k

-- a grid with the first entries of column j set
unfoldable pub with_column : ℕ → List ℕ → List (List ℕ) → List (List ℕ)
with_column j vs [] = []
with_column j [] (row ∷ grid) = row ∷ grid
with_column j (v ∷ vs) (row ∷ grid) = set row j v ∷ with_column j vs grid

-- a grid with the first entries of its first n columns set
unfoldable pub with_columns : (ℕ → List ℕ) → ℕ → List (List ℕ) → List (List ℕ)
with_columns f zero grid = grid
with_columns f (suc n) grid = with_column n (f n) (with_columns f n grid)
