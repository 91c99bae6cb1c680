-- The table of shares as the code keeps it: a row for each wire, in it each party's share. The code deals by powers of the points.
use Rattle.std.specs.Prelude.{Option, Some, None, ℕ, zero, suc, ◌+◌, ◌*◌, ◌/◌, ◌≤◌, ◌<◌, ◌≡◌, true, cond, ltb, length, take, drop, get_or, replicate}
use mathlib.Core.List.{List, ◌∷◌, map, flat_map}
use Rattle.numbers.specs.Tables.{tab}
use Rattle.numbers.specs.Bytes.{width, numbers, all_below}
use Rattle.field.specs.Mod.{add, mul, sub}
use Rattle.sharing_laws.specs.Poly.{eval}
use Rattle.sharing_laws.specs.Interp.{weights, dot}
use Rattle.sharing_laws.specs.Basis.{sum_all, row}
use Rattle.sharing_laws.specs.Sharing.{opened}
use Rattle.field.specs.Field.{Ready}
use Rattle.sharing_matrix.specs.declared.Matrix.{Matrix}
use Rattle.plan.specs.declared.Gate.{Gate}
use Rattle.plan.specs.declared.Rule.{Rule}
use Rattle.plan.specs.declared.Rule.TheVariants.{Reduction, Truncation}
use Rattle.plan.specs.declared.Header.{Header}
use Rattle.plan.specs.Plans.{Plan, party_count, input_count, coin_count, coin_owners_at, triple_numbers}
use Rattle.plan.specs.File.{plan_of}
use Rattle.seat_messages.specs.Messages.{spent_share}
use Rattle.run_protocol.specs.Shares.{Before, wire_at, gate_share, past}

-- the rows of these wires, one after the other: each wire's shares at the points
unfoldable pub rows_of : List ℕ → List (ℕ → ℕ) → List ℕ
rows_of points env = flat_map (λ h. map h points) env

-- x to the k
unfoldable pub power : ℕ → ℕ → ℕ → ℕ
power p x zero = 1
power p x (suc k) = mul p (power p x k) x

-- 1, x, x², .. m of them
unfoldable pub powers : ℕ → ℕ → ℕ → List ℕ
powers p x m = tab (power p x) m

-- the powers of the points, a row for each
unfoldable pub power_rows : ℕ → ℕ → List ℕ → List ℕ
power_rows p m points = flat_map (λ x. powers p x m) points

-- what the first m parties deal where the table's wires a and b are multiplied: the products of their shares
unfoldable pub products_of : ℕ → ℕ → ℕ → ℕ → ℕ → List ℕ → List ℕ
products_of p n m a b table = tab (λ j. mul p (get_or table (n * a + j) 0) (get_or table (n * b + j) 0)) m

-- the polynomials of dealings of these values with t coins each, which begin `step` coins apart
unfoldable pub shared_by : ℕ → ℕ → List ℕ → List ℕ → List (List ℕ)
shared_by t step vs cs = tab (λ d. get_or vs d 0 ∷ take t (drop (step * d) cs)) (length vs)

-- the draws of a random wire, with which these inputs begin
unfoldable pub draws_of : ℕ → List ℕ → List ℕ
draws_of n xs = tab (λ d. get_or xs d 0) n

-- the sum of the values of these polynomials at x
unfoldable pub summed_at : ℕ → List (List ℕ) → ℕ → ℕ
summed_at p fs x = sum_all p (map (λ f. eval p f x) fs)

-- all parties' masked products where wires a and b are multiplied: the product of its shares, and the values at its point of the dealings of 0, whose
-- 2t coins each come before another t
unfoldable pub masked_of : ℕ → ℕ → List ℕ → ℕ → ℕ → List ℕ → List ℕ → List ℕ
masked_of p t points a b table cs =
    tab (λ d. add p (get_or (products_of p (length points) (length points) a b table) d 0) (summed_at p (shared_by (t + t) (3 * t) (replicate (length points) 0) cs) (get_or points d 0)))
    (length points)

-- the weighted sum of the values of these polynomials at x
unfoldable pub mixed_at : ℕ → List ℕ → List (List ℕ) → ℕ → ℕ
mixed_at p ws fs x = dot p ws (map (λ f. eval p f x) fs)

-- the share at x of a product by truncation: the parties' products weighed by the matrix, and the values of these polynomials, which are the dealings of
-- 0 up to X^t
unfoldable pub truncated_at : ℕ → ℕ → List ℕ → List ℕ → List (List ℕ) → ℕ → ℕ
truncated_at p t points vs fs x = add p (dot p (row p t points x) vs) (summed_at p fs x)

-- number j of party d's next triple, d counted from 0, where n parties have as many numbers each of the list, and `at` numbers of each are spent
unfoldable pub triple_in : ℕ → List ℕ → ℕ → ℕ → ℕ → ℕ
triple_in n ts at d j = get_or ts (length ts / n * d + (at + j)) 0

-- all parties' differences of the table's wire w and number j of their next triples
unfoldable pub differences_of : ℕ → ℕ → ℕ → ℕ → List ℕ → ℕ → List ℕ → List ℕ
differences_of p n w j ts at table = tab (λ d. sub p (get_or table (n * w + d) 0) (triple_in n ts at d j)) n

-- all parties' shares of the product of wires a and b that spends their next triples
unfoldable pub spent_of : ℕ → ℕ → List ℕ → ℕ → ℕ → List ℕ → ℕ → List ℕ → List ℕ
spent_of p t points a b ts at table =
    tab
    (λ d.
    spent_share p (triple_in (length points) ts at d 2) (get_or table (length points * a + d) 0) (get_or table (length points * b + d) 0)
    (opened p t points (differences_of p (length points) a 0 ts at table)) (opened p t points (differences_of p (length points) b 1 ts at table)))
    (length points)

-- how many coefficients a dealing of t coins is worked with, for t below 16
unfoldable pub terms : ℕ → ℕ
terms t = cond (ltb t 4) (suc t) (cond (ltb t 8) 8 16)

-- the bounds of a plan's contents
pub record Sized (h : Header) : Type 0 where
  pub ready : Ready h.field.p
  pub many : h.n ≤ 15
  pub small : h.n < h.field.p

-- the power rows of the points stand in front, k powers each
pub record Powered (p k : ℕ) (points rows : List ℕ) : Type 0 where
  pub room : k * length points ≤ length rows
  pub front : take (k * length points) rows ≡ power_rows p k points

-- how many dealers there are: 2t + 1, or all parties where these are fewer and no gate multiplies
pub record Dealers (t : ℕ) (points : List ℕ) (m : ℕ) : Type 0 where
  pub eq : m ≡ length (take (t + t + 1) points)

-- the weights at 0 of the first 2t + 1 points stand in front, or of all where there are fewer
pub record Weighted (p t : ℕ) (points ws : List ℕ) : Type 0 where
  pub wide : length (take (t + t + 1) points) ≤ length ws
  pub weighs : take (length (take (t + t + 1) points)) ws ≡ weights p 0 (take (t + t + 1) points)

-- dealings modulo p of t coins each are those of a plan: at all parties' points, with the weights at 0 of the first 2t + 1
pub record Fitted (bs : List ℕ) (h : Header) (p t : ℕ) (points ws : List ℕ) : Type 0 where
  pub field : p ≡ h.field.p
  pub threshold : t ≡ h.t
  pub are : points ≡ (plan_of bs).points
  pub weighs : ws ≡ weights p 0 (take (t + t + 1) points)

-- a matrix among the points of such dealings
pub record Cutting (p t : ℕ) (points : List ℕ) (m : Matrix) : Type 0 where
  pub field : m.sums.field.p ≡ p
  pub threshold : m.t ≡ t
  pub are : m.points.now ≡ points

-- what is kept for a rule: such a matrix for truncation, and none for degree reduction
pub record Ruling (rule : Rule) (p t : ℕ) (points : List ℕ) (kept : Option Matrix) : Type 0 where
  pub none : kept ≡ None → rule ≡ Reduction
  pub some : (m : Matrix) → kept ≡ Some m → rule ≡ Truncation
  pub cuts : (m : Matrix) → kept ≡ Some m → Cutting p t points m

-- t coins for each of m dealings stand from place `at` on, and are below p
pub record Coined (p t m at : ℕ) (cs : List ℕ) : Type 0 where
  pub room : at + t * m ≤ length cs
  pub below : all_below p (take (t * m) (drop at cs)) ≡ true

-- t coins of each of m dealings stand, those of dealing d from number at + step * d on, and are below p
pub record Spaced (p t step m at : ℕ) (cs : List ℕ) : Type 0 where
  pub room : at + step * m + t ≤ length cs + step
  pub below : (d : ℕ) → d < m → all_below p (take t (drop (at + step * d) cs)) ≡ true

-- row w of a table stands, with elements
pub record Rowed (p n w : ℕ) (table : List ℕ) : Type 0 where
  pub room : n * w + n ≤ length table
  pub below : all_below p (take n (drop (n * w) table)) ≡ true

-- the rows of g wires stand in front, with elements
pub record Standing (p n g : ℕ) (table : List ℕ) : Type 0 where
  pub room : n * g ≤ length table
  pub below : all_below p (take (n * g) table) ≡ true

-- the coins that a gate takes, from place `at` on, are there and below p
pub record Taking (plan : Plan) (gate : Gate) (at : ℕ) (cs : List ℕ) : Type 0 where
  pub room : at + length (coin_owners_at plan gate) ≤ length cs
  pub below : all_below plan.p (take (length (coin_owners_at plan gate)) (drop at cs)) ≡ true

-- k numbers are left of every party's triples past the first `at`, and all are elements
pub record Spending (p n k at : ℕ) (ts : List ℕ) : Type 0 where
  pub room : at + k ≤ length ts / n
  pub below : all_below p ts ≡ true

-- what stands before gate g, where the rows of the wires below g stand in the table, xs and cs are the inputs and the coins from gate g on, and `at`
-- numbers of each party's triples are spent
pub record Holds (plan : Plan) (n g : ℕ) (xs cs ts : List ℕ) (at : ℕ) (table : List ℕ) (s : Before) : Type 0 where
  pub rows : take (n * g) table ≡ rows_of plan.points s.env
  pub inputs : s.inputs ≡ xs
  pub coins : s.coins ≡ cs
  pub triples : (d j : ℕ) → d < n → at + j < length ts / n → triple_in n ts at d j ≡ wire_at s.triples j (get_or plan.points d 0)

-- the row of gate g's wire
pub record Worked (plan : Plan) (n : ℕ) (gate : Gate) (g : ℕ) (xs cs ts : List ℕ) (at : ℕ) (table row : List ℕ) : Type 0 where
  pub is : (s : Before) → Holds plan n g xs cs ts at table s → take n row ≡ map (gate_share plan gate s) plan.points

-- a step over gate g: the rows of the wires below g and of wire g stand afterwards
pub record Stepped (plan : Plan) (n : ℕ) (gate : Gate) (g : ℕ) (xs cs ts : List ℕ) (at : ℕ) (old new : List ℕ) : Type 0 where
  pub next : (s : Before) → Holds plan n g xs cs ts at old s → take (n * (g + 1)) new ≡ rows_of plan.points (past plan gate s).env
  pub rest : drop (n * (g + 1)) new ≡ drop (n * (g + 1)) old

-- what a run is given: a full list of inputs, a full setting of coins, and all triples, lent as bytes
pub record Given (plan : Plan) (inputs coins triples : List ℕ) : Type 0 where
  pub inputs_count : length inputs ≡ width * input_count plan
  pub inputs_below : all_below plan.p (numbers inputs) ≡ true
  pub coins_count : length coins ≡ width * coin_count plan
  pub coins_below : all_below plan.p (numbers coins) ≡ true
  pub triples_count : length triples ≡ width * (party_count plan * triple_numbers plan)
  pub triples_below : all_below plan.p (numbers triples) ≡ true
