-- The line charge: what each party sends, the carrier's bill in cents, and each party's part of it.
use Rattle.std.specs.Prelude.{ℕ, zero, suc, ◌+◌, ◌-◌, ◌*◌, ◌/◌, ◌%◌, cond, List, map, leb, ltb, length, get_or, set}
use Rattle.numbers.specs.Tables.{tab, total}
use Rattle.plan.specs.declared.Rule.{Rule}
use Rattle.plan.specs.declared.Rule.TheVariants.{Reduction, Truncation}
use Rattle.plan.specs.Plans.{Plan, parties, dealer_count, last_call, written_count, sent_count}

-- the elements that party i sends, own included: what its calls write, but for the last, which writes results
unfoldable pub elements_by : Plan → ℕ → ℕ
elements_by plan i = total (tab (written_count plan i) (last_call plan))

-- by party, ascending
unfoldable pub elements : Plan → List ℕ
elements plan = map (elements_by plan) (parties plan)

-- elements times the price of 1,000, divided by 1,000 and rounded up
unfoldable pub bill_for : ℕ → ℕ → ℕ
bill_for sent price = (sent * price + 999) / 1000

-- ---- a bill's parts in proportion to the numbers of a list, of which one is above 0. Party i + 1 has entry i
-- rounded down, and what that leaves over
unfoldable pub floor_at : ℕ → List ℕ → ℕ → ℕ
floor_at bill es i = bill * get_or es i 0 / total es

unfoldable pub remainder_at : ℕ → List ℕ → ℕ → ℕ
remainder_at bill es i = bill * get_or es i 0 % total es

-- the cents left over
unfoldable pub left_over : ℕ → List ℕ → ℕ
left_over bill es = bill - total (tab (floor_at bill es) (length es))

-- the place of the greater of two numbers of a list, b where they are equal
unfoldable pub greater_at : List ℕ → ℕ → ℕ → ℕ
greater_at rs b i = cond (ltb (get_or rs b 0) (get_or rs i 0)) i b

-- the place of the greatest number of a list, the lowest among equals: of m more places from i on, the greatest so far being at b
unfoldable pub greatest_from : ℕ → List ℕ → ℕ → ℕ → ℕ
greatest_from zero rs b i = b
greatest_from (suc m) rs b i = greatest_from m rs (greater_at rs b i) (suc i)

unfoldable pub greatest : List ℕ → ℕ
greatest rs = greatest_from (length rs) rs 0 0

-- the parts so far, and the remainders of those that have got no cent yet (0 for those that have)
pub record Shares : Type 0 where
  pub parts : List ℕ
  pub rests : List ℕ

unfoldable pub give_to : ℕ → Shares → Shares
give_to k s = record { parts = set s.parts k (suc (get_or s.parts k 0)); rests = set s.rests k 0 }

-- so many cents, one at a time, each to the greatest remainder that is left
unfoldable pub give : ℕ → Shares → Shares
give zero s = s
give (suc m) s = give m (give_to (greatest s.rests) s)

unfoldable pub shares_first : ℕ → List ℕ → Shares
shares_first bill es = record { parts = tab (floor_at bill es) (length es); rests = tab (remainder_at bill es) (length es) }

unfoldable pub parts_of : ℕ → List ℕ → List ℕ
parts_of bill es = (give (left_over bill es) (shares_first bill es)).parts

unfoldable pub part_at : ℕ → List ℕ → ℕ → ℕ
part_at bill es i = get_or (parts_of bill es) i 0

-- ---- of a plan
unfoldable pub bill_of : Plan → ℕ → ℕ
bill_of plan price = bill_for (sent_count plan) price

unfoldable pub charge_of : Plan → ℕ → List ℕ
charge_of plan price = parts_of (bill_of plan price) (elements plan)

-- ---- for the code alone: no other definition and no demand cites this
-- what party i sends each party at a multiply gate: a piece if it is a dealer, or one in each of three rounds
unfoldable pub pieces_by : Plan → Rule → ℕ → ℕ
pieces_by plan Reduction i = cond (leb i (dealer_count plan)) 1 0
pieces_by plan Truncation i = 3
