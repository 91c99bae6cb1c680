-- What is claimed of the line charge: "Each pays in proportion to the elements it sends, rounded down; cents left over go
-- to the greatest remainders, lower seats first among equals. The parts add up to the bill." And the worked bills, as one table.
use Rattle.std.specs.Prelude.{Ok, ℕ, suc, ◌+◌, ◌*◌, ◌≤◌, ◌<◌, ◌≡◌, ◌⊎◌, List, [], ◌∷◌, length, get_or, replicate}
use Rattle.numbers.specs.Tables.{total}
use Rattle.numbers.specs.Bytes.{limit, bytes_of}
use Rattle.plan.specs.Refusals.{code_of}
use Rattle.plan.specs.Plans.{Plan, party_count, sent_count}
use Rattle.plan.specs.File.{plan_of}
use Rattle.charge_laws.specs.Charges.{elements, floor_at, remainder_at, bill_of, charge_of}
use Rattle.charge_call.specs.ChargeCalls.{charge_answer, charge_after}
use Rattle.demands.specs.Sums.{like_k}

-- ---- a bill shared by the numbers of a list; entry i is party i + 1's
pub record Shared (bill : ℕ) (es : List ℕ) (parts : List ℕ) : Type 0 where
  pub long : length parts ≡ length es
  -- the parts add up to the bill
  pub sum : total parts ≡ bill
  -- each is the proportion rounded down, or one cent more
  pub part : (i : ℕ) → i < length es → (get_or parts i 0 ≡ floor_at bill es i) ⊎ (get_or parts i 0 ≡ suc (floor_at bill es i))
  -- one that gets a cent has a remainder, no smaller than that of one that does not
  pub owed : (i : ℕ) → i < length es → get_or parts i 0 ≡ suc (floor_at bill es i) → 1 ≤ remainder_at bill es i
  pub greatest :
      (i j : ℕ) → i < length es → j < length es → get_or parts i 0 ≡ suc (floor_at bill es i) → get_or parts j 0 ≡ floor_at bill es j
      → remainder_at bill es j ≤ remainder_at bill es i
  -- and of equal remainders the lower party has it
  pub lower :
      (i j : ℕ) → i < length es → j < length es → get_or parts i 0 ≡ suc (floor_at bill es i) → get_or parts j 0 ≡ floor_at bill es j
      → remainder_at bill es j ≡ remainder_at bill es i → i < j

-- ---- of a plan at a price for 1,000 elements
pub record Charged (plan : Plan) (price : ℕ) : Type 0 where
  -- what the parties send is all that the bench counts
  pub sent : total (elements plan) ≡ sent_count plan
  -- the bill is the least whole number of cents that covers the price
  pub covers : sent_count plan * price ≤ 1000 * bill_of plan price
  pub least : 1000 * bill_of plan price < sent_count plan * price + 1000
  pub shared : Shared (bill_of plan price) (elements plan) (charge_of plan price)

-- where nothing is refused, the buffer is the list of a part for each party, each whole in its bytes
pub record ChargedBytes (bytes : List ℕ) (price : ℕ) (out : List ℕ) : Type 0 where
  pub charged : Charged (plan_of bytes) price
  pub written : charge_after bytes price out ≡ bytes_of (charge_of (plan_of bytes) price)
  pub parts : length (charge_of (plan_of bytes) price) ≡ party_count (plan_of bytes)
  pub whole : (i : ℕ) → get_or (charge_of (plan_of bytes) price) i 0 < limit

abbrev pub ChargedRight : Type 0
ChargedRight = (bytes : List ℕ) (price : ℕ) (out : List ℕ) → charge_answer bytes price (length out) ≡ Ok tt → ChargedBytes bytes price out

-- ---- the worked bills, of plan K; and of K among five parties, of which two are no dealers
abbrev pub charge_k : ℕ → List ℕ
charge_k price = charge_of (plan_of (like_k 3 1 11 0)) price

abbrev pub bill_k : ℕ → ℕ
bill_k price = bill_of (plan_of (like_k 3 1 11 0)) price

pub record ChargeSums : Type 0 where
  pub sends : elements (plan_of (like_k 3 1 11 0)) ≡ 7 ∷ 7 ∷ 4 ∷ []
  pub highest : charge_k 1000000 ≡ 7000 ∷ 7000 ∷ 4000 ∷ []
  pub highest_bill : bill_k 1000000 ≡ 18000
  pub at_277 : charge_k 277 ≡ 2 ∷ 2 ∷ 1 ∷ []
  pub bill_277 : bill_k 277 ≡ 5
  pub at_278 : charge_k 278 ≡ 3 ∷ 2 ∷ 1 ∷ []
  pub bill_278 : bill_k 278 ≡ 6
  pub free : charge_k 0 ≡ 0 ∷ 0 ∷ 0 ∷ []
  pub one : charge_k 1 ≡ 1 ∷ 0 ∷ 0 ∷ []
  pub five_send : elements (plan_of (like_k 5 1 11 0)) ≡ 11 ∷ 11 ∷ 6 ∷ 1 ∷ 1 ∷ []
  pub five : charge_of (plan_of (like_k 5 1 11 0)) 500 ≡ 6 ∷ 6 ∷ 3 ∷ 0 ∷ 0 ∷ []
  pub bytes : charge_after (like_k 3 1 11 0) 1000000 (replicate 12 9) ≡ 88 ∷ 27 ∷ 0 ∷ 0 ∷ 88 ∷ 27 ∷ 0 ∷ 0 ∷ 160 ∷ 15 ∷ 0 ∷ 0 ∷ []
  -- refusals
  pub passes : code_of (charge_answer (like_k 3 1 11 0) 1000000 12) ≡ 0
  pub free_passes : code_of (charge_answer (like_k 3 1 11 0) 0 12) ≡ 0
  pub dear : code_of (charge_answer (like_k 3 1 11 0) 1000001 12) ≡ 31
  pub dear_first : code_of (charge_answer (like_k 3 1 11 0) 1000001 11) ≡ 31
  pub short : code_of (charge_answer (like_k 3 1 11 0) 1000000 11) ≡ 19
  pub plan_first : code_of (charge_answer (like_k 3 1 9 0) 1000001 11) ≡ 5
