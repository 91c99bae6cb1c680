-- A plan (an arithmetic circuit with the parameters of its sharing), the steps of its communication, and the lists and counts that follow from it.
use Rattle.std.specs.Prelude.{ℕ, zero, suc, ◌+◌, ◌-◌, ◌*◌, Bool, cond, ◌&&◌, ◌||◌, eqb, leb, ltb, length, take, drop, get_or, replicate}
use mathlib.Core.List.{List, [], ◌∷◌, ◌++◌, flat_map}
use Rattle.numbers.specs.Tables.{tab, count_where}
use Rattle.plan.specs.declared.Output.{Output}
use Rattle.plan.specs.declared.Gate.{Gate}
use Rattle.plan.specs.declared.Gate.TheVariants.{Input, Add, Scale, Offset, Multiply, Random, Spend}
use Rattle.plan.specs.declared.Rule.{Rule}
use Rattle.plan.specs.declared.Rule.TheVariants.{Reduction, Truncation}
use Rattle.plan.specs.declared.Step.{Step}
use Rattle.plan.specs.declared.Step.TheVariants.{DealInputs, DealProduct, DealZero, DealMasked, SendTruncated, DealDraws, OpenSpent, SendOuts}
use Rattle.plan.specs.declared.Dealing.{Dealing}

-- party i's point is the i-th, counted from 1; there are as many parties (seats) as points
pub record Plan : Type 0 where
  pub t : ℕ
  pub p : ℕ
  pub points : List ℕ
  pub gates : List Gate
  pub outs : List Output
  pub rule : Rule

unfoldable pub party_count : Plan → ℕ
party_count plan = length plan.points

unfoldable pub parties : Plan → List ℕ
parties plan = tab suc (party_count plan)

unfoldable pub point_of : Plan → ℕ → ℕ
point_of plan i = get_or plan.points (i - 1) 0

-- 2t + 1: the dealers of degree reduction, and the points that fix a product of two shares
unfoldable pub dealer_count : Plan → ℕ
dealer_count plan = plan.t + plan.t + 1

unfoldable pub dealer_points : Plan → List ℕ
dealer_points plan = take (dealer_count plan) plan.points

-- ---- gates
-- a gate's kind in the plan file; from 5 on a gate takes rounds of its own
unfoldable pub kind_of : Gate → ℕ
kind_of (Input s) = 1
kind_of (Add a b) = 2
kind_of (Scale a c) = 3
kind_of (Offset a c) = 4
kind_of (Multiply a b) = 5
kind_of Random = 6
kind_of (Spend a b) = 7

unfoldable pub is_kind : ℕ → Gate → Bool
is_kind k g = eqb (kind_of g) k

unfoldable pub kind_count : Plan → ℕ → ℕ
kind_count plan k = count_where (is_kind k) plan.gates

-- kinds 5 and 7 need 2t below n
unfoldable pub multiplying : Gate → Bool
multiplying g = is_kind 5 g || is_kind 7 g

-- its a and b there
unfoldable pub operands_of : Gate → List ℕ
operands_of (Input s) = s ∷ 0 ∷ []
operands_of (Add a b) = a ∷ b ∷ []
operands_of (Scale a c) = a ∷ c ∷ []
operands_of (Offset a c) = a ∷ c ∷ []
operands_of (Multiply a b) = a ∷ b ∷ []
operands_of Random = 0 ∷ 0 ∷ []
operands_of (Spend a b) = a ∷ b ∷ []

unfoldable pub is_input_of : ℕ → Gate → Bool
is_input_of i g = is_kind 1 g && eqb i (get_or (operands_of g) 0 0)

-- the wires whose gate passes the test, the first gate being gate g
unfoldable pub wires_from : (Gate → Bool) → ℕ → List Gate → List ℕ
wires_from f g [] = []
wires_from f g (x ∷ xs) = cond (f x) (g ∷ wires_from f (suc g) xs) (wires_from f (suc g) xs)

-- the wires of party i's inputs
unfoldable pub input_wires : Plan → ℕ → List ℕ
input_wires plan i = wires_from (is_input_of i) 0 plan.gates

-- the wires of party i's outs
unfoldable pub out_wires_of : ℕ → List Output → List ℕ
out_wires_of i [] = []
out_wires_of i (o ∷ os) = cond (eqb i o.party) (o.wire ∷ out_wires_of i os) (out_wires_of i os)

unfoldable pub out_wires : Plan → ℕ → List ℕ
out_wires plan i = out_wires_of i plan.outs

-- ---- who owns the numbers of a run's lists
-- the parties whose inputs (figures, and draws) a gate takes
unfoldable pub input_owners_at : Plan → Gate → List ℕ
input_owners_at plan (Input s) = s ∷ []
input_owners_at plan Random = parties plan
input_owners_at plan _ = []

-- k dealings of t coins by the parties 1 to k
unfoldable pub first_dealings : Plan → ℕ → List Dealing
first_dealings plan k = tab (λ i. record { dealer = suc i; coins = plan.t }) k

-- a multiply's dealings: of products by parties 1 to 2t + 1; or, party by party, of 0 at degree 2t and of a masked share
unfoldable pub multiply_dealings : Plan → Rule → List Dealing
multiply_dealings plan Reduction = first_dealings plan (dealer_count plan)
multiply_dealings plan Truncation =
    flat_map (λ i. record { dealer = i; coins = plan.t + plan.t } ∷ record { dealer = i; coins = plan.t } ∷ []) (parties plan)

-- a gate's dealings, in the order of the coins
unfoldable pub dealings_at : Plan → Gate → List Dealing
dealings_at plan (Input s) = record { dealer = s; coins = plan.t } ∷ []
dealings_at plan (Multiply a b) = multiply_dealings plan plan.rule
dealings_at plan Random = first_dealings plan (party_count plan)
dealings_at plan _ = []

-- the owner of each coin that a gate takes
unfoldable pub coin_owners_at : Plan → Gate → List ℕ
coin_owners_at plan g = flat_map (λ d. replicate d.coins d.dealer) (dealings_at plan g)

-- the owner of each input and of each coin of a run
unfoldable pub input_owners : Plan → List ℕ
input_owners plan = flat_map (input_owners_at plan) plan.gates

unfoldable pub coin_owners : Plan → List ℕ
coin_owners plan = flat_map (coin_owners_at plan) plan.gates

-- of a list with these owners, party i's own
unfoldable pub own_of : ℕ → List ℕ → List ℕ → List ℕ
own_of i [] xs = []
own_of i (o ∷ os) xs = cond (eqb i o) (get_or xs 0 0 ∷ own_of i os (drop 1 xs)) (own_of i os (drop 1 xs))

unfoldable pub own_inputs : Plan → ℕ → List ℕ → List ℕ
own_inputs plan i xs = own_of i (input_owners plan) xs

unfoldable pub own_coins : Plan → ℕ → List ℕ → List ℕ
own_coins plan i cs = own_of i (coin_owners plan) cs

-- of party i's own inputs, that of gate g; of its own coins, k at gate g, after `skip` of that gate's
unfoldable pub input_at : Plan → ℕ → ℕ → List ℕ → ℕ
input_at plan i g own = get_or own (count_where (eqb i) (flat_map (input_owners_at plan) (take g plan.gates))) 0

unfoldable pub coins_at : Plan → ℕ → ℕ → ℕ → ℕ → List ℕ → List ℕ
coins_at plan i g skip k own = take k (drop (count_where (eqb i) (flat_map (coin_owners_at plan) (take g plan.gates)) + skip) own)

-- the numbers of a party's triples, three for each gate of kind 7, and which of these gates gate g is
unfoldable pub triple_numbers : Plan → ℕ
triple_numbers plan = 3 * kind_count plan 7

unfoldable pub triple_at : Plan → ℕ → ℕ
triple_at plan g = 3 * count_where (is_kind 7) (take g plan.gates)

-- of all triples, party by party, party i's own
unfoldable pub own_triples : Plan → ℕ → List ℕ → List ℕ
own_triples plan i ts = take (triple_numbers plan) (drop (triple_numbers plan * (i - 1)) ts)

-- ---- steps
unfoldable pub multiply_steps : Rule → ℕ → ℕ → ℕ → List Step
multiply_steps Reduction g a b = DealProduct g a b ∷ []
multiply_steps Truncation g a b = DealZero g ∷ DealMasked g a b ∷ SendTruncated g ∷ []

-- the steps of gate g
unfoldable pub steps_at : Rule → ℕ → Gate → List Step
steps_at rule g (Multiply a b) = multiply_steps rule g a b
steps_at rule g Random = DealDraws g ∷ []
steps_at rule g (Spend a b) = OpenSpent g a b ∷ []
steps_at rule g _ = []

-- the steps of these gates, the first being gate g
unfoldable pub steps_from : Rule → ℕ → List Gate → List Step
steps_from rule g [] = []
steps_from rule g (x ∷ xs) = steps_at rule g x ++ steps_from rule (suc g) xs

-- call number k sends step k
unfoldable pub steps : Plan → List Step
steps plan = DealInputs ∷ (steps_from plan.rule 0 plan.gates ++ (SendOuts ∷ []))

unfoldable pub step_at : Plan → ℕ → Step
step_at plan k = get_or (steps plan) k SendOuts

-- the call that gives the results
unfoldable pub last_call : Plan → ℕ
last_call plan = length (steps plan)

-- ---- counts
unfoldable pub input_count : Plan → ℕ
input_count plan = length (input_owners plan)

unfoldable pub own_input_count : Plan → ℕ → ℕ
own_input_count plan i = count_where (eqb i) (input_owners plan)

unfoldable pub coin_count : Plan → ℕ
coin_count plan = length (coin_owners plan)

unfoldable pub own_coin_count : Plan → ℕ → ℕ
own_coin_count plan i = count_where (eqb i) (coin_owners plan)

unfoldable pub own_out_count : Plan → ℕ → ℕ
own_out_count plan i = length (out_wires plan i)

-- the numbers that a step brings party i, and those that party i sends in it
unfoldable pub received : Plan → ℕ → Step → ℕ
received plan i DealInputs = kind_count plan 1
received plan i (DealProduct g a b) = dealer_count plan
received plan i (OpenSpent g a b) = 2 * party_count plan
received plan i SendOuts = party_count plan * own_out_count plan i
received plan i _ = party_count plan

unfoldable pub sent_by : Plan → ℕ → Step → ℕ
sent_by plan i DealInputs = party_count plan * length (input_wires plan i)
sent_by plan i (DealProduct g a b) = cond (leb i (dealer_count plan)) (party_count plan) 0
sent_by plan i (OpenSpent g a b) = 2 * party_count plan
sent_by plan i SendOuts = length plan.outs
sent_by plan i _ = party_count plan

-- the numbers of mail that party i's call number k takes, and those that it writes
unfoldable pub mail_count : Plan → ℕ → ℕ → ℕ
mail_count plan i zero = 0
mail_count plan i (suc k) = received plan i (step_at plan k)

unfoldable pub written_count : Plan → ℕ → ℕ → ℕ
written_count plan i k = cond (ltb k (last_call plan)) (sent_by plan i (step_at plan k)) (own_out_count plan i)

-- elements sent in a run, own included
unfoldable pub per_multiply : Plan → Rule → ℕ
per_multiply plan Reduction = dealer_count plan
per_multiply plan Truncation = 3 * party_count plan

unfoldable pub sent_count : Plan → ℕ
sent_count plan =
    party_count plan
    * (kind_count plan 1 + kind_count plan 5 * per_multiply plan plan.rule + kind_count plan 6 * party_count plan
    + kind_count plan 7 * (2 * party_count plan) + length plan.outs)

-- ---- for the code alone: no other definition and no demand cites these
-- the points of the parties from whose shares a value is opened, 1 to t + 1
unfoldable pub opening_points : Plan → List ℕ
opening_points plan = take (plan.t + 1) plan.points
