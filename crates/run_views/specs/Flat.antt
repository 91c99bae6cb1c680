-- The table of shares as the code holds it: flat, a row for each wire, in it a share for each party.
use Rattle.std.specs.Prelude.{ℕ, suc, ◌+◌, ◌-◌, ◌*◌, ◌<◌, ◌≤◌, ◌≡◌, true, length, take, drop, get_or, replicate}
use mathlib.Core.List.{List, [], ◌∷◌, ◌++◌, map, flat_map}
use Rattle.numbers.specs.Tables.{tab}
use Rattle.numbers.specs.Bytes.{all_below}
use Rattle.sharing_laws.specs.Poly.{eval}
use Rattle.sharing_laws.specs.Interp.{dot}
use Rattle.sharing_laws.specs.Basis.{row}
use Rattle.sharing_laws.specs.Sharing.{opened}
use Rattle.field.specs.Field.{Ready}
use Rattle.plan.specs.declared.Gate.{Gate}
use Rattle.plan.specs.declared.Gate.TheVariants.{Input, Add, Scale, Offset, Multiply, Random, Spend}
use Rattle.plan.specs.declared.Rule.{Rule}
use Rattle.plan.specs.declared.Rule.TheVariants.{Reduction, Truncation}
use Rattle.plan.specs.declared.Header.{Header}
use Rattle.plan.specs.Plans.{Plan, party_count, parties, point_of, input_wires, out_wires, input_owners_at, coin_owners_at, input_count, coin_count, triple_numbers, own_of, own_inputs, own_coins}
use Rattle.plan.specs.File.{gate_at}
use Rattle.run_protocol.specs.Shares.{triples_taken}
use Rattle.run_dealings.specs.Rows.{powers, products_of, shared_by, draws_of, masked_of, differences_of}

-- party i's share of wire w, of n parties
unfoldable pub share_in : ℕ → List ℕ → ℕ → ℕ → ℕ
share_in n table i w = get_or table (n * w + (i - 1)) 0

-- all parties' shares of wire w
unfoldable pub row_in : ℕ → List ℕ → ℕ → List ℕ
row_in n table w = take n (drop (n * w) table)

-- the mail of round 0 to party i: its shares of the parties' inputs
unfoldable pub first_in : Plan → ℕ → List ℕ → ℕ → List ℕ
first_in plan n table i = flat_map (λ j. map (share_in n table i) (input_wires plan j)) (parties plan)

-- the mail of the last round to party i: the parties' shares of its outs
unfoldable pub outs_in : Plan → ℕ → List ℕ → ℕ → List ℕ
outs_in plan n table i = flat_map (λ j. map (share_in n table j) (out_wires plan i)) (parties plan)

-- wire w's opening
unfoldable pub opened_in : Plan → Header → List ℕ → ℕ → ℕ
opened_in plan h table w = opened h.field.p h.t plan.points (row_in h.n table w)

-- the pieces at the point x of dealings of these values with t coins each; the first one's coins begin at `from`, each next one's `step` numbers later
unfoldable pub pieces_of : ℕ → List ℕ → ℕ → List ℕ → ℕ → ℕ → ℕ → List ℕ
pieces_of p vs t cs from step x = map (λ f. eval p f x) (shared_by t step vs (drop from cs))

-- the pieces at x of the parties' dealings of 0 with 2t coins each, which stand before a party's other t
unfoldable pub zeros_in : Header → List ℕ → ℕ → ℕ → List ℕ
zeros_in h cs from x = pieces_of h.field.p (replicate h.n 0) (h.t + h.t) cs from (3 * h.t) x

-- those of their dealings of these masked products
unfoldable pub masked_in : Header → List ℕ → List ℕ → ℕ → ℕ → List ℕ
masked_in h masked cs from x = pieces_of h.field.p masked h.t cs (from + (h.t + h.t)) (3 * h.t) x

-- all parties' pieces of the truncated share at x
unfoldable pub truncated_in : Header → List ℕ → List ℕ → List ℕ → ℕ → ℕ → List ℕ
truncated_in h points masked cs from x = map (λ y. dot h.field.p (row h.field.p h.t points x) (masked_in h masked cs from y)) points

-- the mail of a multiply gate's steps to the point x: pieces of products; or of zeros, of masked products, and of the truncated share
unfoldable pub multiply_in : Rule → Header → List ℕ → List ℕ → List ℕ → ℕ → ℕ → ℕ → ℕ → List ℕ
multiply_in Reduction h points table cs x a b from =
    pieces_of h.field.p (products_of h.field.p h.n (h.t + h.t + 1) a b table) h.t cs from h.t x
multiply_in Truncation h points table cs x a b from =
    zeros_in h cs from x
    ++ (masked_in h (masked_of h.field.p h.t points a b table (drop from cs)) cs from x
    ++ truncated_in h points (masked_of h.field.p h.t points a b table (drop from cs)) cs from x)

-- what party i opens at a gate that spends a triple: its differences of wires a and b; and what all open
unfoldable pub opens_in : ℕ → ℕ → List ℕ → List ℕ → ℕ → ℕ → ℕ → ℕ → List ℕ
opens_in p n table ts a b spent i =
    get_or (differences_of p n a 0 ts spent table) (i - 1) 0 ∷ get_or (differences_of p n b 1 ts spent table) (i - 1) 0 ∷ []

unfoldable pub openings_in : ℕ → ℕ → List ℕ → List ℕ → ℕ → ℕ → ℕ → List ℕ
openings_in p n table ts a b spent = flat_map (opens_in p n table ts a b spent) (tab suc n)

-- the mail of a gate's steps to the point x, when the gate's inputs begin at number i, its coins at `from`, and each party's triple at `spent`
unfoldable pub pieces_in : Header → List ℕ → List ℕ → List ℕ → List ℕ → List ℕ → ℕ → Gate → ℕ → ℕ → ℕ → List ℕ
pieces_in h points table xs cs ts x (Input s) i from spent = []
pieces_in h points table xs cs ts x (Add a b) i from spent = []
pieces_in h points table xs cs ts x (Scale a c) i from spent = []
pieces_in h points table xs cs ts x (Offset a c) i from spent = []
pieces_in h points table xs cs ts x (Multiply a b) i from spent = multiply_in h.rule h points table cs x a b from
pieces_in h points table xs cs ts x Random i from spent = pieces_of h.field.p (draws_of h.n (drop i xs)) h.t cs from h.t x
pieces_in h points table xs cs ts x (Spend a b) i from spent = openings_in h.field.p h.n table ts a b spent

-- what each gate puts, by the places at which its inputs, its coins and each party's triple begin; those of the first gate begin at i, `from` and `spent`
unfoldable pub gathered : (Gate → ℕ → ℕ → ℕ → List ℕ) → Plan → ℕ → ℕ → ℕ → List Gate → List ℕ
gathered f plan i from spent [] = []
gathered f plan i from spent (x ∷ gs) =
    f x i from spent ++ gathered f plan (i + length (input_owners_at plan x)) (from + length (coin_owners_at plan x)) (spent + triples_taken x) gs

-- a flat table of elements of the field of p, for n parties and so many gates
pub record Flat (p n gates : ℕ) (table : List ℕ) : Type 0 where
  pub long : length table ≡ n * gates
  pub below : all_below p table ≡ true

-- the field, the parties and the table of a run
pub record Running (h : Header) (table : List ℕ) : Type 0 where
  pub ready : Ready h.field.p
  pub some : 1 ≤ h.n
  pub few : h.n ≤ 15
  pub threshold : h.t < h.n
  pub gates : h.gates ≤ 1024
  pub flat : Flat h.field.p h.n h.gates table

-- how many powers of a point a rule's dealings take: t + 1, or as many as there is room for
unfoldable pub power_count : Rule → ℕ → ℕ
power_count Reduction t = t + 1
power_count Truncation t = 16

-- powers of the point x
pub record PowerRow (h : Header) (x : ℕ) (ws : List ℕ) : Type 0 where
  pub some : power_count h.rule h.t ≤ length ws
  pub few : length ws ≤ 16
  pub are : ws ≡ powers h.field.p x (length ws)
  pub below : all_below h.field.p ws ≡ true

-- a run's inputs, coins, triples and table
pub record Ran (plan : Plan) (h : Header) (xs cs ts table : List ℕ) : Type 0 where
  pub inputs_full : length xs ≡ input_count plan
  pub inputs_below : all_below h.field.p xs ≡ true
  pub full : length cs ≡ coin_count plan
  pub below : all_below h.field.p cs ≡ true
  pub triples_full : length ts ≡ party_count plan * triple_numbers plan
  pub triples_below : all_below h.field.p ts ≡ true
  pub running : Running h table

-- one of the gates of a plan file that has so many
pub record Stands (bs : List ℕ) (gates : ℕ) (gate : Gate) : Type 0 where
  pub place : ℕ
  pub within : place < gates
  pub is : gate ≡ gate_at bs place

-- a gate of a plan with these contents that multiplies wires a and b
pub record Multiplies (h : Header) (a b : ℕ) : Type 0 where
  pub majority : 2 * h.t < h.n
  pub left : a < h.gates
  pub right : b < h.gates

-- a gate of a plan with these contents that multiplies wires a and b by a triple
pub record Spends (h : Header) (a b : ℕ) : Type 0 where
  pub left : a < h.gates
  pub right : b < h.gates

-- of `count` coins the gate has from number `from` on those of the 2t + 1 dealers, or each party's 3t
unfoldable pub taken_by : Rule → Header → ℕ
taken_by Reduction h = h.t * (h.t + h.t + 1)
taken_by Truncation h = 3 * h.t * h.n

-- dealings of these values with t coins each, for so many powers: the first one's coins begin at `from`, each next one's `step` numbers later
pub record Seen (p powers : ℕ) (vs : List ℕ) (t from step : ℕ) (cs : List ℕ) : Type 0 where
  pub few : t < powers
  pub values : all_below p vs ≡ true
  pub coins : all_below p cs ≡ true
  pub room : from + step * length vs + t ≤ length cs + step

-- of numbers with these owners, party i's own are `count` numbers from number `at` on
pub record Owns (i : ℕ) (owners : List ℕ) (at count : ℕ) : Type 0 where
  pub room : at + count ≤ length owners
  pub own : (xs : List ℕ) → length owners ≤ length xs → own_of i owners xs ≡ take count (drop at xs)

-- all mail to party i
unfoldable pub mail_in : Plan → Header → List ℕ → List ℕ → List ℕ → List ℕ → ℕ → List ℕ
mail_in plan h table xs cs ts i =
    first_in plan h.n table i
    ++ (gathered (pieces_in h plan.points table xs cs ts (point_of plan i)) plan 0 0 0 plan.gates ++ outs_in plan h.n table i)

-- party i's view
unfoldable pub view_in : Plan → Header → List ℕ → List ℕ → List ℕ → List ℕ → ℕ → List ℕ
view_in plan h table xs cs ts i =
    own_inputs plan i xs ++ (own_coins plan i cs ++ (mail_in plan h table xs cs ts i ++ map (opened_in plan h table) (out_wires plan i)))
