-- The table of shares: every wire's share as a function of the point, gate by gate, all parties at once; and a run's mail read off it.
-- The triples that a plan spends are functions of the point too: the table of a preparing plan is such a list.
use Rattle.std.specs.Prelude.{ℕ, ◌+◌, ◌*◌, cond, length, take, drop, get_or}
use mathlib.Core.List.{List, [], ◌∷◌, ◌++◌, map, flat_map}
use Rattle.numbers.specs.Tables.{tab}
use Rattle.field.specs.Mod.{add, mul, sub}
use Rattle.sharing_laws.specs.Poly.{eval}
use Rattle.sharing_laws.specs.Interp.{weights, dot}
use Rattle.sharing_laws.specs.Sharing.{opened}
use Rattle.seat_messages.specs.Messages.{from_each, spent_share}
use Rattle.plan.specs.declared.Gate.{Gate}
use Rattle.plan.specs.declared.Gate.TheVariants.{Input, Add, Scale, Offset, Multiply, Random, Spend}
use Rattle.plan.specs.declared.Rule.{Rule}
use Rattle.plan.specs.declared.Rule.TheVariants.{Reduction, Truncation}
use Rattle.plan.specs.declared.Dealing.{Dealing}
use Rattle.sharing_laws.specs.Basis.{sum_all, row}
use Rattle.plan.specs.Plans.{Plan, party_count, dealer_points, is_kind, dealings_at, coin_owners_at}
use Rattle.run_protocol.specs.Ideal.{inputs_taken}

-- the shares of all wires below a gate, and where the run's lists stand: the inputs, the coins and the triples from that gate on
pub record Before : Type 0 where
  pub env : List (ℕ → ℕ)
  pub inputs : List ℕ
  pub coins : List ℕ
  pub triples : List (ℕ → ℕ)

-- a wire's share at a point; 0 where there is no such wire
unfoldable pub wire_at : List (ℕ → ℕ) → ℕ → ℕ → ℕ
wire_at env w = get_or env w (λ x. 0)

unfoldable pub product_of : Plan → List (ℕ → ℕ) → ℕ → ℕ → ℕ → ℕ
product_of plan env a b x = mul plan.p (wire_at env a x) (wire_at env b x)

-- ---- dealings
-- the pieces at x of the parties' dealings of 0 at degree 2t, a party's 2t coins standing before its t
unfoldable pub zero_pieces : Plan → List ℕ → ℕ → List ℕ
zero_pieces plan cs x = tab (λ i. eval plan.p (0 ∷ take (plan.t + plan.t) (drop (3 * plan.t * i) cs)) x) (party_count plan)

-- the masked product at x
unfoldable pub masked_at : Plan → Before → ℕ → ℕ → ℕ → ℕ
masked_at plan s a b x = add plan.p (product_of plan s.env a b x) (sum_all plan.p (zero_pieces plan s.coins x))

-- what is dealt at a gate, a value for each of its dealings
unfoldable pub multiply_dealt : Plan → Rule → Before → ℕ → ℕ → List ℕ
multiply_dealt plan Reduction s a b = map (product_of plan s.env a b) (dealer_points plan)
multiply_dealt plan Truncation s a b = flat_map (λ x. 0 ∷ masked_at plan s a b x ∷ []) plan.points

unfoldable pub dealt_at : Plan → Gate → Before → List ℕ
dealt_at plan (Input i) s = get_or s.inputs 0 0 ∷ []
dealt_at plan (Multiply a b) s = multiply_dealt plan plan.rule s a b
dealt_at plan Random s = take (party_count plan) s.inputs
dealt_at plan _ s = []

-- the polynomials of these dealings of these values, each with its coins
unfoldable pub sharings : List Dealing → List ℕ → List ℕ → List (List ℕ)
sharings [] ss cs = []
sharings (d ∷ ds) ss cs = (get_or ss 0 0 ∷ take d.coins cs) ∷ sharings ds (drop 1 ss) (drop d.coins cs)

-- the pieces at x of a gate's dealings
unfoldable pub pieces_at : Plan → Gate → Before → ℕ → List ℕ
pieces_at plan g s x = map (λ f. eval plan.p f x) (sharings (dealings_at plan g) (dealt_at plan g s) s.coins)

-- ---- shares
-- of the pieces at x of the dealings of masked shares, the piece of the truncated share at z
unfoldable pub truncated_at : Plan → Gate → Before → ℕ → ℕ → ℕ
truncated_at plan g s z x =
    dot plan.p (row plan.p plan.t plan.points z) (from_each (party_count plan) 2 1 (pieces_at plan g s x))

-- the share at x of a multiply's wire
unfoldable pub multiply_share : Plan → Rule → Gate → Before → ℕ → ℕ
multiply_share plan Reduction g s x = dot plan.p (weights plan.p 0 (dealer_points plan)) (pieces_at plan g s x)
multiply_share plan Truncation g s x = opened plan.p plan.t plan.points (map (truncated_at plan g s x) plan.points)

-- the opened difference of wire w and number j of the next triple
unfoldable pub difference_at : Plan → Before → ℕ → ℕ → ℕ → ℕ
difference_at plan s w j x = sub plan.p (wire_at s.env w x) (wire_at s.triples j x)

unfoldable pub difference_of : Plan → Before → ℕ → ℕ → ℕ
difference_of plan s w j = opened plan.p plan.t plan.points (map (difference_at plan s w j) plan.points)

-- the share at x of a gate's wire
unfoldable pub gate_share : Plan → Gate → Before → ℕ → ℕ
gate_share plan (Input i) s x = eval plan.p (get_or s.inputs 0 0 ∷ take plan.t s.coins) x
gate_share plan (Add a b) s x = add plan.p (wire_at s.env a x) (wire_at s.env b x)
gate_share plan (Scale a c) s x = mul plan.p (wire_at s.env a x) c
gate_share plan (Offset a c) s x = add plan.p (wire_at s.env a x) c
gate_share plan (Multiply a b) s x = multiply_share plan plan.rule (Multiply a b) s x
gate_share plan Random s x = sum_all plan.p (pieces_at plan Random s x)
gate_share plan (Spend a b) s x =
    spent_share plan.p (wire_at s.triples 2 x) (wire_at s.env a x) (wire_at s.env b x) (difference_of plan s a 0) (difference_of plan s b 1)

-- the triple numbers that a gate takes
unfoldable pub triples_taken : Gate → ℕ
triples_taken g = cond (is_kind 7 g) 3 0

-- past one gate
unfoldable pub past : Plan → Gate → Before → Before
past plan g s =
    record {
      env = s.env ++ (gate_share plan g s ∷ []);
      inputs = drop (inputs_taken plan g) s.inputs;
      coins = drop (length (coin_owners_at plan g)) s.coins;
      triples = drop (triples_taken g) s.triples;
    }

unfoldable pub past_all : Plan → List Gate → Before → Before
past_all plan [] s = s
past_all plan (g ∷ gs) s = past_all plan gs (past plan g s)

unfoldable pub start_of : List ℕ → List ℕ → List (ℕ → ℕ) → Before
start_of xs cs ts = record { env = []; inputs = xs; coins = cs; triples = ts }

unfoldable pub share_table : Plan → List ℕ → List ℕ → List (ℕ → ℕ) → List (ℕ → ℕ)
share_table plan xs cs ts = (past_all plan plan.gates (start_of xs cs ts)).env
