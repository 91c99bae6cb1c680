-- One party's call, step by step: what it learns from its mail, works on its shares, and sends.
use Rattle.std.specs.Prelude.{ℕ, zero, suc, ◌+◌, ◌*◌, cond, eqb, leb, ltb, length, drop, get_or, set}
use mathlib.Core.List.{List, [], ◌∷◌, map, flat_map}
use Rattle.numbers.specs.Tables.{tab}
use Rattle.field.specs.Mod.{add, mul, sub}
use Rattle.sharing_laws.specs.Poly.{eval}
use Rattle.sharing_laws.specs.Interp.{weights, dot}
use Rattle.sharing_laws.specs.Sharing.{opened}
use Rattle.plan.specs.declared.Gate.{Gate}
use Rattle.plan.specs.declared.Gate.TheVariants.{Add, Scale, Offset}
use Rattle.plan.specs.declared.Step.{Step}
use Rattle.plan.specs.declared.Step.TheVariants.{DealInputs, DealProduct, DealZero, DealMasked, SendTruncated, DealDraws, OpenSpent, SendOuts}
use Rattle.sharing_laws.specs.Basis.{sum_all, row}
use Rattle.plan.specs.Plans.{Plan, party_count, parties, dealer_count, dealer_points, kind_of, input_wires, out_wires, own_out_count, input_at, coins_at, triple_at, step_at, last_call}

-- ---- what a call learns from the mail of the step before it
-- these wires' shares set to these numbers
unfoldable pub set_all : List ℕ → List ℕ → List ℕ → List ℕ
set_all shares [] vs = shares
set_all shares (w ∷ ws) vs = set_all (set shares w (get_or vs 0 0)) ws (drop 1 vs)

-- of mail in which each of n parties sent `own` numbers, number j of each
unfoldable pub from_each : ℕ → ℕ → ℕ → List ℕ → List ℕ
from_each n own j mail = tab (λ i. get_or mail (own * i + j) 0) n

-- the input wires in the order of round 0's mail: by party, then by gate
unfoldable pub wires_by_party : Plan → List ℕ
wires_by_party plan = flat_map (input_wires plan) (parties plan)

-- the value that all parties' pieces open to, each party having sent `own` numbers, of which this is number j
unfoldable pub opened_at : Plan → ℕ → ℕ → List ℕ → ℕ
opened_at plan own j mail = opened plan.p plan.t plan.points (from_each (party_count plan) own j mail)

-- c + e·x + d·y - d·e, for the opened d = x - a and e = y - b
unfoldable pub spent_share : ℕ → ℕ → ℕ → ℕ → ℕ → ℕ → ℕ
spent_share p c x y d e = sub p (add p c (add p (mul p e x) (mul p d y))) (mul p d e)

-- a party's shares with those that a step's mail makes known
unfoldable pub learnt : Plan → Step → List ℕ → List ℕ → List ℕ → List ℕ
learnt plan DealInputs triples shares mail = set_all shares (wires_by_party plan) mail
learnt plan (DealProduct g a b) triples shares mail = set shares g (dot plan.p (weights plan.p 0 (dealer_points plan)) mail)
learnt plan (SendTruncated g) triples shares mail = set shares g (opened plan.p plan.t plan.points mail)
learnt plan (DealDraws g) triples shares mail = set shares g (sum_all plan.p mail)
learnt plan (OpenSpent g a b) triples shares mail =
    set shares g
    (spent_share plan.p (get_or triples (triple_at plan g + 2) 0) (get_or shares a 0) (get_or shares b 0) (opened_at plan 2 0 mail) (opened_at plan 2 1 mail))
learnt plan _ triples shares mail = shares

-- the gate from which the work on own shares goes on: while a multiply is under way, that gate, which stops it
unfoldable pub resume_at : Plan → Step → ℕ
resume_at plan DealInputs = 0
resume_at plan (DealProduct g a b) = suc g
resume_at plan (DealZero g) = g
resume_at plan (DealMasked g a b) = g
resume_at plan (SendTruncated g) = suc g
resume_at plan (DealDraws g) = suc g
resume_at plan (OpenSpent g a b) = suc g
resume_at plan SendOuts = length plan.gates

-- gate g worked on a party's own shares; the other kinds are learnt from mail
unfoldable pub work_gate : ℕ → ℕ → Gate → List ℕ → List ℕ
work_gate p g (Add a b) shares = set shares g (add p (get_or shares a 0) (get_or shares b 0))
work_gate p g (Scale a c) shares = set shares g (mul p (get_or shares a 0) c)
work_gate p g (Offset a c) shares = set shares g (add p (get_or shares a 0) c)
work_gate p g _ shares = shares

-- from gate g up to the next gate that takes rounds, or all that are left
unfoldable pub work_from : ℕ → ℕ → List Gate → List ℕ → List ℕ
work_from p g [] shares = shares
work_from p g (x ∷ xs) shares = cond (leb 5 (kind_of x)) shares (work_from p (suc g) xs (work_gate p g x shares))

unfoldable pub learn_from : Plan → Step → List ℕ → List ℕ → List ℕ → List ℕ
learn_from plan step triples shares mail =
    work_from plan.p (resume_at plan step) (drop (resume_at plan step) plan.gates) (learnt plan step triples shares mail)

-- a triple is zeroed by the call that learns its wire
unfoldable pub spend_from : Plan → Step → List ℕ → List ℕ
spend_from plan (OpenSpent g a b) triples =
    set_all triples (tab (λ j. triple_at plan g + j) 3) (0 ∷ 0 ∷ 0 ∷ [])
spend_from plan _ triples = triples

-- the shares and the triples after call number k has learnt from its mail and worked
unfoldable pub learn : Plan → ℕ → List ℕ → List ℕ → List ℕ → List ℕ
learn plan zero triples shares mail = shares
learn plan (suc k) triples shares mail = learn_from plan (step_at plan k) triples shares mail

unfoldable pub spend : Plan → ℕ → List ℕ → List ℕ
spend plan zero triples = triples
spend plan (suc k) triples = spend_from plan (step_at plan k) triples

-- ---- what a call sends: a list for each receiving party
-- the shares of these polynomials
unfoldable pub deal_to : Plan → List (List ℕ) → List (List ℕ)
deal_to plan fs = map (λ x. map (λ f. eval plan.p f x) fs) plan.points

unfoldable pub nothing : Plan → List (List ℕ)
nothing plan = map (λ x. []) plan.points

unfoldable pub product_at : Plan → ℕ → ℕ → List ℕ → ℕ
product_at plan a b shares = mul plan.p (get_or shares a 0) (get_or shares b 0)

-- what party i sends in a step; while a multiply is under way this rests on the mail that the call took
unfoldable pub send_at : Plan → ℕ → Step → List ℕ → List ℕ → List ℕ → List ℕ → List ℕ → List (List ℕ)
send_at plan i DealInputs inputs coins triples shares mail =
    deal_to plan (map (λ g. input_at plan i g inputs ∷ coins_at plan i g 0 plan.t coins) (input_wires plan i))
send_at plan i (DealProduct g a b) inputs coins triples shares mail =
    cond (leb i (dealer_count plan)) (deal_to plan ((product_at plan a b shares ∷ coins_at plan i g 0 plan.t coins) ∷ [])) (nothing plan)
send_at plan i (DealZero g) inputs coins triples shares mail = deal_to plan ((0 ∷ coins_at plan i g 0 (plan.t + plan.t) coins) ∷ [])
send_at plan i (DealMasked g a b) inputs coins triples shares mail =
    deal_to plan
    ((add plan.p (product_at plan a b shares) (sum_all plan.p mail) ∷ coins_at plan i g (plan.t + plan.t) plan.t coins) ∷ [])
send_at plan i (SendTruncated g) inputs coins triples shares mail =
    map (λ x. dot plan.p (row plan.p plan.t plan.points x) mail ∷ []) plan.points
send_at plan i (DealDraws g) inputs coins triples shares mail =
    deal_to plan ((input_at plan i g inputs ∷ coins_at plan i g 0 plan.t coins) ∷ [])
send_at plan i (OpenSpent g a b) inputs coins triples shares mail =
    map
    (λ x.
    sub plan.p (get_or shares a 0) (get_or triples (triple_at plan g) 0) ∷ sub plan.p (get_or shares b 0) (get_or triples (triple_at plan g + 1) 0) ∷ [])
    plan.points
send_at plan i SendOuts inputs coins triples shares mail = map (λ j. map (λ w. get_or shares w 0) (out_wires plan j)) (parties plan)

-- ---- the call
-- what a call leaves: the state, the triples, a list of numbers for each party, and results
pub record Called : Type 0 where
  pub state : List ℕ
  pub triples : List ℕ
  pub sent : List (List ℕ)
  pub results : List ℕ

unfoldable pub call_with : Plan → ℕ → ℕ → List ℕ → List ℕ → List ℕ → List ℕ → List ℕ → Called
call_with plan i k inputs coins triples shares mail =
    record {
      state = suc k ∷ shares;
      triples = triples;
      sent = cond (ltb k (last_call plan)) (send_at plan i (step_at plan k) inputs coins triples shares mail) (nothing plan);
      results = cond (eqb k (last_call plan)) (tab (λ j. opened_at plan (own_out_count plan i) j mail) (own_out_count plan i)) [];
    }

-- party i's call on its own inputs, coins and triples, its state (the call's number, then a share for each wire) and its mail
unfoldable pub call : Plan → ℕ → List ℕ → List ℕ → List ℕ → List ℕ → List ℕ → Called
call plan i inputs coins triples state mail =
    call_with plan i (get_or state 0 0) inputs coins (spend plan (get_or state 0 0) triples)
    (learn plan (get_or state 0 0) triples (drop 1 state) mail) mail
