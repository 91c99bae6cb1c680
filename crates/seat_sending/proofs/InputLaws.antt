-- Laws of the dealings of a party's own inputs.
--     sharing_one              the share of one
--     Inputting, inputting     the loop over the gates that writes a share of each
--     receiving                the loop over the receiving parties
-- Assumes nothing.
use mathlib.Core.Path.{◌≡◌, refl, sym, ap, ap₂, ◌∙◌}
use mathlib.Core.Bool.{Bool, true, false, cond, not}
use mathlib.Core.List.{List, [], ◌∷◌, ◌++◌, map, map-append, flat_map}
use Prim.Native.Nat.{ℕ, suc, ◌+◌, ◌*◌, ◌<◌, ◌≤◌}
use native.Mathlib.Numerals.{add-one}
use native.Mathlib.Omega.{arith}
use borrow.Author.Rules.{rules}
use borrow.Author.Tests.{not-true, not-false}
use lib.Dec.{eqb}
use lib.ListN.{length, get_or, take, drop}
use lib.Seq.{take-suc, take_all, length-take-le}
use Rattle.numbers.specs.Tables.{tab, count_where}
use Rattle.numbers.specs.Bytes.{width, numbers, stored}
use Rattle.field.specs.Field.{Is}
use Rattle.numbers.proofs.Below.{all_below_at}
use Rattle.numbers.proofs.Counts.{count_where-le-length, count_where-append}
use Rattle.numbers.proofs.Rows.{flat-snoc}
use Rattle.sharing_laws.specs.Poly.{eval}
use Rattle.sharing.proofs.Coding.{entry_below}
use Rattle.plan.specs.declared.Gate.{Gate}
use Rattle.plan.specs.declared.Gate.TheVariants.{Input}
use Rattle.plan.specs.declared.Step.TheVariants.{DealInputs}
use Rattle.plan.specs.declared.Header.{Header}
use Rattle.plan.specs.Plans.{Plan, party_count, is_input_of, wires_from, input_wires, input_owners_at, coin_owners_at, input_at, coins_at, sent_by}
use Rattle.plan.specs.File.{gate_at, plan_of}
use Rattle.plan.specs.Planned.{Planned}
use Rattle.plan.proofs.Wires.{length-input_wires}
use Rattle.plan.proofs.Planned.{plan_t, plan_p, plan_gates, plan_gate}
use Rattle.plan.proofs.Valid.{planned-ready}
use Rattle.seat_messages.specs.Messages.{deal_to, send_at}
use Rattle.seat_messages.proofs.PointLaws.{gate_of_file, plan_points_below, points-within, points-count}
use Rattle.seat_sending.specs.declared.Passed.{Passed}
use Rattle.seat_sending.specs.Sending.{Sent, Dealing, Past, Elements, input_shares, outgoing}
use Rattle.seat_sending.proofs.SendLaws.{sent-none, sent_more, sent_unless, sent_where, flat, Rows, rows_none, rows_next, rows_all, rows-length, cond-cons, one_long}
use Rattle.seat_sending.proofs.DealLaws.{by_points}

-- ---- one gate: a share is written where it is an own input
module _ (bs : List ℕ) (h : Header) (w : Planned bs h) (i : ℕ) (inputs coins : List ℕ) (gate : Gate) (t : Bool) (e : t ≡ is_input_of i gate) where
  pub input_unless : (v place : ℕ) (old : List ℕ) → not t ≡ true → Sent (cond (is_input_of i gate) (v ∷ []) []) place old old place
  input_unless v place old f = sent_unless (is_input_of i gate) v place old (sym e ∙ not-true t f)

  pub input_where : (a c x s v place : ℕ) (old new : List ℕ) → not t ≡ false → s ≡ get_or inputs a 0 → Is h.field.p (eval h.field.p (s ∷ take h.t (drop c coins)) x) v → new ≡ stored old place v
      → Sent (cond (is_input_of i gate) (eval h.field.p (get_or inputs a 0 ∷ take h.t (drop c coins)) x ∷ []) []) place old new (place + 1)
  input_where a c x s v place old new f es is to =
      rw (← es, ← is.eq) (sent_where (is_input_of i gate) v place old new (sym e ∙ not-false t f) to (omega (arith, is.lt, (planned-ready bs h w).small)))

pub input-dealing : (bs : List ℕ) (h : Header) → Planned bs h → (inputs coins triples shares mail : List ℕ) → Elements (plan_of bs) inputs coins triples shares mail → (a c s : ℕ) → s ≡ get_or (numbers inputs) a 0 → c ≤ 43008
    → Dealing h.field.p h.t s (numbers coins) c
input-dealing bs h w inputs coins triples shares mail e a c s es near = record {
  few = omega (arith, w.threshold, w.n-high);
  near = omega arith;
  secret = rw es (entry_below h.field.p (numbers inputs) a (planned-ready bs h w) (rw (← plan_p w) e.inputs_below));
  coins = rw (← plan_p w) e.coins_below;
}

pub ruleset sharing_one = (rules, input_unless, input_where, input-dealing)

-- ---- the wires of a list of gates, and the shares of the dealings there
module _ (f : Gate → Bool) where
  cond-one : (b : Bool) (s n : ℕ) → s ≡ n → cond b (s ∷ []) [] ≡ cond b (n ∷ []) []
  cond-one b s n e = ap (λ (m : ℕ). cond b (m ∷ []) []) e

  wires_snoc : (s : ℕ) (xs : List Gate) (y : Gate) → wires_from f s (xs ++ (y ∷ [])) ≡ wires_from f s xs ++ cond (f y) ((s + length xs) ∷ []) []
  unfolding wires_from
  wires_snoc s [] y = cond-one (f y) s (s + 0) (omega arith)
  wires_snoc s (x ∷ xs) y =
      cond-cons (f x) s (wires_from f (suc s) (xs ++ (y ∷ []))) (wires_from f (suc s) xs) (cond (f y) ((s + suc (length xs)) ∷ []) [])
      (wires_snoc (suc s) xs y ∙ ap (λ (l : List ℕ). wires_from f (suc s) xs ++ l) (cond-one (f y) (suc s + length xs) (s + suc (length xs)) (omega arith)))

  pub wires_next : (xs : List Gate) (g : ℕ) (d : Gate) → g < length xs → wires_from f 0 (take (g + 1) xs) ≡ wires_from f 0 (take g xs) ++ cond (f (get_or xs g d)) (g ∷ []) []
  wires_next xs g d l =
      let e : 0 + length (take g xs) ≡ g = omega (arith, length-take-le g xs (omega arith)) in
      ap (wires_from f 0) (ap (λ (n : ℕ). take n xs) (add-one g) ∙ take-suc xs g d l)
      ∙ wires_snoc 0 (take g xs) (get_or xs g d)
      ∙ ap (λ (l : List ℕ). wires_from f 0 (take g xs) ++ l) (cond-one (f (get_or xs g d)) (0 + length (take g xs)) g e)

  pub wires-none : (xs : List Gate) → wires_from f 0 (take 0 xs) ≡ []
  unfolding wires_from
  wires-none xs = refl

length-map : {A B : Type 0} (f : A → B) (xs : List A) → length (map f xs) ≡ length xs
length-map f [] = refl
length-map f (x ∷ xs) = ap suc (length-map f xs)

module _ (plan : Plan) (i : ℕ) (inputs coins : List ℕ) (x : ℕ) where
  abbrev poly : ℕ → List ℕ
  poly g = input_at plan i g inputs ∷ coins_at plan i g 0 plan.t coins

  pub input_shares-none : input_shares plan i [] inputs coins x ≡ []
  unfolding input_shares
  input_shares-none = refl

  pub input_shares-append : (ws vs : List ℕ) → input_shares plan i (ws ++ vs) inputs coins x ≡ input_shares plan i ws inputs coins x ++ input_shares plan i vs inputs coins x
  unfolding input_shares
  input_shares-append ws vs =
      ap (map (λ f. eval plan.p f x)) (map-append poly ws vs)
      ∙ map-append (λ f. eval plan.p f x) (map poly ws) (map poly vs)

  pub input_shares-length : (ws : List ℕ) → length (input_shares plan i ws inputs coins x) ≡ length ws
  unfolding input_shares
  input_shares-length ws = length-map (λ f. eval plan.p f x) (map poly ws) ∙ length-map poly ws

-- ---- what party i has passed at the gates below g
pub record Below (bs : List ℕ) (i : ℕ) (passed : Passed) (g : ℕ) : Type 0 where
  pub inputs_few : passed.inputs ≤ g
  pub coins_few : passed.coins ≤ 42 * g
  pub inputs : passed.inputs ≡ count_where (eqb i) (flat_map (input_owners_at (plan_of bs)) (take g (plan_of bs).gates))
  pub coins : passed.coins ≡ count_where (eqb i) (flat_map (coin_owners_at (plan_of bs)) (take g (plan_of bs).gates))

below-none : (bs : List ℕ) (i : ℕ) → Below bs i (record { inputs = 0; coins = 0 }) 0
unfolding flat_map count_where
below-none bs i = record { inputs_few = omega arith; coins_few = omega arith; inputs = refl; coins = refl }

count-step : (i : ℕ) (owners : Gate → List ℕ) (xs : List Gate) (g : ℕ) (x : Gate) → g < length xs → get_or xs g (Input 0) ≡ x
    → count_where (eqb i) (flat_map owners (take (g + 1) xs)) ≡ count_where (eqb i) (flat_map owners (take g xs)) + count_where (eqb i) (owners x)
count-step i owners xs g x l e =
    rw (add-one, take-suc xs g (Input 0) l, e, flat-snoc) (count_where-append (eqb i) (flat_map owners (take g xs)) (owners x))

-- ---- the loop over the gates: the shares of the inputs below gate g stand
pub record Inputting (bs : List ℕ) (i : ℕ) (inputs coins : List ℕ) (x at : ℕ) (d₀ d : List ℕ) (place : ℕ) (passed : Passed) (g : ℕ) : Type 0 where
  pub high : place ≤ at + g
  pub below : Below bs i passed g
  pub sent : Sent (input_shares (plan_of bs) i (wires_from (is_input_of i) 0 (take g (plan_of bs).gates)) (numbers inputs) (numbers coins) x) at d₀ d place

module _ (bs : List ℕ) (i : ℕ) (inputs coins : List ℕ) (x at : ℕ) where
  pub inputs-none : (d : List ℕ) → Inputting bs i inputs coins x at d d at (record { inputs = 0; coins = 0 }) 0
  inputs-none d = record {
    high = omega arith;
    below = below-none bs i;
    sent = rw (wires-none (is_input_of i) (plan_of bs).gates, input_shares-none (plan_of bs) i (numbers inputs) (numbers coins) x) (sent-none d at);
  }

  module _ (h : Header) (w : Planned bs h) (d₀ d : List ℕ) (place g : ℕ) (here : Passed) (v : Inputting bs i inputs coins x at d₀ d place here g) (l : g < h.gates) where
    below-gates : g < length (plan_of bs).gates
    below-gates = rw (plan_gates w) l

    input-here : input_at (plan_of bs) i g (numbers inputs) ≡ get_or (numbers inputs) here.inputs 0
    unfolding input_at
    input-here = rw v.below.inputs

    coins-here : coins_at (plan_of bs) i g 0 (plan_of bs).t (numbers coins) ≡ take h.t (drop here.coins (numbers coins))
    unfolding coins_at
    coins-here =
        let z : here.coins + 0 ≡ here.coins = omega arith in
        ap₂ (λ (t n : ℕ). take t (drop (n + 0) (numbers coins))) (plan_t w) (sym v.below.coins) ∙ ap (λ (n : ℕ). take h.t (drop n (numbers coins))) z

    pub inputs-near : here.inputs ≤ 1024
    inputs-near = omega (arith, v.below.inputs_few, w.gates-high)

    pub coins-near : here.coins ≤ 43008
    coins-near = omega (arith, v.below.coins_few, w.gates-high)

    -- what a gate adds
    one-share : (b : Bool)
        → input_shares (plan_of bs) i (cond b (g ∷ []) []) (numbers inputs) (numbers coins) x ≡ cond b (eval (plan_of bs).p (get_or (numbers inputs) here.inputs 0 ∷ take h.t (drop here.coins (numbers coins))) x ∷ []) []
    unfolding input_shares
    one-share true = ap₂ (λ (s : ℕ) (cs : List ℕ). eval (plan_of bs).p (s ∷ cs) x ∷ []) input-here coins-here
    one-share false = refl

    -- the shares up to gate g + 1
    shares-next : (gate : Gate) → gate ≡ gate_at bs g
        → input_shares (plan_of bs) i (wires_from (is_input_of i) 0 (take (g + 1) (plan_of bs).gates)) (numbers inputs) (numbers coins) x
        ≡ input_shares (plan_of bs) i (wires_from (is_input_of i) 0 (take g (plan_of bs).gates)) (numbers inputs) (numbers coins) x
        ++ cond (is_input_of i gate) (eval h.field.p (get_or (numbers inputs) here.inputs 0 ∷ take h.t (drop here.coins (numbers coins))) x ∷ []) []
    shares-next gate eg =
        let ws = wires_from (is_input_of i) 0 (take g (plan_of bs).gates) in
        let e : gate ≡ get_or (plan_of bs).gates g (Input 0) = eg ∙ sym (plan_gate w g l) in
        ap (λ (l : List ℕ). input_shares (plan_of bs) i l (numbers inputs) (numbers coins) x) (wires_next (is_input_of i) (plan_of bs).gates g (Input 0) below-gates)
        ∙ input_shares-append (plan_of bs) i (numbers inputs) (numbers coins) x ws (cond (is_input_of i (get_or (plan_of bs).gates g (Input 0))) (g ∷ []) [])
        ∙ ap (λ (l : List ℕ). input_shares (plan_of bs) i ws (numbers inputs) (numbers coins) x ++ l)
        (one-share (is_input_of i (get_or (plan_of bs).gates g (Input 0))) ∙ rw (← e, plan_p w))

    pub inputs_next : (gate : Gate) (next : ℕ) (after : Passed) (d' : List ℕ) → gate ≡ gate_at bs g → Past (plan_of bs) i gate here after
        → Sent (cond (is_input_of i gate) (eval h.field.p (get_or (numbers inputs) here.inputs 0 ∷ take h.t (drop here.coins (numbers coins))) x ∷ []) []) place d d' next
        → Inputting bs i inputs coins x at d₀ d' next after (g + 1)
    inputs_next gate next after d' eg past to = record {
      high = omega (arith, v.high, to.place, one_long (is_input_of i gate) (eval h.field.p (get_or (numbers inputs) here.inputs 0 ∷ take h.t (drop here.coins (numbers coins))) x));
      below = record {
        inputs_few = omega (arith, v.below.inputs_few, past.inputs_few);
        coins_few = omega (arith, v.below.coins_few, past.coins_few);
        inputs = past.inputs ∙ ap (λ (n : ℕ). n + count_where (eqb i) (input_owners_at (plan_of bs) gate)) v.below.inputs ∙ sym (count-step i (input_owners_at (plan_of bs)) (plan_of bs).gates g gate below-gates (plan_gate w g l ∙ sym eg));
        coins = past.coins ∙ ap (λ (n : ℕ). n + count_where (eqb i) (coin_owners_at (plan_of bs) gate)) v.below.coins ∙ sym (count-step i (coin_owners_at (plan_of bs)) (plan_of bs).gates g gate below-gates (plan_gate w g l ∙ sym eg));
      };
      sent = rw (shares-next gate eg) (sent_more _ _ d₀ d d' at place next v.sent to);
    }

    pub place-near : at ≤ 15360 → place ≤ 16384
    place-near m = omega (arith, v.high, w.gates-high)

  pub inputs_done : (h : Header) (d₀ d : List ℕ) (place g : ℕ) (passed : Passed) → Planned bs h → Inputting bs i inputs coins x at d₀ d place passed g → h.gates ≤ g
      → Sent (input_shares (plan_of bs) i (input_wires (plan_of bs) i) (numbers inputs) (numbers coins) x) at d₀ d place
  unfolding input_wires
  inputs_done h d₀ d place g passed w v l = rw (take_all g (plan_of bs).gates (rw (plan_gates w) l)) at v.sent

-- As it is: answers name this set, since the check leaves their goals open by `using` alone.
pub ruleset inputting = (rules, gate_of_file, inputs-none, inputs_next, inputs-near, coins-near, place-near, inputs_done)

-- ---- the loop over the receiving parties, by their points
module _ (bs : List ℕ) (h : Header) (w : Planned bs h) (xs : List ℕ) (e : xs ≡ (plan_of bs).points) where
  pub point_below : (j : ℕ) → j < length xs → get_or xs j 0 < h.field.p
  point_below j l = all_below_at h.field.p xs j (rw e (plan_points_below bs h w)) l

  module _ (i : ℕ) (inputs coins : List ℕ) where
    inputs_long : (x : ℕ) → length (input_shares (plan_of bs) i (input_wires (plan_of bs) i) inputs coins x) ≡ length (input_wires (plan_of bs) i)
    inputs_long x = input_shares-length (plan_of bs) i inputs coins x (input_wires (plan_of bs) i)

    pub inputs_few : (x : ℕ) → length (input_shares (plan_of bs) i (input_wires (plan_of bs) i) inputs coins x) ≤ 1024
    inputs_few x = omega (arith, inputs_long x, length-input_wires (plan_of bs) i, count_where-le-length (is_input_of i) (plan_of bs).gates, plan_gates w, w.gates-high)

    pub inputs-sent : (d₀ d : List ℕ) (at j : ℕ) → Rows (λ j. input_shares (plan_of bs) i (input_wires (plan_of bs) i) inputs coins (get_or xs j 0)) 1024 (length xs) d₀ d at j → length xs ≤ j
        → length d₀ ≡ width * sent_by (plan_of bs) i DealInputs
        → (triples shares mail : List ℕ) → numbers d ≡ outgoing (plan_of bs) i DealInputs inputs coins triples shares mail
    unfolding sent_by send_at deal_to input_shares party_count
    inputs-sent d₀ d at j r l q triples shares mail =
        let row : ℕ → List ℕ = λ x. input_shares (plan_of bs) i (input_wires (plan_of bs) i) inputs coins x in
        let k : length (flat (tab (λ j. row (get_or xs j 0)) (length xs))) ≡ length xs * length (input_wires (plan_of bs) i)
        = rows-length (λ j. row (get_or xs j 0)) (length (input_wires (plan_of bs) i)) (length xs) (λ j. inputs_long (get_or xs j 0)) in
        rows_all (λ j. row (get_or xs j 0)) 1024 (length xs) d₀ d at j r l (q ∙ rw (k, e)) ∙ ap flat (sym (by_points row xs) ∙ ap (map row) e)

-- As it is: answers name this set, since the check leaves their goals open by `using` alone.
pub ruleset receiving = (rules, points-within, points-count, point_below, inputs_few, rows_none, rows_next, inputs-sent)
