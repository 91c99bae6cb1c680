-- A view that is read off the flat table is the view that is read off the table of shares.
--     table_long, table_below                 how long the flat table is, and that its entries are elements
--     share_flat, row_flat                    the flat table's entries and rows
--     first_flat, outs_flat                   the mail of the first and the last step
--     pieces_tab                              the pieces of dealings, by number
--     multiply_flat, openings_flat, draws_flat, gate_flat, steps_flat     the mail of the gates' steps
--     results_flat, view_flat                 the results and the view
-- Assumes nothing.
use mathlib.Core.Path.{◌≡◌, refl, sym, ap, ap₂, ◌∙◌, fun_ext}
use mathlib.Core.Bool.{true}
use mathlib.Core.List.{List, [], ◌∷◌, ◌++◌, map, flat_map, append-nil}
use Prim.Native.Nat.{ℕ, zero, suc, ◌+◌, ◌-◌, ◌*◌, ◌/◌, ◌<◌, ◌≤◌}
use native.Mathlib.Numerals.{add-one}
use native.Mathlib.Nat.{add-zero}
use native.Mathlib.Omega.{arith}
use borrow.Author.Tests.{ltb-true}
use lib.Dec.{ltb}
use lib.ListN.{length, get_or, take, drop, replicate, length-replicate, drop_of_length-le}
use lib.Seq.{get_or-take, length-take-le, drop-drop, drop-cons, take_all}
use Rattle.numbers.specs.Tables.{tab, count_where}
use Rattle.numbers.specs.Bytes.{all_below}
use Rattle.numbers.proofs.Tables.{length-tab, get_or-tab, tab-ext, tab-map, list-tab}
use Rattle.numbers.proofs.Truth.{both_true}
use Rattle.field.specs.Mod.{add, mul, sub}
use Rattle.field.proofs.Inverse.{pos}
use Rattle.sharing_laws.specs.Poly.{eval}
use Rattle.sharing_laws.specs.Interp.{All, dot}
use Rattle.sharing_laws.specs.Basis.{sum_all, row}
use Rattle.sharing_laws.specs.Sharing.{opened}
use Rattle.sharing_laws.proofs.Alls.{map-tab}
use Rattle.sharing_laws.proofs.Lists.{length-map, map-all, flat_map-all, flat_map-append, flat_map-map, flat_map-tabs, map-flat_map, all-every, all_map}
use Rattle.plan.specs.declared.Gate.{Gate}
use Rattle.plan.specs.declared.Gate.TheVariants.{Input, Add, Scale, Offset, Multiply, Random, Spend}
use Rattle.plan.specs.declared.Rule.{Rule}
use Rattle.plan.specs.declared.Rule.TheVariants.{Reduction, Truncation}
use Rattle.plan.specs.declared.Step.TheVariants.{DealInputs, DealProduct, DealZero, DealMasked, SendTruncated, DealDraws, OpenSpent, SendOuts}
use Rattle.plan.specs.declared.Header.{Header}
use Rattle.plan.specs.Plans.{Plan, party_count, parties, point_of, dealer_count, dealer_points, kind_of, is_kind, multiplying, is_input_of, input_wires, out_wires, input_owners_at, coin_owners_at, triple_numbers, triple_at, multiply_steps, steps_at, steps_from, steps}
use Rattle.plan.specs.File.{gate_ok, plan_of}
use Rattle.plan.specs.Planned.{Planned}
use Rattle.plan.proofs.Planned.{plan_rule, plan_t, plan_p, plan_n, plan_dealers, plan_gates, plan_gate}
use Rattle.plan.proofs.Parties.{parties_points, each-party}
use Rattle.plan.proofs.Valid.{Valid, valid}
use Rattle.seat_messages.specs.Messages.{wires_by_party, from_each}
use Rattle.run_protocol.specs.Shares.{Before, wire_at, product_of, zero_pieces, masked_at, multiply_dealt, pieces_at, truncated_at, difference_at, triples_taken, share_table}
use Rattle.run_protocol.specs.Tables.{before_gate, gate_in, table_mail, table_results, table_view_of, Tabled}
use Rattle.run_protocol.proofs.Table.{before-inputs, before-coins, before-triples, before-wire, length-table}
use Rattle.run_protocol.proofs.StepInputs.{wires-all}
use Rattle.run_protocol.proofs.StepOuts.{out-wires-within}
use Rattle.run_protocol.proofs.Dealt.{pieces-reduction, pieces-masked, pieces-random}
use Rattle.run_ideal.proofs.IdealLaws.{taken_next}
use Rattle.run_dealings.specs.Rows.{rows_of, products_of, shared_by, draws_of, summed_at, masked_of, triple_in, differences_of}
use Rattle.run_tables.proofs.GateLaws.{rows-length, rows_row, rows-entry}
use Rattle.run_tables.proofs.FillLaws.{before_all, stands, triples_next, triples_within, triple_is}
use Rattle.run_views.specs.Flat.{share_in, row_in, first_in, outs_in, opened_in, pieces_of, zeros_in, masked_in, truncated_in, multiply_in, opens_in, openings_in, pieces_in, gathered, mail_in, view_in}

module _ (plan : Plan) (xs cs : List ℕ) (tf : List (ℕ → ℕ)) (table : List ℕ) (is : table ≡ rows_of plan.points (share_table plan xs cs tf)) where
  abbrev shares : List (ℕ → ℕ)
  shares = share_table plan xs cs tf

  pub table_long : length table ≡ party_count plan * length plan.gates
  unfolding party_count
  table_long = ap length is ∙ rows-length plan.points (party_count plan) refl shares ∙ ap (λ (n : ℕ). party_count plan * n) (length-table plan xs cs tf)

  pub table_below : Valid plan → 1 ≤ party_count plan → all_below plan.p table ≡ true
  unfolding party_count
  table_below v some =
      let all : take (party_count plan * length plan.gates) table ≡ table = take_all (party_count plan * length plan.gates) table (omega (arith, table_long)) in
      rw all at
      (stands plan (pos v.prime) xs cs tf (party_count plan) (length plan.gates) table refl some (omega arith) (omega (arith, table_long))
      (all ∙ is ∙ ap (rows_of plan.points) (sym (before_all plan xs cs tf (length plan.gates) (omega arith))))).below

  pub share_flat : (i w : ℕ) → 1 ≤ i → i ≤ party_count plan → w < length plan.gates → share_in (party_count plan) table i w ≡ wire_at shares w (point_of plan i)
  unfolding share_in point_of party_count
  share_flat i w l m k =
      ap (λ (t : List ℕ). get_or t (party_count plan * w + (i - 1)) 0) is
      ∙ rows-entry plan.points (party_count plan) refl shares w (i - 1) (omega (arith, length-table plan xs cs tf)) (omega arith)

  pub row_flat : (w : ℕ) → w < length plan.gates → row_in (party_count plan) table w ≡ map (wire_at shares w) plan.points
  unfolding row_in party_count
  row_flat w l = ap (λ (t : List ℕ). take (party_count plan) (drop (party_count plan * w) t)) is ∙ rows_row plan.points (party_count plan) refl shares w (omega (arith, length-table plan xs cs tf))

  -- ---- the mail of the first and the last step
  shares_flat : (i : ℕ) (ws : List ℕ) → 1 ≤ i → i ≤ party_count plan → All (λ w. w < length plan.gates) ws
      → map (share_in (party_count plan) table i) ws ≡ map (λ w. wire_at shares w (point_of plan i)) ws
  shares_flat i ws l m a =
      map-all (share_in (party_count plan) table i) (λ w. wire_at shares w (point_of plan i)) ws
      (all_map (λ w. w < length plan.gates) (λ w. share_in (party_count plan) table i w ≡ wire_at shares w (point_of plan i)) ws (λ w k. share_flat i w l m k) a)

  inputs_within : (j : ℕ) → All (λ w. w < length plan.gates) (input_wires plan j)
  unfolding input_wires
  inputs_within j = wires-all (is_input_of j) (λ w. w < length plan.gates) 0 plan.gates (λ k l e. omega arith)

  pub first_flat : (i : ℕ) → 1 ≤ i → i ≤ party_count plan → first_in plan (party_count plan) table i ≡ table_mail plan xs cs tf i DealInputs
  unfolding first_in wires_by_party table_mail
  first_flat i l m =
      flat_map-all (λ j. map (share_in (party_count plan) table i) (input_wires plan j)) (λ j. map (λ w. wire_at shares w (point_of plan i)) (input_wires plan j)) (parties plan)
      (all-every (λ j. map (share_in (party_count plan) table i) (input_wires plan j) ≡ map (λ w. wire_at shares w (point_of plan i)) (input_wires plan j)) (parties plan) (λ j. shares_flat i (input_wires plan j) l m (inputs_within j)))
      ∙ sym (map-flat_map (λ w. wire_at shares w (point_of plan i)) (input_wires plan) (parties plan))

  pub outs_flat : (v : Valid plan) (i : ℕ) → outs_in plan (party_count plan) table i ≡ table_mail plan xs cs tf i SendOuts
  unfolding outs_in table_mail
  outs_flat v i =
      let row : ℕ → List ℕ = λ x. map (λ w. wire_at shares w x) (out_wires plan i) in
      flat_map-all (λ j. map (share_in (party_count plan) table j) (out_wires plan i)) (λ j. row (point_of plan j)) (parties plan)
      (each-party plan (λ j. map (share_in (party_count plan) table j) (out_wires plan i) ≡ row (point_of plan j)) (λ j l m. shares_flat j (out_wires plan i) l m (out-wires-within plan v i)))
      ∙ sym (flat_map-map row (point_of plan) (parties plan))
      ∙ ap (flat_map row) (sym (parties_points plan))

-- ---- the pieces of dealings
pub all_zero : (n k : ℕ) → get_or (replicate {A = ℕ} n 0) k 0 ≡ 0
all_zero zero k = refl
all_zero (suc n) zero = refl
all_zero (suc n) (suc k) = all_zero n k

pub pieces_tab : (p : ℕ) (vs : List ℕ) (t : ℕ) (cs : List ℕ) (from step x : ℕ)
    → pieces_of p vs t cs from step x ≡ tab (λ d. eval p (get_or vs d 0 ∷ take t (drop (step * d) (drop from cs))) x) (length vs)
unfolding pieces_of shared_by
pieces_tab p vs t cs from step x = tab-map (λ f. eval p f x) (λ d. get_or vs d 0 ∷ take t (drop (step * d) (drop from cs))) (length vs)

-- ---- the mail of the gates' steps
module _ {bs : List ℕ} {h : Header} (pl : Planned bs h) (xs cs ts : List ℕ) (tf : List (ℕ → ℕ)) (tabled : Tabled (plan_of bs) ts tf) (each : length ts / h.n ≡ triple_numbers (plan_of bs))
    (table : List ℕ) (is : table ≡ rows_of (plan_of bs).points (share_table (plan_of bs) xs cs tf)) where
  abbrev plan : Plan
  plan = plan_of bs

  abbrev share : ℕ → ℕ → ℕ
  share = wire_at (share_table (plan_of bs) xs cs tf)

  v : Valid plan
  v = valid bs pl.passes

  abbrev before : ℕ → Before
  before g = before_gate plan xs cs tf g

  -- where a gate's inputs and its coins begin
  abbrev input_place : ℕ → ℕ
  input_place g = length (flat_map (input_owners_at plan) (take g plan.gates))

  abbrev coin_place : ℕ → ℕ
  coin_place g = length (flat_map (coin_owners_at plan) (take g plan.gates))

  -- the pieces of dealings at gate g
  pieces_flat : (g : ℕ) (vs : List ℕ) (t step x : ℕ)
      → pieces_of h.field.p vs t cs (coin_place g) step x ≡ tab (λ d. eval plan.p (get_or vs d 0 ∷ take t (drop (step * d) (before g).coins)) x) (length vs)
  pieces_flat g vs t step x =
      pieces_tab h.field.p vs t cs (coin_place g) step x
      ∙ ap₂ (λ (p : ℕ) (c : List ℕ). tab (λ d. eval p (get_or vs d 0 ∷ take t (drop (step * d) c)) x) (length vs)) (sym (plan_p pl)) (sym (before-coins plan xs cs tf g))

  -- a party's share of a wire before a gate
  wire_read : (g : ℕ) → g < length plan.gates → (w j : ℕ) → w < g → j < party_count plan → get_or table (h.n * w + j) 0 ≡ wire_at (before g).env w (get_or plan.points j 0)
  unfolding party_count
  wire_read g l w j lw lj =
      ap₂ (λ (n : ℕ) (t : List ℕ). get_or t (n * w + j) 0) (sym (plan_n pl)) is
      ∙ rows-entry plan.points (party_count plan) refl (share_table plan xs cs tf) w j (omega (arith, length-table plan xs cs tf)) lj
      ∙ ap (λ (f : ℕ → ℕ). f (get_or plan.points j 0)) (sym (before-wire plan xs cs tf g w (omega arith) lw))

  module _ (g a b : ℕ) (l : g < length plan.gates) (e : get_or plan.gates g (Input 0) ≡ Multiply a b) where
    dealers_few : dealer_count plan ≤ party_count plan
    unfolding dealer_count multiplying is_kind kind_of
    dealers_few = omega (arith, v.majority g l (ap multiplying e))

    reads : (a < g) × (b < g)
    unfolding gate_ok
    reads =
        let ok = both_true (ltb a g) (ltb b g) (rw e at (v.gates g l)) in
        (ltb-true a g ok.0, ltb-true b g ok.1)

    -- a party's share of a wire that the gate reads
    share_read : (w j : ℕ) → w < g → j < party_count plan → get_or table (h.n * w + j) 0 ≡ wire_at (before g).env w (get_or plan.points j 0)
    share_read = wire_read g l

    -- the products of the first m parties
    products_flat : (m : ℕ) → m ≤ party_count plan → products_of h.field.p h.n m a b table ≡ tab (λ j. product_of plan (before g).env a b (get_or plan.points j 0)) m
    unfolding products_of product_of
    products_flat m few =
        tab-ext _ (λ j. product_of plan (before g).env a b (get_or plan.points j 0)) m
        (λ j k.
        let q : j < party_count plan = omega arith in
        rw (← plan_p pl) (ap₂ (mul plan.p) (share_read a j reads.0 q) (share_read b j reads.1 q)))

    -- what the dealers deal
    dealt_flat : products_of h.field.p h.n (h.t + h.t + 1) a b table ≡ multiply_dealt plan Reduction (before g) a b
    unfolding multiply_dealt dealer_points party_count
    dealt_flat =
        let m : ℕ = dealer_count plan in
        let F : ℕ → ℕ = product_of plan (before g).env a b in
        let long : length (take m plan.points) ≡ m = length-take-le m plan.points dealers_few in
        ap (λ (k : ℕ). products_of h.field.p h.n k a b table) (sym (plan_dealers pl))
        ∙ products_flat m dealers_few
        ∙ tab-ext (λ j. F (get_or plan.points j 0)) (λ j. F (get_or (take m plan.points) j 0)) m (λ j k. ap F (sym (get_or-take m plan.points j 0 k)))
        ∙ sym (map-tab F (take m plan.points) ∙ ap (tab (λ j. F (get_or (take m plan.points) j 0))) long)

    dealt_count : length (multiply_dealt plan Reduction (before g) a b) ≡ dealer_count plan
    unfolding multiply_dealt dealer_points party_count
    dealt_count = length-map (product_of plan (before g).env a b) (take (dealer_count plan) plan.points) ∙ length-take-le (dealer_count plan) plan.points dealers_few

    reduction_flat : (i : ℕ) → plan.rule ≡ Reduction → multiply_in Reduction h plan.points table cs (point_of plan i) a b (coin_place g) ≡ table_mail plan xs cs tf i (DealProduct g a b)
    unfolding multiply_in table_mail gate_in
    reduction_flat i by =
        let x : ℕ = point_of plan i in
        let s : Before = before g in
        let vs : List ℕ = multiply_dealt plan Reduction s a b in
        ap₂ (λ (us : List ℕ) (t : ℕ). pieces_of h.field.p us t cs (coin_place g) t x) dealt_flat (sym (plan_t pl))
        ∙ pieces_flat g vs plan.t plan.t x
        ∙ ap (tab (λ d. eval plan.p (get_or vs d 0 ∷ take plan.t (drop (plan.t * d) s.coins)) x)) dealt_count
        ∙ sym (ap (λ (y : Gate). pieces_at plan y s x) e ∙ pieces-reduction plan a b x s by)

    -- ---- the pieces of zeros, of masked products, and of the truncated share
    zeros_flat : (x : ℕ) → zeros_in h cs (coin_place g) x ≡ zero_pieces plan (before g).coins x
    unfolding zeros_in zero_pieces
    zeros_flat x =
        ap₂ (λ (n t : ℕ). pieces_of h.field.p (replicate n 0) (t + t) cs (coin_place g) (3 * t) x) (sym (plan_n pl)) (sym (plan_t pl))
        ∙ pieces_flat g (replicate (party_count plan) 0) (plan.t + plan.t) (3 * plan.t) x
        ∙ ap (tab (λ d. eval plan.p (get_or (replicate (party_count plan) 0) d 0 ∷ take (plan.t + plan.t) (drop (3 * plan.t * d) (before g).coins)) x)) (length-replicate {A = ℕ} (party_count plan) 0)
        ∙ tab-ext _ (λ d. eval plan.p (0 ∷ take (plan.t + plan.t) (drop (3 * plan.t * d) (before g).coins)) x) (party_count plan)
        (λ d k. ap (λ (z : ℕ). eval plan.p (z ∷ take (plan.t + plan.t) (drop (3 * plan.t * d) (before g).coins)) x) (all_zero (party_count plan) d))

    masked_flat : masked_of h.field.p h.t plan.points a b table (drop (coin_place g) cs) ≡ tab (λ d. masked_at plan (before g) a b (get_or plan.points d 0)) (party_count plan)
    unfolding masked_of masked_at party_count summed_at zeros_in pieces_of
    masked_flat =
        let n : ℕ = length plan.points in
        let P : ℕ → ℕ = λ d. product_of plan (before g).env a b (get_or plan.points d 0) in
        let n_is : h.n ≡ n = sym (plan_n pl) in
        let all : products_of h.field.p n n a b table ≡ tab P n = ap (λ (m : ℕ). products_of h.field.p m n a b table) (sym n_is) ∙ products_flat n (omega arith) in
        tab-ext _ (λ d. masked_at plan (before g) a b (get_or plan.points d 0)) n
        (λ d k.
        ap (λ (p : ℕ). add p (get_or (products_of h.field.p n n a b table) d 0) (sum_all p (map (λ f. eval h.field.p f (get_or plan.points d 0)) (shared_by (h.t + h.t) (3 * h.t) (replicate n 0) (drop (coin_place g) cs))))) (sym (plan_p pl))
        ∙ ap₂ (add plan.p)
        (ap (λ (l : List ℕ). get_or l d 0) all ∙ get_or-tab P n d 0 k)
        (ap (sum_all plan.p)
        (ap (λ (m : ℕ). map (λ f. eval h.field.p f (get_or plan.points d 0)) (shared_by (h.t + h.t) (3 * h.t) (replicate m 0) (drop (coin_place g) cs))) (sym n_is)
        ∙ zeros_flat (get_or plan.points d 0))))

    masked_pieces_flat : (x : ℕ) → plan.rule ≡ Truncation
        → masked_in h (masked_of h.field.p h.t plan.points a b table (drop (coin_place g) cs)) cs (coin_place g) x
        ≡ from_each (party_count plan) 2 1 (pieces_at plan (gate_in plan g) (before g) x)
    unfolding masked_in gate_in point_of
    masked_pieces_flat x by =
        let n : ℕ = party_count plan in
        let s : Before = before g in
        let M : ℕ → ℕ = λ d. masked_at plan s a b (get_or plan.points d 0) in
        let t2 : ℕ = plan.t + plan.t in
        ap (λ (vs : List ℕ). pieces_of h.field.p vs h.t cs (coin_place g + (h.t + h.t)) (3 * h.t) x) masked_flat
        ∙ ap₂ (λ (p t : ℕ). pieces_of p (tab M n) t cs (coin_place g + (t + t)) (3 * t) x) (sym (plan_p pl)) (sym (plan_t pl))
        ∙ pieces_tab plan.p (tab M n) plan.t cs (coin_place g + t2) (3 * plan.t) x
        ∙ ap (tab (λ d. eval plan.p (get_or (tab M n) d 0 ∷ take plan.t (drop (3 * plan.t * d) (drop (coin_place g + t2) cs))) x)) (length-tab M n)
        ∙ tab-ext _ (λ d. eval plan.p (masked_at plan s a b (get_or plan.points (suc d - 1) 0) ∷ take plan.t (drop (3 * plan.t * d + t2) s.coins)) x) n
        (λ d k.
        let q : d ≡ suc d - 1 = omega arith in
        let j : coin_place g + t2 + 3 * plan.t * d ≡ coin_place g + (3 * plan.t * d + t2) = omega arith in
        ap₂ (λ (v : ℕ) (l : List ℕ). eval plan.p (v ∷ take plan.t l) x) (get_or-tab M n d 0 k ∙ ap M q)
        (drop-drop (3 * plan.t * d) (coin_place g + t2) cs ∙ ap (λ (m : ℕ). drop m cs) j
        ∙ sym (drop-drop (3 * plan.t * d + t2) (coin_place g) cs) ∙ ap (drop (3 * plan.t * d + t2)) (sym (before-coins plan xs cs tf g))))
        ∙ sym (ap (λ (y : Gate). from_each n 2 1 (pieces_at plan y s x)) e ∙ pieces-masked plan a b x s by)

    truncated_flat : (x : ℕ) → plan.rule ≡ Truncation
        → truncated_in h plan.points (masked_of h.field.p h.t plan.points a b table (drop (coin_place g) cs)) cs (coin_place g) x
        ≡ map (truncated_at plan (gate_in plan g) (before g) x) plan.points
    unfolding truncated_in truncated_at
    truncated_flat x by =
        ap₂ (λ (p t : ℕ). map (λ y. dot p (row p t plan.points x) (masked_in h (masked_of h.field.p h.t plan.points a b table (drop (coin_place g) cs)) cs (coin_place g) y)) plan.points) (sym (plan_p pl)) (sym (plan_t pl))
        ∙ ap (λ (F : ℕ → ℕ). map F plan.points) (fun_ext (λ y. ap (dot plan.p (row plan.p plan.t plan.points x)) (masked_pieces_flat y by)))

    truncation_flat : (i : ℕ) → plan.rule ≡ Truncation
        → multiply_in Truncation h plan.points table cs (point_of plan i) a b (coin_place g)
        ≡ flat_map (table_mail plan xs cs tf i) (DealZero g ∷ DealMasked g a b ∷ SendTruncated g ∷ [])
    unfolding multiply_in table_mail flat_map
    truncation_flat i by =
        let x : ℕ = point_of plan i in
        ap₂ ◌++◌ (zeros_flat x) (ap₂ ◌++◌ (masked_pieces_flat x by) (truncated_flat x by ∙ sym (append-nil (map (truncated_at plan (gate_in plan g) (before g) x) plan.points))))

    multiply_flat : (i : ℕ) (r : Rule) → plan.rule ≡ r → multiply_in r h plan.points table cs (point_of plan i) a b (coin_place g) ≡ flat_map (table_mail plan xs cs tf i) (multiply_steps r g a b)
    unfolding multiply_steps flat_map
    multiply_flat i Reduction by = reduction_flat i by ∙ sym (append-nil (table_mail plan xs cs tf i (DealProduct g a b)))
    multiply_flat i Truncation by = truncation_flat i by

  -- ---- the openings of a gate that spends a triple
  module _ (g a b : ℕ) (l : g < length plan.gates) (e : get_or plan.gates g (Input 0) ≡ Spend a b) where
    spend_reads : (a < g) × (b < g)
    unfolding gate_ok
    spend_reads =
        let ok = both_true (ltb a g) (ltb b g) (rw e at (v.gates g l)) in
        (ltb-true a g ok.0, ltb-true b g ok.1)

    spend_within : triple_at plan g + 3 ≤ triple_numbers plan
    unfolding triples_taken is_kind kind_of
    spend_within =
        let three : triples_taken (get_or plan.gates g (Input 0)) ≡ 3 = ap triples_taken e in
        omega (arith, triples_next plan g l, triples_within plan (g + 1))

    difference_flat : (w j d : ℕ) → w < g → j < 3 → d < party_count plan
        → get_or (differences_of h.field.p h.n w j ts (triple_at plan g) table) d 0 ≡ difference_at plan (before g) w j (get_or plan.points d 0)
    unfolding differences_of difference_at triple_in
    difference_flat w j d lw lj ld =
        let m : d < h.n = omega (arith, plan_n pl) in
        let k : ℕ = triple_at plan g in
        get_or-tab _ h.n d 0 m
        ∙ ap (λ (p : ℕ). sub p (get_or table (h.n * w + d) 0) (get_or ts (length ts / h.n * d + (k + j)) 0)) (sym (plan_p pl))
        ∙ ap₂ (sub plan.p) (wire_read g l w d lw ld)
        (triple_is plan h.n ts tf d (k + j) tabled (plan_n pl) each m (omega (arith, spend_within))
        ∙ sym (ap (λ (f : ℕ → ℕ). f (get_or plan.points d 0)) (before-triples plan xs cs tf g j)))

    openings_flat : (i : ℕ) → openings_in h.field.p h.n table ts a b (triple_at plan g) ≡ table_mail plan xs cs tf i (OpenSpent g a b)
    unfolding openings_in opens_in table_mail party_count
    openings_flat i =
        let row : ℕ → List ℕ = λ x. difference_at plan (before g) a 0 x ∷ difference_at plan (before g) b 1 x ∷ [] in
        let all : ℕ → List ℕ = opens_in h.field.p h.n table ts a b (triple_at plan g) in
        ap (λ (n : ℕ). flat_map all (tab suc n)) (sym (plan_n pl))
        ∙ flat_map-tabs all row suc (λ d. get_or plan.points d 0) (length plan.points)
        (λ d k.
        let q : suc d - 1 ≡ d = omega arith in
        ap (λ (c : ℕ). get_or (differences_of h.field.p h.n a 0 ts (triple_at plan g) table) c 0 ∷ get_or (differences_of h.field.p h.n b 1 ts (triple_at plan g) table) c 0 ∷ []) q
        ∙ ap₂ (λ (x y : ℕ). x ∷ y ∷ []) (difference_flat a 0 d spend_reads.0 (omega arith) k) (difference_flat b 1 d spend_reads.1 (omega arith) k))
        ∙ ap (flat_map row) (sym (list-tab plan.points 0))

  draws_flat : (i g : ℕ) → get_or plan.gates g (Input 0) ≡ Random → pieces_in h plan.points table xs cs ts (point_of plan i) Random (input_place g) (coin_place g) (triple_at plan g) ≡ table_mail plan xs cs tf i (DealDraws g)
  unfolding pieces_in table_mail gate_in draws_of
  draws_flat i g e =
      let x : ℕ = point_of plan i in
      let s : Before = before g in
      let n : ℕ = party_count plan in
      let vs : List ℕ = tab (λ d. get_or s.inputs d 0) n in
      ap₂ (λ (n t : ℕ). pieces_of h.field.p (tab (λ d. get_or (drop (input_place g) xs) d 0) n) t cs (coin_place g) t x) (sym (plan_n pl)) (sym (plan_t pl))
      ∙ ap (λ (l : List ℕ). pieces_of h.field.p (tab (λ d. get_or l d 0) n) plan.t cs (coin_place g) plan.t x) (sym (before-inputs plan xs cs tf g))
      ∙ pieces_flat g vs plan.t plan.t x
      ∙ ap (tab (λ d. eval plan.p (get_or vs d 0 ∷ take plan.t (drop (plan.t * d) s.coins)) x)) (length-tab (λ d. get_or s.inputs d 0) n)
      ∙ tab-ext (λ d. eval plan.p (get_or vs d 0 ∷ take plan.t (drop (plan.t * d) s.coins)) x) (λ d. eval plan.p (get_or s.inputs d 0 ∷ take plan.t (drop (plan.t * d) s.coins)) x) n
      (λ d l. ap (λ (y : ℕ). eval plan.p (y ∷ take plan.t (drop (plan.t * d) s.coins)) x) (get_or-tab (λ d. get_or s.inputs d 0) n d 0 l))
      ∙ sym (ap (λ (y : Gate). pieces_at plan y s x) e ∙ pieces-random plan x s)

  gate_flat : (i g : ℕ) (x : Gate) → g < length plan.gates → get_or plan.gates g (Input 0) ≡ x
      → pieces_in h plan.points table xs cs ts (point_of plan i) x (input_place g) (coin_place g) (triple_at plan g) ≡ flat_map (table_mail plan xs cs tf i) (steps_at plan.rule g x)
  unfolding pieces_in steps_at flat_map
  gate_flat i g (Input s) l e = refl
  gate_flat i g (Add a b) l e = refl
  gate_flat i g (Scale a c) l e = refl
  gate_flat i g (Offset a c) l e = refl
  gate_flat i g (Multiply a b) l e =
      multiply_flat g a b l e i h.rule (plan_rule pl) ∙ sym (ap (λ (r : Rule). flat_map (table_mail plan xs cs tf i) (multiply_steps r g a b)) (plan_rule pl))
  gate_flat i g Random l e = draws_flat i g e ∙ sym (append-nil (table_mail plan xs cs tf i (DealDraws g)))
  gate_flat i g (Spend a b) l e = openings_flat g a b l e i ∙ sym (append-nil (table_mail plan xs cs tf i (OpenSpent g a b)))

  steps_flat_from : (i m g : ℕ) → m + g ≡ length plan.gates
      → gathered (pieces_in h plan.points table xs cs ts (point_of plan i)) plan (input_place g) (coin_place g) (triple_at plan g) (drop g plan.gates) ≡ flat_map (table_mail plan xs cs tf i) (steps_from plan.rule g (drop g plan.gates))
  unfolding gathered steps_from flat_map
  steps_flat_from i zero g e = rw (drop_of_length-le plan.gates {i = g} (omega arith))
  steps_flat_from i (suc m) g e =
      let l : g < length plan.gates = omega arith in
      let f : Gate → ℕ → ℕ → ℕ → List ℕ = pieces_in h plan.points table xs cs ts (point_of plan i) in
      let x : Gate = get_or plan.gates g (Input 0) in
      let gs : List Gate = drop (suc g) plan.gates in
      ap (gathered f plan (input_place g) (coin_place g) (triple_at plan g)) (drop-cons plan.gates g (Input 0) l)
      ∙ ap₂ (λ (u w : List ℕ). u ++ w) (gate_flat i g x l refl)
      (ap₂ (λ (j k : ℕ). gathered f plan j k (triple_at plan g + triples_taken x) gs) (next_place (input_owners_at plan) g l) (next_place (coin_owners_at plan) g l)
      ∙ ap (λ (u : ℕ). gathered f plan (input_place (suc g)) (coin_place (suc g)) u gs) (sym (triples_next plan g l) ∙ ap (triple_at plan) (add-one g))
      ∙ steps_flat_from i m (suc g) (omega arith))
      ∙ sym (ap (λ (l : List Gate). flat_map (table_mail plan xs cs tf i) (steps_from plan.rule g l)) (drop-cons plan.gates g (Input 0) l)
      ∙ flat_map-append (table_mail plan xs cs tf i) (steps_at plan.rule g x) (steps_from plan.rule (suc g) gs))
    where
      next_place : (owners : Gate → List ℕ) (k : ℕ) → k < length plan.gates
          → length (flat_map owners (take k plan.gates)) + length (owners (get_or plan.gates k (Input 0))) ≡ length (flat_map owners (take (suc k) plan.gates))
      next_place owners k q =
          let m : k < h.gates = omega (arith, plan_gates pl) in
          taken_next owners bs h _ k (length (owners (get_or plan.gates k (Input 0)))) pl refl m (ap (λ (y : Gate). length (owners y)) (plan_gate pl k m))
          ∙ ap (λ (n : ℕ). length (flat_map owners (take n plan.gates))) (add-one k)

  steps_flat : (i : ℕ) → gathered (pieces_in h plan.points table xs cs ts (point_of plan i)) plan 0 0 0 plan.gates ≡ flat_map (table_mail plan xs cs tf i) (steps_from plan.rule 0 plan.gates)
  unfolding flat_map triple_at count_where
  steps_flat i = steps_flat_from i (length plan.gates) 0 (add-zero (length plan.gates))

  -- ---- results
  pub results_flat : (i : ℕ) → map (opened_in plan h table) (out_wires plan i) ≡ table_results plan xs cs tf i
  unfolding table_results opened_in
  results_flat i =
      let result : ℕ → ℕ = λ w. opened plan.p plan.t plan.points (map (share w) plan.points) in
      map-all (opened_in plan h table) result (out_wires plan i)
      (all_map (λ w. w < length plan.gates) (λ w. opened_in plan h table w ≡ result w) (out_wires plan i)
      (λ w k.
      ap₂ (λ (p t : ℕ). opened p t plan.points (row_in h.n table w)) (sym (plan_p pl)) (sym (plan_t pl))
      ∙ ap (opened plan.p plan.t plan.points) (ap (λ (n : ℕ). row_in n table w) (sym (plan_n pl)) ∙ row_flat plan xs cs tf table is w k))
      (out-wires-within plan v i))

  -- ---- the view
  mail_flat : (i : ℕ) → 1 ≤ i → i ≤ party_count plan → mail_in plan h table xs cs ts i ≡ flat_map (table_mail plan xs cs tf i) (steps plan)
  unfolding mail_in steps flat_map
  mail_flat i l m =
      ap₂ (λ (u w : List ℕ). u ++ w) (ap (λ (n : ℕ). first_in plan n table i) (sym (plan_n pl)) ∙ first_flat plan xs cs tf table is i l m)
      (ap₂ (λ (u w : List ℕ). u ++ w) (steps_flat i) (ap (λ (n : ℕ). outs_in plan n table i) (sym (plan_n pl)) ∙ outs_flat plan xs cs tf table is v i ∙ sym (append-nil (table_mail plan xs cs tf i SendOuts)))
      ∙ sym (flat_map-append (table_mail plan xs cs tf i) (steps_from plan.rule 0 plan.gates) (SendOuts ∷ [])))

  pub view_flat : (i : ℕ) → 1 ≤ i → i ≤ party_count plan → view_in plan h table xs cs ts i ≡ table_view_of plan xs cs tf i
  unfolding view_in table_view_of
  view_flat i l m = rw (mail_flat i l m, results_flat i)
