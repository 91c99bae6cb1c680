-- What is expected of a run, and what a kind of step has to show: that it sends the table's mail, and what its mail brings a party.
--     Holds, Sends, Learns     what a party has when it sends a step; a step's two laws
--     holds_next               a step's law of learning, and the work after it, bring a party to the next step
--     mail-single, mail_rows, column, dealt_to, points-tab      mail, sender by sender
-- Assumes nothing.
use mathlib.Core.Path.{◌≡◌, refl, sym, ap, subst, ◌∙◌}
use mathlib.Core.List.{List, [], ◌∷◌, map, flat_map}
use Prim.Native.Nat.{ℕ, suc, ◌+◌, ◌-◌, ◌*◌, ◌<◌, ◌≤◌}
use native.Mathlib.Omega.{arith}
use lib.ListN.{length, get_or, drop}
use Rattle.numbers.specs.Tables.{tab}
use Rattle.numbers.proofs.Tables.{tab-ext, tab-map, list-tab}
use Rattle.sharing_laws.specs.Poly.{eval}
use Rattle.seat_messages.specs.Messages.{from_each, learnt, resume_at, learn_from, spend_from, deal_to, product_at, send_at}
use Rattle.sharing_laws.proofs.Lists.{flat_map-tabs, flat_map-single, get_or-map-in, get_d_rows, all-every}
use Rattle.plan.specs.declared.Gate.{Gate}
use Rattle.plan.specs.declared.Step.{Step}
use Rattle.plan.specs.declared.Step.TheVariants.{DealInputs, DealProduct, DealZero, DealMasked, SendTruncated, DealDraws, OpenSpent, SendOuts}
use Rattle.plan.specs.Plans.{Plan, party_count, parties, point_of, own_inputs, own_coins, own_triples, triple_at}
use Rattle.run_protocol.specs.Shares.{wire_at, product_of}
use Rattle.run_protocol.specs.Tables.{gate_in, before_gate, table_mail}
use Rattle.run_protocol.proofs.Following.{frontier, Is, Follows}
use Rattle.plan.proofs.Valid.{Valid}
use Rattle.run_protocol.proofs.Known.{Known, known_anyway, right_at, read_wire, work_from_known, Left, work_triples}

-- whether the inputs have been dealt when a step is sent
abbrev pub Begun : Step → Type 0
Begun DealInputs = ⊥
Begun (DealProduct g a b) = Unit
Begun (DealZero g) = Unit
Begun (DealMasked g a b) = Unit
Begun (SendTruncated g) = Unit
Begun (DealDraws g) = Unit
Begun (OpenSpent g a b) = Unit
Begun SendOuts = Unit

module _ (plan : Plan) (xs cs ts : List ℕ) (tf : List (ℕ → ℕ)) where
  -- party i's shares and triples, all gates below g done
  pub record Done (i : ℕ) (begun : Type 0) (g : ℕ) (shares triples : List ℕ) : Type 0 where
    pub known : Known plan.gates (right_at plan xs cs tf (point_of plan i)) begun g shares
    pub left : Left (own_triples plan i ts) (triple_at plan g) triples

  -- when it sends step s
  abbrev pub Holds : ℕ → Step → List ℕ → List ℕ → Type 0
  Holds i s shares triples = Done i (Begun s) (frontier plan s) shares triples

  -- where all parties hold what they should and took this mail before, the step's mail is the table's
  abbrev pub Sends : Step → (ℕ → List ℕ) → Type 0
  Sends s taken =
      (shares triples : ℕ → List ℕ)
      → ((j : ℕ) → 1 ≤ j → j ≤ party_count plan → Holds j s (shares j) (triples j))
      → (i : ℕ) → 1 ≤ i → i ≤ party_count plan
      → flat_map (λ j. get_or (send_at plan j s (own_inputs plan j xs) (own_coins plan j cs) (triples j) (shares j) (taken j)) (i - 1) []) (parties plan)
      ≡ table_mail plan xs cs tf i s

  -- the table's mail makes the step's wire known, up to where the work goes on
  abbrev pub Learns : Step → Type 0
  Learns s =
      (i : ℕ) → 1 ≤ i → i ≤ party_count plan → (shares triples : List ℕ) → Holds i s shares triples
      → Done i Unit (resume_at plan s) (learnt plan s triples shares (table_mail plan xs cs tf i s)) (spend_from plan s triples)

  -- the work after it ends where the next step begins
  pub holds_next : (valid : Valid plan) (r s : Step) → Follows plan r s → Learns r → (i : ℕ) → 1 ≤ i → i ≤ party_count plan → (shares triples : List ℕ) → Holds i r shares triples
      → Holds i s (learn_from plan r triples shares (table_mail plan xs cs tf i r)) (spend_from plan r triples)
  unfolding learn_from
  holds_next valid r s follows learns i from1 upto shares triples h =
      let g : ℕ = resume_at plan r in
      let z : ℕ = point_of plan i in
      let later : List ℕ = learnt plan r triples shares (table_mail plan xs cs tf i r) in
      let d : Done i Unit g later (spend_from plan r triples) = learns i from1 upto shares triples h in
      record {
        known =
            subst (λ (b : ℕ). Known plan.gates (right_at plan xs cs tf z) (Begun s) b (learn_from plan r triples shares (table_mail plan xs cs tf i r))) follows.stops
            (known_anyway (Begun s) (work_from_known plan valid xs cs tf z (drop g plan.gates) g later refl d.known));
        left =
            subst (λ (k : ℕ). Left (own_triples plan i ts) k (spend_from plan r triples)) (sym (work_triples plan (drop g plan.gates) g refl) ∙ ap (triple_at plan) follows.stops) d.left;
      }

-- ---- mail, sender by sender
module _ (plan : Plan) where
  pub gate_in_lem : (g : ℕ) (x : Gate) → Is plan g x → gate_in plan g ≡ x
  unfolding gate_in
  gate_in_lem g x i = i.1

  pub at_point : (i : ℕ) → 1 ≤ i → i ≤ party_count plan → {B : Type 0} (f : ℕ → B) (d : B) → get_or (map f plan.points) (i - 1) d ≡ f (point_of plan i)
  unfolding point_of party_count
  at_point i from1 upto f d = get_or-map-in f plan.points (i - 1) 0 d (omega arith)

  pub dealt_to : (i : ℕ) → 1 ≤ i → i ≤ party_count plan → (fs : List (List ℕ)) → get_or (deal_to plan fs) (i - 1) [] ≡ map (λ f. eval plan.p f (point_of plan i)) fs
  unfolding deal_to
  dealt_to i l m fs = at_point i l m (λ x. map (λ f. eval plan.p f x) fs) []

  -- a map over the points, party by party
  pub points-tab : {B : Type 0} (h : ℕ → B) → map h plan.points ≡ tab (λ k. h (point_of plan (suc k))) (party_count plan)
  unfolding point_of party_count
  points-tab h =
      ap (map h) (list-tab plan.points 0) ∙ tab-map h (λ k. get_or plan.points k 0) (length plan.points)
      ∙ tab-ext (λ k. h (get_or plan.points k 0)) (λ k. h (get_or plan.points (suc k - 1) 0)) (length plan.points)
      (λ k l. let e : k ≡ suc k - 1 = omega arith in ap (λ (m : ℕ). h (get_or plan.points m 0)) e)

  -- one number from each party
  pub mail-single : (sent : ℕ → List ℕ) (piece : ℕ → ℕ) → ((j : ℕ) → j < party_count plan → sent (suc j) ≡ piece j ∷ []) → flat_map sent (parties plan) ≡ tab piece (party_count plan)
  unfolding parties
  mail-single sent piece h =
      flat_map-tabs sent (λ j. piece j ∷ []) suc (λ j. j) (party_count plan) h
      ∙ flat_map-single (λ j. piece j ∷ []) piece (tab (λ j. j) (party_count plan)) (all-every (λ j. ◌≡◌ {A = List ℕ} (piece j ∷ []) (piece j ∷ [])) (tab (λ j. j) (party_count plan)) (λ j. refl))
      ∙ tab-map piece (λ j. j) (party_count plan)

  -- a row from each party, as it follows from its point
  pub mail_rows : (sent row : ℕ → List ℕ) → ((j : ℕ) → 1 ≤ j → j ≤ party_count plan → sent j ≡ row (point_of plan j)) → flat_map sent (parties plan) ≡ flat_map row plan.points
  unfolding parties point_of party_count
  mail_rows sent row h =
      flat_map-tabs sent row suc (λ k. get_or plan.points k 0) (length plan.points)
      (λ k l. let e : suc k - 1 ≡ k = omega arith in h (suc k) (omega arith) (omega arith) ∙ ap (λ (m : ℕ). row (get_or plan.points m 0)) e)
      ∙ ap (flat_map row) (sym (list-tab plan.points 0))

  -- of such rows of c numbers, number j of each
  pub column : (row : ℕ → List ℕ) (c j : ℕ) → ((x : ℕ) → length (row x) ≡ c) → j < c → from_each (party_count plan) c j (flat_map row plan.points) ≡ map (λ x. get_or (row x) j 0) plan.points
  unfolding from_each party_count
  column row c j h l =
      tab-ext (λ s. get_or (flat_map row plan.points) (c * s + j) 0) (λ s. get_or (row (get_or plan.points s 0)) j 0) (length plan.points)
      (λ s m. get_d_rows row c plan.points (all-every (λ x. length (row x) ≡ c) plan.points h) s j 0 m l)
      ∙ sym (ap (map (λ x. get_or (row x) j 0)) (list-tab plan.points 0) ∙ tab-map (λ x. get_or (row x) j 0) (λ k. get_or plan.points k 0) (length plan.points))

  -- a party's share of a wire that its gate reads, and its product of two, as the table has them
  module _ (valid : Valid plan) (xs cs : List ℕ) (tf : List (ℕ → ℕ)) (z g : ℕ) (in-plan : g < length plan.gates) (begun : Type 0) (shares : List ℕ)
      (known : Known plan.gates (right_at plan xs cs tf z) begun g shares) where
    pub share_read : (w : ℕ) → w < g → get_or shares w 0 ≡ wire_at (before_gate plan xs cs tf g).env w z
    unfolding right_at
    share_read w l = known.below w l (omega arith) ∙ read_wire plan valid xs cs tf z g w in-plan l

    pub product-read : (a b : ℕ) → a < g → b < g → product_at plan a b shares ≡ product_of plan (before_gate plan xs cs tf g).env a b z
    unfolding product_at product_of
    product-read a b l m = rw (share_read a l, share_read b m) refl
