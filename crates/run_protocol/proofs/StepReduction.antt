-- The step DealProduct, of a multiply in versions 1 to 3: the first 2t + 1 parties deal their products.
--     sends-product, learns-product      its two laws
-- Assumes nothing.
use mathlib.Core.Path.{◌≡◌, refl, sym, ap, ap₂, subst, ◌∙◌}
use mathlib.Core.Bool.{false}
use mathlib.Core.List.{List, [], ◌∷◌, ◌++◌, map, flat_map, append-nil}
use Prim.Native.Nat.{ℕ, suc, ◌+◌, ◌-◌, ◌*◌, ◌<◌, ◌≤◌}
use native.Mathlib.Omega.{arith}
use borrow.Author.Tests.{le-leb, lt-leb}
use lib.ListN.{length, get_or, take, drop}
use lib.Seq.{get_or-take, length-take-le}
use Rattle.numbers.specs.Tables.{tab}
use Rattle.numbers.proofs.Tables.{tab-append, tab-ext, tab-map}
use Rattle.sharing_laws.specs.Poly.{eval}
use Rattle.sharing_laws.specs.Interp.{weights, dot}
use Rattle.sharing_laws.proofs.Alls.{all-tab}
use Rattle.seat_messages.specs.Messages.{set_all, learnt, resume_at, spend_from, product_at, send_at}
use Rattle.sharing_laws.proofs.Lists.{flat_map-append, flat_map-nil, flat_map-single, flat_map-tabs, get_or-map-in, all-every}
use Rattle.plan.specs.declared.Gate.{Gate}
use Rattle.plan.specs.declared.Gate.TheVariants.{Multiply}
use Rattle.plan.specs.declared.Rule.{Rule}
use Rattle.plan.specs.declared.Rule.TheVariants.{Reduction}
use Rattle.plan.specs.declared.Step.TheVariants.{DealProduct}
use Rattle.plan.specs.Plans.{Plan, party_count, parties, point_of, dealer_count, dealer_points, coin_count, own_inputs, own_coins, own_triples, coins_at, kind_of, is_kind}
use Rattle.run_protocol.specs.Shares.{product_of, multiply_dealt, pieces_at, multiply_share, gate_share}
use Rattle.run_protocol.specs.Tables.{before_gate, gate_in, table_mail}
use Rattle.run_protocol.proofs.Following.{frontier, Is}
use Rattle.run_protocol.proofs.Induction.{nothing_to}
use Rattle.plan.proofs.Valid.{Valid}
use Rattle.run_protocol.proofs.Known.{learn_known, right_at, gate_reads, table_gate, Left, triple_next}
use Rattle.run_protocol.proofs.Dealt.{reduction-owners, first_coins, pieces-reduction}
use Rattle.run_protocol.proofs.Expected.{Holds, Sends, Learns, gate_in_lem, dealt_to, product-read}

module _ (plan : Plan) (valid : Valid plan) (xs cs ts : List ℕ) (tf : List (ℕ → ℕ)) (g a b : ℕ) (is : Is plan g (Multiply a b)) (rule : plan.rule ≡ Reduction) where
  -- the piece of dealer r + 1's dealing at a point
  piece : ℕ → ℕ → ℕ
  piece z r =
      eval plan.p (product_of plan (before_gate plan xs cs tf g).env a b (point_of plan (suc r)) ∷ take plan.t (drop (plan.t * r) (before_gate plan xs cs tf g).coins)) z

  reads : (a < g) × (b < g)
  reads = gate_reads plan valid xs cs tf 0 g (Multiply a b) is

  module _ (few : dealer_count plan ≤ party_count plan) where
    mail-pieces : (i : ℕ) → table_mail plan xs cs tf i (DealProduct g a b) ≡ tab (piece (point_of plan i)) (dealer_count plan)
    unfolding table_mail piece multiply_dealt dealer_points point_of party_count
    mail-pieces i =
        let z : ℕ = point_of plan i in
        let s = before_gate plan xs cs tf g in
        let ds : List ℕ = take (dealer_count plan) plan.points in
        ap (λ (x : Gate). pieces_at plan x s z) (gate_in_lem plan g (Multiply a b) is)
        ∙ pieces-reduction plan a b z s rule
        ∙ tab-ext (λ r. eval plan.p (get_or (map (product_of plan s.env a b) ds) r 0 ∷ take plan.t (drop (plan.t * r) s.coins)) z) (piece z) (dealer_count plan)
        (λ r l.
        let e : r ≡ suc r - 1 = omega arith in
        ap (λ (v : ℕ). eval plan.p (v ∷ take plan.t (drop (plan.t * r) s.coins)) z)
        (get_or-map-in (product_of plan s.env a b) ds r 0 0 (omega (arith, length-take-le (dealer_count plan) plan.points few))
        ∙ ap (product_of plan s.env a b) (get_or-take (dealer_count plan) plan.points r 0 l ∙ ap (λ (k : ℕ). get_or plan.points k 0) e)))

    module _ (full : length cs ≡ coin_count plan) (taken shares triples : ℕ → List ℕ)
        (holds : (j : ℕ) → 1 ≤ j → j ≤ party_count plan → Holds plan xs cs ts tf j (DealProduct g a b) (shares j) (triples j)) (i : ℕ) (from1 : 1 ≤ i) (upto : i ≤ party_count plan) where
      sent : ℕ → List ℕ
      sent j = get_or (send_at plan j (DealProduct g a b) (own_inputs plan j xs) (own_coins plan j cs) (triples j) (shares j) (taken j)) (i - 1) []

      by-dealer : (r : ℕ) → r < dealer_count plan → sent (suc r) ≡ piece (point_of plan i) r ∷ []
      unfolding sent send_at piece frontier
      by-dealer r l =
          rw (le-leb (suc r) (dealer_count plan) l)
          (dealt_to plan i from1 upto ((product_at plan a b (shares (suc r)) ∷ coins_at plan (suc r) g 0 plan.t (own_coins plan (suc r) cs)) ∷ [])
          ∙ ap₂ (λ (v : ℕ) (c : List ℕ). eval plan.p (v ∷ c) (point_of plan i) ∷ [])
          (product-read plan valid xs cs tf (point_of plan (suc r)) g is.0 Unit (shares (suc r)) (holds (suc r) (omega arith) (omega arith)).known a b reads.0 reads.1)
          (first_coins plan xs cs tf g (Multiply a b) is full (dealer_count plan) r (reduction-owners plan a b rule) l))

      by-other : (j : ℕ) → dealer_count plan < j → sent j ≡ []
      unfolding sent send_at
      by-other j l = rw (lt-leb j (dealer_count plan) l) (nothing_to plan (i - 1))

      all-sent : flat_map sent (parties plan) ≡ tab (piece (point_of plan i)) (dealer_count plan)
      unfolding parties
      all-sent =
          let d : ℕ = dealer_count plan in
          let n : ℕ = party_count plan in
          let z : ℕ = point_of plan i in
          let e : n ≡ d + (n - d) = omega arith in
          ap (flat_map sent) (ap (tab suc) e ∙ tab-append suc d (n - d))
          ∙ flat_map-append sent (tab suc d) (tab (λ r. suc (d + r)) (n - d))
          ∙ ap₂ (λ (u v : List ℕ). u ++ v)
          (flat_map-tabs sent (λ r. piece z r ∷ []) suc (λ r. r) d by-dealer
          ∙ flat_map-single (λ r. piece z r ∷ []) (piece z) (tab (λ r. r) d) (all-every (λ r. ◌≡◌ {A = List ℕ} (piece z r ∷ []) (piece z r ∷ [])) (tab (λ r. r) d) (λ r. refl))
          ∙ tab-map (piece z) (λ r. r) d)
          (flat_map-nil sent (tab (λ r. suc (d + r)) (n - d)) (all-tab (λ j. sent j ≡ []) (λ r. suc (d + r)) (n - d) (λ r q. by-other (suc (d + r)) (omega arith))))
          ∙ append-nil (tab (piece z) d)

    pub sends-product : length cs ≡ coin_count plan → (taken : ℕ → List ℕ) → Sends plan xs cs ts tf (DealProduct g a b) taken
    unfolding sent
    sends-product full taken shares triples holds i from1 upto = all-sent full taken shares triples holds i from1 upto ∙ sym (mail-pieces i)

  pub learns-product : Learns plan xs cs ts tf (DealProduct g a b)
  unfolding learnt resume_at spend_from set_all table_mail frontier right_at gate_share multiply_share is_kind kind_of
  learns-product i from1 upto shares triples h =
      let z : ℕ = point_of plan i in
      let s = before_gate plan xs cs tf g in
      let q = triple_next plan g (Multiply a b) is false refl in
      record {
        known =
            learn_known h.known (dot plan.p (weights plan.p 0 (dealer_points plan)) (pieces_at plan (gate_in plan g) s z))
            (ap (λ (x : Gate). dot plan.p (weights plan.p 0 (dealer_points plan)) (pieces_at plan x s z)) (gate_in_lem plan g (Multiply a b) is)
            ∙ ap (λ (r : Rule). multiply_share plan r (Multiply a b) s z) (sym rule)
            ∙ sym (table_gate plan valid xs cs tf z g (Multiply a b) is));
        left = subst (λ (k : ℕ). Left (own_triples plan i ts) k triples) (sym (q ∙ omega arith)) h.left;
      }
