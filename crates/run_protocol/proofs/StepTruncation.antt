-- The three steps of a multiply in version 4: dealings of 0, dealings of masked shares, and the truncated shares sent.
--     sends-zero, learns-zero              DealZero
--     sends-masked, learns-masked          DealMasked, which rests on the mail of DealZero
--     sends-truncated, learns-truncated    SendTruncated, which rests on the mail of DealMasked
-- Assumes nothing.
use mathlib.Core.Path.{◌≡◌, refl, sym, ap, ap₂, subst, ◌∙◌}
use mathlib.Core.Bool.{false}
use mathlib.Core.List.{List, [], ◌∷◌, map}
use Prim.Native.Nat.{ℕ, suc, ◌+◌, ◌-◌, ◌*◌, ◌<◌, ◌≤◌}
use native.Mathlib.Omega.{arith}
use lib.ListN.{length, get_or, take, drop}
use Rattle.field.specs.Mod.{add}
use Rattle.sharing_laws.specs.Poly.{eval}
use Rattle.sharing_laws.specs.Interp.{dot}
use Rattle.sharing_laws.specs.Sharing.{opened}
use Rattle.seat_messages.specs.Messages.{set_all, from_each, learnt, resume_at, spend_from, product_at, send_at}
use Rattle.plan.specs.declared.Gate.{Gate}
use Rattle.plan.specs.declared.Gate.TheVariants.{Multiply}
use Rattle.plan.specs.declared.Rule.{Rule}
use Rattle.plan.specs.declared.Rule.TheVariants.{Truncation}
use Rattle.plan.specs.declared.Step.TheVariants.{DealZero, DealMasked, SendTruncated}
use Rattle.sharing_laws.specs.Basis.{sum_all, row}
use Rattle.plan.specs.Plans.{Plan, party_count, point_of, coin_count, own_inputs, own_coins, own_triples, coins_at, kind_of, is_kind}
use Rattle.run_protocol.specs.Shares.{zero_pieces, masked_at, pieces_at, truncated_at, multiply_share, gate_share}
use Rattle.run_protocol.specs.Tables.{before_gate, gate_in, table_mail}
use Rattle.run_protocol.proofs.Following.{frontier, Is}
use Rattle.plan.proofs.Valid.{Valid}
use Rattle.run_protocol.proofs.Known.{learn_known, right_at, gate_reads, table_gate, Left, triple_next}
use Rattle.run_protocol.proofs.Dealt.{truncation-owners, zero-coins, masked-coins, pieces-masked}
use Rattle.run_protocol.proofs.Expected.{Sends, Learns, gate_in_lem, at_point, dealt_to, points-tab, mail-single, product-read}

module _ (plan : Plan) (valid : Valid plan) (xs cs ts : List ℕ) (tf : List (ℕ → ℕ)) (g a b : ℕ) (is : Is plan g (Multiply a b)) (rule : plan.rule ≡ Truncation) where
  -- ---- the dealings of 0
  pub sends-zero : length cs ≡ coin_count plan → (taken : ℕ → List ℕ) → Sends plan xs cs ts tf (DealZero g) taken
  unfolding send_at table_mail zero_pieces
  sends-zero full taken shares triples holds i from1 upto =
      let z : ℕ = point_of plan i in
      let left : List ℕ = (before_gate plan xs cs tf g).coins in
      mail-single plan (λ j. get_or (send_at plan j (DealZero g) (own_inputs plan j xs) (own_coins plan j cs) (triples j) (shares j) (taken j)) (i - 1) [])
      (λ r. eval plan.p (0 ∷ take (plan.t + plan.t) (drop (3 * plan.t * r) left)) z)
      (λ r l.
      dealt_to plan i from1 upto ((0 ∷ coins_at plan (suc r) g 0 (plan.t + plan.t) (own_coins plan (suc r) cs)) ∷ [])
      ∙ ap (λ (c : List ℕ). eval plan.p (0 ∷ c) z ∷ []) (zero-coins plan xs cs tf g (Multiply a b) is full (party_count plan) r (truncation-owners plan a b rule) l))

  pub learns-zero : Learns plan xs cs ts tf (DealZero g)
  unfolding learnt resume_at spend_from set_all frontier
  learns-zero i from1 upto shares triples h = h

  -- ---- the dealings of masked shares
  pub sends-masked : length cs ≡ coin_count plan → (taken : ℕ → List ℕ)
      → ((j : ℕ) → 1 ≤ j → j ≤ party_count plan → taken j ≡ table_mail plan xs cs tf j (DealZero g)) → Sends plan xs cs ts tf (DealMasked g a b) taken
  unfolding send_at table_mail masked_at frontier
  sends-masked full taken mail shares triples holds i from1 upto =
      let z : ℕ = point_of plan i in
      let s = before_gate plan xs cs tf g in
      let reads : (a < g) × (b < g) = gate_reads plan valid xs cs tf 0 g (Multiply a b) is in
      mail-single plan (λ j. get_or (send_at plan j (DealMasked g a b) (own_inputs plan j xs) (own_coins plan j cs) (triples j) (shares j) (taken j)) (i - 1) [])
      (λ r. eval plan.p (masked_at plan s a b (point_of plan (suc r)) ∷ take plan.t (drop (3 * plan.t * r + (plan.t + plan.t)) s.coins)) z)
      (λ r l.
      dealt_to plan i from1 upto ((add plan.p (product_at plan a b (shares (suc r))) (sum_all plan.p (taken (suc r))) ∷ coins_at plan (suc r) g (plan.t + plan.t) plan.t (own_coins plan (suc r) cs)) ∷ [])
      ∙ ap₂ (λ (v : ℕ) (c : List ℕ). eval plan.p (v ∷ c) z ∷ [])
      (ap₂ (λ (v : ℕ) (m : List ℕ). add plan.p v (sum_all plan.p m))
      (product-read plan valid xs cs tf (point_of plan (suc r)) g is.0 Unit (shares (suc r)) (holds (suc r) (omega arith) (omega arith)).known a b reads.0 reads.1)
      (mail (suc r) (omega arith) (omega arith)))
      (masked-coins plan xs cs tf g (Multiply a b) is full (party_count plan) r (truncation-owners plan a b rule) l))
      ∙ sym (ap (λ (x : Gate). from_each (party_count plan) 2 1 (pieces_at plan x s z)) (gate_in_lem plan g (Multiply a b) is) ∙ pieces-masked plan a b z s rule)

  pub learns-masked : Learns plan xs cs ts tf (DealMasked g a b)
  unfolding learnt resume_at spend_from set_all frontier
  learns-masked i from1 upto shares triples h = h

  -- ---- the truncated shares
  pub sends-truncated : (taken : ℕ → List ℕ)
      → ((j : ℕ) → 1 ≤ j → j ≤ party_count plan → taken j ≡ table_mail plan xs cs tf j (DealMasked g a b)) → Sends plan xs cs ts tf (SendTruncated g) taken
  unfolding send_at table_mail truncated_at
  sends-truncated taken mail shares triples holds i from1 upto =
      let z : ℕ = point_of plan i in
      let s = before_gate plan xs cs tf g in
      mail-single plan (λ j. get_or (send_at plan j (SendTruncated g) (own_inputs plan j xs) (own_coins plan j cs) (triples j) (shares j) (taken j)) (i - 1) [])
      (λ r. truncated_at plan (gate_in plan g) s z (point_of plan (suc r)))
      (λ r l.
      at_point plan i from1 upto (λ x. dot plan.p (row plan.p plan.t plan.points x) (taken (suc r)) ∷ []) []
      ∙ ap (λ (m : List ℕ). dot plan.p (row plan.p plan.t plan.points z) m ∷ []) (mail (suc r) (omega arith) (omega arith)))
      ∙ sym (points-tab plan (truncated_at plan (gate_in plan g) s z))

  pub learns-truncated : Learns plan xs cs ts tf (SendTruncated g)
  unfolding learnt resume_at spend_from set_all table_mail frontier right_at gate_share multiply_share is_kind kind_of
  learns-truncated i from1 upto shares triples h =
      let z : ℕ = point_of plan i in
      let s = before_gate plan xs cs tf g in
      let q = triple_next plan g (Multiply a b) is false refl in
      record {
        known =
            learn_known h.known (opened plan.p plan.t plan.points (map (truncated_at plan (gate_in plan g) s z) plan.points))
            (ap (λ (x : Gate). opened plan.p plan.t plan.points (map (truncated_at plan x s z) plan.points)) (gate_in_lem plan g (Multiply a b) is)
            ∙ ap (λ (r : Rule). multiply_share plan r (Multiply a b) s z) (sym rule)
            ∙ sym (table_gate plan valid xs cs tf z g (Multiply a b) is));
        left = subst (λ (k : ℕ). Left (own_triples plan i ts) k triples) (sym (q ∙ omega arith)) h.left;
      }
