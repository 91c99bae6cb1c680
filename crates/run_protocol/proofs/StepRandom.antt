-- The step DealDraws, of a random wire: every party deals its draw.
--     sends-draws, learns-draws      its two laws
-- Assumes nothing.
use mathlib.Core.Path.{◌≡◌, refl, sym, ap, ap₂, subst, ◌∙◌}
use mathlib.Core.Bool.{false}
use mathlib.Core.List.{List, [], ◌∷◌}
use Prim.Native.Nat.{ℕ, suc, ◌-◌, ◌*◌}
use native.Mathlib.Omega.{arith}
use lib.ListN.{length, get_or, take, drop}
use Rattle.sharing_laws.specs.Poly.{eval}
use Rattle.seat_messages.specs.Messages.{set_all, learnt, resume_at, spend_from, send_at}
use Rattle.plan.specs.declared.Gate.{Gate}
use Rattle.plan.specs.declared.Gate.TheVariants.{Random}
use Rattle.plan.specs.declared.Step.TheVariants.{DealDraws}
use Rattle.sharing_laws.specs.Basis.{sum_all}
use Rattle.plan.specs.Plans.{Plan, party_count, point_of, coin_count, own_inputs, own_coins, own_triples, input_at, coins_at, kind_of, is_kind}
use Rattle.run_protocol.specs.Shares.{pieces_at, gate_share}
use Rattle.run_protocol.specs.Tables.{before_gate, gate_in, table_mail}
use Rattle.run_protocol.proofs.Following.{frontier, Is}
use Rattle.plan.proofs.Valid.{Valid}
use Rattle.run_protocol.proofs.Known.{learn_known, right_at, table_gate, Left, triple_next}
use Rattle.run_protocol.proofs.Dealt.{random-owners, first_coins, input-draw, pieces-random}
use Rattle.run_protocol.proofs.Expected.{Sends, Learns, gate_in_lem, dealt_to, mail-single}

module _ (plan : Plan) (valid : Valid plan) (xs cs ts : List ℕ) (tf : List (ℕ → ℕ)) (g : ℕ) (is : Is plan g Random) where
  pub sends-draws : length cs ≡ coin_count plan → (taken : ℕ → List ℕ) → Sends plan xs cs ts tf (DealDraws g) taken
  unfolding send_at table_mail
  sends-draws full taken shares triples holds i from1 upto =
      let z : ℕ = point_of plan i in
      let s = before_gate plan xs cs tf g in
      mail-single plan (λ j. get_or (send_at plan j (DealDraws g) (own_inputs plan j xs) (own_coins plan j cs) (triples j) (shares j) (taken j)) (i - 1) [])
      (λ r. eval plan.p (get_or s.inputs r 0 ∷ take plan.t (drop (plan.t * r) s.coins)) z)
      (λ r l.
      dealt_to plan i from1 upto ((input_at plan (suc r) g (own_inputs plan (suc r) xs) ∷ coins_at plan (suc r) g 0 plan.t (own_coins plan (suc r) cs)) ∷ [])
      ∙ ap₂ (λ (v : ℕ) (c : List ℕ). eval plan.p (v ∷ c) z ∷ []) (input-draw plan xs cs tf g r is l) (first_coins plan xs cs tf g Random is full (party_count plan) r (random-owners plan) l))
      ∙ sym (ap (λ (x : Gate). pieces_at plan x s z) (gate_in_lem plan g Random is) ∙ pieces-random plan z s)

  pub learns-draws : Learns plan xs cs ts tf (DealDraws g)
  unfolding learnt resume_at spend_from set_all table_mail frontier right_at gate_share is_kind kind_of
  learns-draws i from1 upto shares triples h =
      let z : ℕ = point_of plan i in
      let s = before_gate plan xs cs tf g in
      let q = triple_next plan g Random is false refl in
      record {
        known =
            learn_known h.known (sum_all plan.p (pieces_at plan (gate_in plan g) s z))
            (ap (λ (x : Gate). sum_all plan.p (pieces_at plan x s z)) (gate_in_lem plan g Random is) ∙ sym (table_gate plan valid xs cs tf z g Random is));
        left = subst (λ (k : ℕ). Left (own_triples plan i ts) k triples) (sym (q ∙ omega arith)) h.left;
      }
