-- Every number of the table, and of the mail and the results that are read off it, is below p.
--     share-below       a share
--     mail_below        the mail of a step
--     results_below     a party's results
-- Assumes nothing.
use mathlib.Core.Path.{◌≡◌, refl, sym, subst}
use mathlib.Core.Bool.{Bool, true, false}
use mathlib.Core.List.{List, [], ◌∷◌, map}
use Prim.Native.Nat.{ℕ, ◌+◌, ◌*◌, ◌<◌}
use native.Mathlib.Omega.{arith}
use borrow.Author.Tests.{ltb-true, ltb-false, lt-ltb}
use lib.Dec.{ltb}
use lib.ListN.{length, get_or, take, get_or-eq_default}
use Rattle.numbers.specs.Bytes.{all_below}
use Rattle.numbers.proofs.Below.{input_below, all_below-tab, map_below, flat_map_below}
use Rattle.field.proofs.Solve.{Canon, add_canon, mul_canon, sub_canon, canon-lt}
use Rattle.sharing_laws.specs.Poly.{eval}
use Rattle.sharing_laws.specs.Interp.{weights, interpolate}
use Rattle.sharing_laws.specs.Sharing.{opened}
use Rattle.sharing_laws.proofs.Polys.{eval_canon}
use Rattle.sharing_laws.proofs.Sums.{dot_canon, list_canon}
use Rattle.seat_messages.specs.Messages.{from_each, wires_by_party, spent_share}
use Rattle.plan.specs.declared.Gate.{Gate}
use Rattle.plan.specs.declared.Gate.TheVariants.{Input, Add, Scale, Offset, Multiply, Random, Spend}
use Rattle.plan.specs.declared.Rule.{Rule}
use Rattle.plan.specs.declared.Rule.TheVariants.{Reduction, Truncation}
use Rattle.plan.specs.declared.Step.{Step}
use Rattle.plan.specs.declared.Step.TheVariants.{DealInputs, DealProduct, DealZero, DealMasked, SendTruncated, DealDraws, OpenSpent, SendOuts}
use Rattle.plan.specs.Plans.{Plan, party_count, point_of, dealer_points, out_wires, dealings_at}
use Rattle.run_protocol.specs.Shares.{Before, wire_at, zero_pieces, dealt_at, sharings, pieces_at, truncated_at, multiply_share, difference_at, gate_share, share_table}
use Rattle.run_protocol.specs.Tables.{before_gate, gate_in, table_mail, table_results}
use Rattle.run_protocol.proofs.Table.{length-table, table_at}

opened_canon : (p t : ℕ) (points shares : List ℕ) → Canon p (opened p t points shares)
unfolding opened interpolate
opened_canon p t points shares = dot_canon p (weights p 0 (take (t + 1) points)) shares

pair_below : (p a b : ℕ) → a < p → b < p → all_below p (a ∷ b ∷ []) ≡ true
unfolding all_below
pair_below p a b l m = rw (lt-ltb a p l, lt-ltb b p m) refl

module _ (plan : Plan) where
  multiply-canon : (rule : Rule) (g : Gate) (s : Before) (x : ℕ) → Canon plan.p (multiply_share plan rule g s x)
  unfolding multiply_share
  multiply-canon Reduction g s x = dot_canon plan.p (weights plan.p 0 (dealer_points plan)) (pieces_at plan g s x)
  multiply-canon Truncation g s x = opened_canon plan.p plan.t plan.points (map (truncated_at plan g s x) plan.points)

  pub gate-canon : (g : Gate) (s : Before) (x : ℕ) → Canon plan.p (gate_share plan g s x)
  unfolding gate_share spent_share
  gate-canon (Input i) s x = eval_canon (get_or s.inputs 0 0 ∷ take plan.t s.coins) x
  gate-canon (Add a b) s x = add_canon (wire_at s.env a x) (wire_at s.env b x)
  gate-canon (Scale a c) s x = mul_canon (wire_at s.env a x) c
  gate-canon (Offset a c) s x = add_canon (wire_at s.env a x) c
  gate-canon (Multiply a b) s x = multiply-canon plan.rule (Multiply a b) s x
  gate-canon Random s x = list_canon plan.p (pieces_at plan Random s x)
  gate-canon (Spend a b) s x = sub_canon _ _

  module _ (above : 0 < plan.p) where
    pub pieces_below : (g : Gate) (s : Before) (x : ℕ) → all_below plan.p (pieces_at plan g s x) ≡ true
    unfolding pieces_at
    pieces_below g s x = map_below plan.p (λ f. eval plan.p f x) (sharings (dealings_at plan g) (dealt_at plan g s) s.coins) (λ f. canon-lt above (eval_canon f x))

    module _ (xs cs : List ℕ) (tf : List (ℕ → ℕ)) where
      share-by : (w x : ℕ) (b : Bool) → ltb w (length plan.gates) ≡ b → wire_at (share_table plan xs cs tf) w x < plan.p
      unfolding wire_at
      share-by w x true e =
          let q = table_at plan xs cs tf w (Input 0) (ltb-true w (length plan.gates) e) in
          subst (λ (f : ℕ → ℕ). f x < plan.p) (sym q) (canon-lt above (gate-canon (get_or plan.gates w (Input 0)) (before_gate plan xs cs tf w) x))
      share-by w x false e =
          let q : wire_at (share_table plan xs cs tf) w ≡ (λ y. 0) = get_or-eq_default (share_table plan xs cs tf) (λ y. 0) {n = w} (omega (arith, length-table plan xs cs tf, ltb-false w (length plan.gates) e)) in
          subst (λ (f : ℕ → ℕ). f x < plan.p) (sym q) above

      pub share-below : (w x : ℕ) → wire_at (share_table plan xs cs tf) w x < plan.p
      share-below w x = share-by w x (ltb w (length plan.gates)) refl

      shares_below : (x : ℕ) (ws : List ℕ) → all_below plan.p (map (λ w. wire_at (share_table plan xs cs tf) w x) ws) ≡ true
      shares_below x ws = map_below plan.p (λ w. wire_at (share_table plan xs cs tf) w x) ws (λ w. share-below w x)

      -- the mail of a step
      pub mail_below : (i : ℕ) (s : Step) → all_below plan.p (table_mail plan xs cs tf i s) ≡ true
      unfolding table_mail zero_pieces from_each truncated_at difference_at
      mail_below i DealInputs = shares_below (point_of plan i) (wires_by_party plan)
      mail_below i (DealProduct g a b) = pieces_below (gate_in plan g) (before_gate plan xs cs tf g) (point_of plan i)
      mail_below i (DealZero g) = all_below-tab plan.p _ (party_count plan) (λ r l. canon-lt above (eval_canon _ (point_of plan i)))
      mail_below i (DealMasked g a b) =
          all_below-tab plan.p _ (party_count plan) (λ r l. input_below plan.p (pieces_at plan (gate_in plan g) (before_gate plan xs cs tf g) (point_of plan i)) above (pieces_below (gate_in plan g) (before_gate plan xs cs tf g) (point_of plan i)) (2 * r + 1))
      mail_below i (SendTruncated g) =
          map_below plan.p (truncated_at plan (gate_in plan g) (before_gate plan xs cs tf g) (point_of plan i)) plan.points (λ x. canon-lt above (dot_canon plan.p _ _))
      mail_below i (DealDraws g) = pieces_below (gate_in plan g) (before_gate plan xs cs tf g) (point_of plan i)
      mail_below i (OpenSpent g a b) =
          flat_map_below plan.p (λ x. difference_at plan (before_gate plan xs cs tf g) a 0 x ∷ difference_at plan (before_gate plan xs cs tf g) b 1 x ∷ []) plan.points
          (λ x. pair_below plan.p _ _ (canon-lt above (sub_canon _ _)) (canon-lt above (sub_canon _ _)))
      mail_below i SendOuts =
          flat_map_below plan.p (λ x. map (λ w. wire_at (share_table plan xs cs tf) w x) (out_wires plan i)) plan.points (λ x. shares_below x (out_wires plan i))

      -- a party's results
      pub results_below : (i : ℕ) → all_below plan.p (table_results plan xs cs tf i) ≡ true
      unfolding table_results
      results_below i =
          map_below plan.p (λ w. opened plan.p plan.t plan.points (map (wire_at (share_table plan xs cs tf) w) plan.points)) (out_wires plan i)
          (λ w. canon-lt above (opened_canon plan.p plan.t plan.points _))
