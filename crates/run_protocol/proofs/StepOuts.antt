-- The step SendOuts: every party's shares of each party's outs.
--     sends-outs, learns-outs      its two laws
--     out-wires-within             the wires of outs are wires of the plan
-- Assumes nothing.
use mathlib.Core.Path.{◌≡◌, ◌∙◌}
use mathlib.Core.Bool.{true}
use mathlib.Core.List.{List, [], ◌∷◌, map}
use Prim.Native.Nat.{ℕ, suc, ◌-◌, ◌<◌}
use native.Mathlib.Omega.{arith}
use borrow.Author.Tests.{ltb-true}
use lib.Dec.{eqb, ltb}
use lib.ListN.{length, get_or}
use Rattle.numbers.proofs.Truth.{both_true}
use Rattle.sharing_laws.specs.Interp.{All}
use Rattle.seat_messages.specs.Messages.{set_all, learnt, resume_at, spend_from, send_at}
use Rattle.plan.specs.declared.Output.{Output}
use Rattle.plan.specs.File.{between, out_ok}
use Rattle.sharing_laws.proofs.Lists.{map-all, all_map, all-cond}
use Rattle.plan.specs.declared.Step.TheVariants.{SendOuts}
use Rattle.plan.proofs.Parties.{at-party}
use Rattle.plan.specs.Plans.{Plan, party_count, point_of, out_wires_of, out_wires, own_inputs, own_coins}
use Rattle.run_protocol.specs.Shares.{wire_at, share_table}
use Rattle.run_protocol.specs.Tables.{table_mail}
use Rattle.run_protocol.proofs.Following.{frontier}
use Rattle.plan.proofs.Valid.{Valid}
use Rattle.run_protocol.proofs.Known.{right_at}
use Rattle.run_protocol.proofs.Expected.{Sends, Learns, mail_rows}

outs_within : (n gates i : ℕ) (os : List Output) → ((o : ℕ) → o < length os → out_ok n gates (get_or os o (record { party = 0; wire = 0 })) ≡ true) → All (λ w. w < gates) (out_wires_of i os)
unfolding out_wires_of out_ok
outs_within n gates i [] h = tt
outs_within n gates i (o ∷ os) h =
    all-cond (λ w. w < gates) (eqb i o.party) o.wire (out_wires_of i os)
    (λ e. ltb-true o.wire gates (both_true (between 1 n o.party) (ltb o.wire gates) (h 0 (omega arith))).1)
    (outs_within n gates i os (λ k l. h (suc k) (omega arith)))

module _ (plan : Plan) (valid : Valid plan) where
  pub out-wires-within : (i : ℕ) → All (λ w. w < length plan.gates) (out_wires plan i)
  unfolding out_wires
  out-wires-within i = outs_within (party_count plan) (length plan.gates) i plan.outs valid.outs

  module _ (xs cs ts : List ℕ) (tf : List (ℕ → ℕ)) where
    pub sends-outs : (taken : ℕ → List ℕ) → Sends plan xs cs ts tf SendOuts taken
    unfolding send_at table_mail frontier right_at
    sends-outs taken shares triples holds i from1 upto =
        mail_rows plan (λ j. get_or (send_at plan j SendOuts (own_inputs plan j xs) (own_coins plan j cs) (triples j) (shares j) (taken j)) (i - 1) [])
        (λ x. map (λ w. wire_at (share_table plan xs cs tf) w x) (out_wires plan i))
        (λ j l m.
        at-party plan i from1 upto (λ r. map (λ w. get_or (shares j) w 0) (out_wires plan r)) []
        ∙ map-all (λ w. get_or (shares j) w 0) (λ w. wire_at (share_table plan xs cs tf) w (point_of plan j)) (out_wires plan i)
        (all_map (λ w. w < length plan.gates) (λ w. get_or (shares j) w 0 ≡ wire_at (share_table plan xs cs tf) w (point_of plan j)) (out_wires plan i) (λ w q. (holds j l m).known.below w q q) (out-wires-within i)))

    pub learns-outs : Learns plan xs cs ts tf SendOuts
    unfolding learnt resume_at spend_from set_all frontier
    learns-outs i from1 upto shares triples h = h
