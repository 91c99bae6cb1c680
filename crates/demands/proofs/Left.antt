-- What a preparing run leaves in the parties' states is the main run's triples.
--     triples_left      the claim
-- Assumes nothing.
use Prim.Native.Nat.{ℕ}
use mathlib.Core.Path.{◌≡◌, sym, ap, ◌∙◌}
use mathlib.Core.List.{List, [], flat_map}
use lib.ListN.{drop}
use Rattle.numbers.specs.Bytes.{width, bytes_of}
use Rattle.numbers.proofs.Bytes.{drop-bytes_of}
use Rattle.sharing_laws.proofs.Lists.{flat_map-all, flat_map-map}
use Rattle.plan.specs.Plans.{Plan, parties, last_call}
use Rattle.plan.specs.File.{plan_of}
use Rattle.plan.proofs.Parties.{each-party}
use Rattle.seat_messages.specs.Messages.{Called}
use Rattle.run_protocol.specs.Rounds.{call_of, at_end, triples_from}
use Rattle.record_laws.proofs.Reading.{bytes-flat_map}
use Rattle.demands.specs.Apart as apart
use Rattle.demands.specs.Further.{TriplesLeft}
use Rattle.demands.proofs.Apart.{next-calls, last-state}
use Rattle.demands.proofs.Computed.{spends-none, given_alone}

-- all parties' states after the first number
states_left : (plan : Plan) (draws coins : List ℕ) → flat_map (λ i. drop 1 (call_of i (at_end plan draws coins [])).state) (parties plan) ≡ triples_from plan draws coins
unfolding triples_from at_end
states_left plan draws coins =
    let state : Called → List ℕ = λ c. drop 1 c.state in
    sym (ap (flat_map state) (next-calls plan draws coins [] (last_call plan)) ∙ flat_map-map state (λ i. call_of i (at_end plan draws coins [])) (parties plan))

pub triples_left : TriplesLeft
triples_left prep bytes draws coins lent is-bytes passes shape inputs settings room =
    let plan : Plan = plan_of prep in
    flat_map-all (λ i. drop width (apart.answer_of i (apart.run prep draws coins [] lent (last_call plan))).state) (λ i. bytes_of (drop 1 (call_of i (at_end plan draws coins [])).state)) (parties plan)
    (each-party plan _
    (λ i from1 upto.
    ap (drop width) (last-state prep draws coins [] lent is-bytes (given_alone prep draws coins passes (spends-none plan (plan_of bytes) shape) inputs settings) room i from1 upto)
    ∙ drop-bytes_of 1 (call_of i (at_end plan draws coins [])).state))
    ∙ sym (bytes-flat_map (λ i. drop 1 (call_of i (at_end plan draws coins [])).state) (parties plan))
    ∙ ap bytes_of (states_left plan draws coins)
