-- On lists: no call of a run is refused, the results are the plan's own arithmetic, the elements sent are counted, and all triples are spent.
--     no_spends, none_taken              the triples of a plan that spends none
--     tabled, small, lies                triples from a preparing run, as the table has them
--     whole                              the theory's law of a whole run, for a plan that is read from a file
--     spent_at                           what a party's last call leaves of its triples
--     runs_right                         the claim
-- Assumes nothing.
use Rattle.std.proofs.Common.{Ok}
use Prim.Native.Nat.{ℕ, ◌-◌, ◌*◌, ◌≤◌, ◌<◌}
use mathlib.Core.Path.{◌≡◌, refl, sym, ap, ◌∙◌}
use mathlib.Core.Bool.{true}
use mathlib.Core.List.{List, [], ◌∷◌, map-map, flat_map}
use native.Mathlib.Omega.{arith}
use borrow.Author.Tests.{eq-eqb}
use lib.ListN.{length, get_or, replicate}
use Rattle.numbers.specs.Tables.{tab}
use Rattle.numbers.specs.Bytes.{limit, all_below}
use Rattle.field.proofs.Inverse.{pos}
use Rattle.plan.specs.Plans.{Plan, party_count, parties, kind_count, last_call, input_owners, input_count, coin_owners, coin_count, triple_numbers}
use Rattle.plan.specs.File.{same_bytes, plan_checks, plan_check, plan_of}
use Rattle.plan.proofs.Valid.{Valid, valid, sized}
use Rattle.plan.proofs.Parties.{at-party}
use Rattle.plan.proofs.Refusals.{both_pass}
use Rattle.import_text.proofs.Words.{same_self}
use Rattle.seat_messages.specs.Messages.{Called}
use Rattle.seat_messages.specs.Calls.{call_checks, call_answer}
use Rattle.run_protocol.specs.Rounds.{no_call, call_of, mail_to, next_call, next_round, after, at_end, triples_from}
use Rattle.run_protocol.specs.Ideal.{values}
use Rattle.run_protocol.specs.Preparing.{prepares}
use Rattle.run_protocol.specs.Settings.{Triples}
use Rattle.run_protocol.specs.Shares.{share_table}
use Rattle.run_protocol.specs.Tables.{Tabled}
use Rattle.run_protocol.proofs.Given.{tabled-prepared, prepared-below, prepared-count}
use Rattle.run_protocol.proofs.Sound.{RightTriples, none-off}
use Rattle.run_protocol.proofs.Accepted.{steps_few, Lies}
use Rattle.run_protocol.proofs.Whole.{Whole, prepared_right, whole_read}
use Rattle.demands.specs.Demands.{Given}
use Rattle.demands.specs.Lists.{RunsRight}
use Rattle.demands.specs.Further.{NoneTaken}

-- ---- a plan that is read from a file
pub small_prime : (bytes : List ℕ) → plan_check bytes ≡ Ok tt → (plan_of bytes).p ≤ limit
small_prime bytes passes = (sized bytes passes).few

pub few_calls : (bytes : List ℕ) → plan_check bytes ≡ Ok tt → last_call (plan_of bytes) < limit
few_calls bytes passes = omega (arith, (sized bytes passes).short, steps_few (plan_of bytes))

-- ---- a plan that spends no triple
pub empty : (ts : List ℕ) → length ts ≡ 0 → ts ≡ []
empty [] e = refl
empty (t ∷ ts) e = absurd (omega (arith, e))

-- the plan without gates prepares it
module _ (plan : Plan) (valid : Valid plan) (none : kind_count plan 7 ≡ 0) where
  abbrev no_gates : Plan
  no_gates = record { t = plan.t; p = plan.p; points = plan.points; gates = []; outs = []; rule = plan.rule }

  no_gates_prepares : prepares no_gates plan ≡ true
  unfolding prepares same_bytes flat_map tab
  no_gates_prepares = rw (eq-eqb plan.t plan.t refl, eq-eqb plan.p plan.p refl, same_self plan.points, none) refl

  pub no_spends : Triples plan []
  unfolding input_count input_owners coin_count coin_owners all_below triple_numbers flat_map
  no_spends = record {
    prep = no_gates;
    draws = [];
    coins = [];
    prepared = no_gates_prepares;
    draws_full = record { count = refl; small = refl };
    coins_full = record { count = refl; small = refl };
    are = sym (empty (triples_from no_gates [] []) (prepared-count plan valid no_gates no_gates_prepares [] [] refl ∙ rw none (omega arith)));
  }

pub none_taken : NoneTaken
none_taken bytes passes none = no_spends (plan_of bytes) (valid bytes passes) none

-- ---- a run of a plan, with triples from a preparing run
module _ (bytes xs coins ts : List ℕ) (given : Given bytes xs coins ts) where
  abbrev plan : Plan
  plan = plan_of bytes

  pub proper : Valid plan
  proper = valid bytes given.passes

  -- the shares of the preparing run's wires
  abbrev pub table : List (ℕ → ℕ)
  table = share_table given.triples.prep given.triples.draws given.triples.coins []

  pub tabled : Tabled plan ts table
  tabled = rw given.triples.are (tabled-prepared plan proper given.triples.prep given.triples.prepared given.triples.draws given.triples.coins given.triples.coins_full.count)

  right : RightTriples plan table (values given.triples.prep given.triples.draws)
  right = prepared_right plan proper given.triples.prep given.triples.prepared given.triples.draws given.triples.coins given.triples.draws_full.small

  pub small : all_below plan.p ts ≡ true
  small = rw given.triples.are (prepared-below plan proper given.triples.prep given.triples.prepared given.triples.draws given.triples.coins given.triples.coins_full.count (pos proper.prime))

  pub counted : length ts ≡ party_count plan * triple_numbers plan
  counted = rw given.triples.are (prepared-count plan proper given.triples.prep given.triples.prepared given.triples.draws given.triples.coins given.triples.coins_full.count)

  pub lies : Lies plan (share_table plan xs coins table)
  lies w l = none-off plan proper xs coins table (values given.triples.prep given.triples.draws) right given.inputs.small w

  pub whole : Whole plan xs coins ts
  whole = whole_read bytes xs coins ts given.passes given.inputs given.settings given.triples

  pub spent_at : (i : ℕ) → 1 ≤ i → i ≤ party_count plan → (call_of i (at_end plan xs coins ts)).triples ≡ replicate (triple_numbers plan) 0
  unfolding call_of at_end after next_round
  spent_at i from1 upto =
      let last : List Called = after plan xs coins ts (last_call plan) in
      let made : ℕ → Called = λ j. next_call plan xs coins j (call_of j last) (mail_to j last) in
      ap (λ (c : Called). c.triples) (at-party plan i from1 upto made no_call)
      ∙ sym (at-party plan i from1 upto (λ j. (made j).triples) [])
      ∙ ap (λ (l : List (List ℕ)). get_or l (i - 1) []) (sym (map-map (λ c. c.triples) made (parties plan)) ∙ whole.spent)
      ∙ at-party plan i from1 upto (λ j. replicate (triple_numbers plan) 0) []

pub runs_right : RunsRight
unfolding call_answer call_checks plan_check
runs_right bytes xs coins ts is-bytes given = record {
  accepted = λ k i l from1 upto room fits. both_pass (plan_checks bytes) _ given.passes ((whole bytes xs coins ts given).accepted k i l from1 upto room fits);
  correct = (whole bytes xs coins ts given).correct;
  sent = (whole bytes xs coins ts given).sent;
  spent = spent_at bytes xs coins ts given;
}
