-- A run as a whole, for every kind of gate and both rules.
--     Whole                          no call is refused, the results are the plan's own arithmetic, the counts, and all triples are spent
--     whole                          it holds with any triples that are right
--     whole_alone, whole_prepared    with no triples, where no gate spends one; and with those of a preparing run
--     preparing_right, prepared_right    these are right
--     whole_read, accepted_read, view_read     for a plan that is read from a file
-- Assumes nothing.
use Rattle.std.proofs.Common.{Ok}
use mathlib.Core.Path.{◌≡◌, refl, sym, subst, ◌∙◌}
use mathlib.Core.Bool.{true}
use mathlib.Core.List.{List, [], map, flat_map}
use Prim.Native.Nat.{ℕ, ◌*◌, ◌≤◌}
use lib.ListN.{length, replicate}
use Rattle.numbers.specs.Bytes.{width, bytes_of, all_below}
use Rattle.field.proofs.Inverse.{pos}
use Rattle.sharing_laws.specs.Interp.{All}
use Rattle.plan.specs.declared.Rule.{Rule}
use Rattle.plan.specs.Refusals.{first_of}
use Rattle.plan.specs.Plans.{Plan, party_count, parties, kind_count, own_inputs, own_coins, triple_numbers, last_call, written_count, sent_count}
use Rattle.plan.specs.File.{plan_checks, plan_check, plan_of}
use Rattle.plan.proofs.Refusals.{both_pass}
use Rattle.plan.proofs.Valid.{Valid, valid, Sized, sized}
use Rattle.seat_messages.specs.Calls.{party_checks, call_checks, call_answer}
use Rattle.run_protocol.specs.Rounds.{call_of, mail_to, after, at_end, results, view, sent_all, view_count}
use Rattle.run_protocol.specs.Ideal.{values, granted}
use Rattle.run_protocol.specs.Shares.{share_table}
use Rattle.run_protocol.specs.Tables.{table_view_of, Tabled, triples_of}
use Rattle.run_protocol.specs.Preparing.{preparing, prepares}
use Rattle.run_protocol.specs.Settings.{Inputs, Coins, Triples}
use Rattle.run_protocol.proofs.Runs.{spent, results-table, views-table}
use Rattle.run_protocol.proofs.Counts.{sent_all_lem}
use Rattle.run_protocol.proofs.ViewCounts.{view-count}
use Rattle.run_protocol.proofs.Accepted.{run_accepted}
use Rattle.run_protocol.proofs.Sound.{RightTriples, no_triples, shared, none-off, results-right}
use Rattle.run_protocol.proofs.Prepared.{is-preparing, preparing-valid, triple-values, triple-product}
use Rattle.run_protocol.proofs.Given.{tabled_list, tabled-none, tabled-prepared, prepared-below}

pub record Whole (plan : Plan) (xs coins ts : List ℕ) : Type 0 where
  -- no call of a run is refused
  pub accepted :
      (k i : ℕ) → k ≤ last_call plan → 1 ≤ i → i ≤ party_count plan → (room : ℕ) → room ≡ width * written_count plan i k
      → first_of (party_checks plan i (bytes_of (own_inputs plan i xs)) (bytes_of (own_coins plan i coins)) (bytes_of (call_of i (after plan xs coins ts k)).triples) (bytes_of (call_of i (after plan xs coins ts k)).state) (bytes_of (mail_to i (after plan xs coins ts k))) room)
      ≡ Ok tt
  -- each party's results are the plan's own arithmetic
  pub correct : (i : ℕ) → 1 ≤ i → i ≤ party_count plan → results plan xs coins ts i ≡ granted plan xs i
  -- the elements sent are the documents' count, and a coalition's view has its own
  pub sent : sent_all plan xs coins ts ≡ sent_count plan
  pub seen : (ms : List ℕ) → All (λ i. (1 ≤ i) × (i ≤ party_count plan)) ms → length (view plan ms xs coins ts) ≡ view_count plan ms
  -- every triple is spent
  pub spent : map (λ c. c.triples) (at_end plan xs coins ts) ≡ map (λ i. replicate (triple_numbers plan) 0) (parties plan)

module _ (plan : Plan) (valid : Valid plan) (sizes : Sized plan) (xs coins : List ℕ) (inputs : Inputs plan xs) (setting : Coins plan coins) where
  -- with any triples that are right: tf and us are their shares and their values
  pub whole : (ts : List ℕ) (tf : List (ℕ → ℕ)) (us : List ℕ) → Tabled plan ts tf → RightTriples plan tf us → all_below plan.p ts ≡ true → Whole plan xs coins ts
  whole ts tf us tabled right small = record {
    accepted =
        λ k i l from1 upto room fits.
        run_accepted plan valid sizes xs coins ts tf setting.count tabled small (λ w h. none-off plan valid xs coins tf us right inputs.small w)
        i from1 upto inputs.small setting.small k l room fits;
    correct =
        λ i from1 upto.
        results-table plan valid xs coins ts tf setting.count tabled i from1 upto ∙ results-right plan valid xs coins tf us right inputs.small i;
    sent = sent_all_lem plan valid xs coins ts tf setting.count tabled;
    seen = view-count plan valid xs coins ts tf setting.count tabled;
    spent = spent plan valid xs coins ts tf setting.count tabled;
  }

  pub whole_alone : kind_count plan 7 ≡ 0 → Whole plan xs coins []
  whole_alone none = whole [] [] [] (tabled-none plan [] none) (no_triples plan) (unfold all_below in refl)

-- the triples of a preparing run are right
pub preparing_right :
    (plan : Plan) → Valid plan → (rule : Rule) (d q : List ℕ) → all_below plan.p d ≡ true
    → RightTriples plan (share_table (preparing plan rule) d q []) (values (preparing plan rule) d)
preparing_right plan valid rule d q small = record {
  shared = shared (preparing plan rule) (preparing-valid plan rule valid) d q [] [] (no_triples (preparing plan rule)) small;
  product = λ k. rw (triple-values plan rule d) (triple-product plan.p (party_count plan) (kind_count plan 7) d k);
}

pub prepared_right :
    (plan : Plan) → Valid plan → (prep : Plan) → prepares prep plan ≡ true → (d q : List ℕ) → all_below prep.p d ≡ true
    → RightTriples plan (share_table prep d q []) (values prep d)
prepared_right plan valid prep e d q small =
    let is : prep ≡ preparing plan prep.rule = is-preparing prep plan e in
    subst (λ (r : Plan). RightTriples plan (share_table r d q []) (values r d)) (sym is)
    (preparing_right plan valid prep.rule d q (subst (λ (r : Plan). all_below r.p d ≡ true) is small))

pub whole_prepared :
    (plan : Plan) → Valid plan → Sized plan → (xs coins ts : List ℕ) → Inputs plan xs → Coins plan coins → Triples plan ts → Whole plan xs coins ts
whole_prepared plan valid sizes xs coins ts inputs setting t =
    whole plan valid sizes xs coins inputs setting ts (share_table t.prep t.draws t.coins []) (values t.prep t.draws)
    (rw t.are (tabled-prepared plan valid t.prep t.prepared t.draws t.coins t.coins_full.count))
    (prepared_right plan valid t.prep t.prepared t.draws t.coins t.draws_full.small)
    (rw t.are (prepared-below plan valid t.prep t.prepared t.draws t.coins t.coins_full.count (pos valid.prime)))

-- ---- for a plan that is read from a file, with triples from a preparing run
module _ (bytes xs coins ts : List ℕ) (h : plan_check bytes ≡ Ok tt) (inputs : Inputs (plan_of bytes) xs) (setting : Coins (plan_of bytes) coins) where
  module _ (triples : Triples (plan_of bytes) ts) where
    pub whole_read : Whole (plan_of bytes) xs coins ts
    whole_read = whole_prepared (plan_of bytes) (valid bytes h) (sized bytes h) xs coins ts inputs setting triples

    -- no call of its run is refused
    pub accepted_read :
        (k i : ℕ) → k ≤ last_call (plan_of bytes) → 1 ≤ i → i ≤ party_count (plan_of bytes) → (room : ℕ) → room ≡ width * written_count (plan_of bytes) i k
        → call_answer bytes i (bytes_of (own_inputs (plan_of bytes) i xs)) (bytes_of (own_coins (plan_of bytes) i coins)) (bytes_of (call_of i (after (plan_of bytes) xs coins ts k)).triples) (bytes_of (call_of i (after (plan_of bytes) xs coins ts k)).state)
        (bytes_of (mail_to i (after (plan_of bytes) xs coins ts k))) room
        ≡ Ok tt
    unfolding call_answer call_checks plan_check
    accepted_read k i l from1 upto room fits = both_pass (plan_checks bytes) _ h (whole_read.accepted k i l from1 upto room fits)

  -- with any triples, a coalition's view of it is that of the table
  pub view_read :
      length ts ≡ party_count (plan_of bytes) * triple_numbers (plan_of bytes) → (ms : List ℕ) → All (λ i. (1 ≤ i) × (i ≤ party_count (plan_of bytes))) ms
      → view (plan_of bytes) ms xs coins ts ≡ flat_map (table_view_of (plan_of bytes) xs coins (triples_of (plan_of bytes) ts)) ms
  view_read full =
      views-table (plan_of bytes) (valid bytes h) xs coins ts (triples_of (plan_of bytes) ts) setting.count
      (tabled_list (plan_of bytes) (valid bytes h) ts full)
