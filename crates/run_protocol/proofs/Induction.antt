-- A run by induction over the list of steps, once for all kinds of step: what a kind has to show is the record Laws.
--     Laws                  each step sends the mail that is expected of it, and its mail brings each party to the next step
--     calls_are, mail-is    then every call of the run takes and leaves what is expected
-- Assumes nothing.
use mathlib.Core.Path.{◌≡◌, refl, ap, ap₂, ◌∙◌}
use mathlib.Core.List.{List, [], ◌∷◌, map, flat_map}
use Prim.Native.Nat.{ℕ, zero, suc, ◌-◌, ◌<◌, ◌≤◌}
use native.Mathlib.Omega.{arith}
use borrow.Author.Tests.{lt-ltb}
use lib.ListN.{length, get_or, replicate}
use Rattle.sharing_laws.proofs.Lists.{map-all, flat_map-nil, flat_map-map}
use Rattle.plan.specs.declared.Step.{Step}
use Rattle.plan.specs.declared.Step.TheVariants.{DealInputs}
use Rattle.plan.proofs.Parties.{each-party, at-party}
use Rattle.plan.specs.Plans.{Plan, party_count, parties, own_inputs, own_coins, own_triples, steps, step_at, last_call}
use Rattle.seat_messages.specs.Messages.{Called, nothing, learn_from, spend_from, learn, spend, send_at, call_with, call}
use Rattle.run_protocol.specs.Rounds.{fresh, no_call, call_of, mail_to, next_call, next_round, after}

nothing_in : (l : List ℕ) (k : ℕ) → ◌≡◌ {A = List ℕ} (get_or (map (λ x. []) l) k []) []
nothing_in [] k = refl
nothing_in (x ∷ l) zero = refl
nothing_in (x ∷ l) (suc k) = nothing_in l k

pub nothing_to : (plan : Plan) (k : ℕ) → get_or (nothing plan) k [] ≡ []
unfolding nothing
nothing_to plan k = nothing_in plan.points k

-- ---- what is expected of a run: the mail of each step to each party, and what a party holds when it sends a step
module _ (plan : Plan) (xs cs ts : List ℕ) (mail : ℕ → Step → List ℕ) (Holds : ℕ → Step → List ℕ → List ℕ → Type 0) where
  -- the mail that call number k takes
  unfoldable pub taken : ℕ → ℕ → List ℕ
  taken zero i = []
  taken (suc k) i = mail i (step_at plan k)

  -- what party i's call number k sends with, when all mail before it was as expected
  unfoldable pub triples_at : ℕ → ℕ → List ℕ
  triples_at zero i = own_triples plan i ts
  triples_at (suc k) i = spend_from plan (step_at plan k) (triples_at k i)

  unfoldable pub shares_at : ℕ → ℕ → List ℕ
  shares_at zero i = replicate (length plan.gates) 0
  shares_at (suc k) i = learn_from plan (step_at plan k) (triples_at k i) (shares_at k i) (mail i (step_at plan k))

  unfoldable pub called : ℕ → ℕ → Called
  called k i = call_with plan i k (own_inputs plan i xs) (own_coins plan i cs) (triples_at k i) (shares_at k i) (taken k i)

  pub record Laws : Type 0 where
    pub first : (i : ℕ) → 1 ≤ i → i ≤ party_count plan → Holds i DealInputs (replicate (length plan.gates) 0) (own_triples plan i ts)
    -- where all parties hold what they should, the step's mail is as expected
    pub sends :
        (k : ℕ) → k < last_call plan → (shares triples : ℕ → List ℕ)
        → ((j : ℕ) → 1 ≤ j → j ≤ party_count plan → Holds j (step_at plan k) (shares j) (triples j))
        → (i : ℕ) → 1 ≤ i → i ≤ party_count plan
        → flat_map (λ j. get_or (send_at plan j (step_at plan k) (own_inputs plan j xs) (own_coins plan j cs) (triples j) (shares j) (taken k j)) (i - 1) []) (parties plan)
        ≡ mail i (step_at plan k)
    -- what a party learns from it is what it should hold for the next step
    pub learns :
        (k : ℕ) → suc k < last_call plan → (i : ℕ) → 1 ≤ i → i ≤ party_count plan → (shares triples : List ℕ)
        → Holds i (step_at plan k) shares triples
        → Holds i (step_at plan (suc k)) (learn_from plan (step_at plan k) triples shares (mail i (step_at plan k))) (spend_from plan (step_at plan k) triples)

  module _ (laws : Laws) where
    pub holds : (k : ℕ) → k < last_call plan → (i : ℕ) → 1 ≤ i → i ≤ party_count plan → Holds i (step_at plan k) (shares_at k i) (triples_at k i)
    unfolding shares_at triples_at step_at steps
    holds zero l i from1 upto = laws.first i from1 upto
    holds (suc k) l i from1 upto = laws.learns k l i from1 upto (shares_at k i) (triples_at k i) (holds k (omega arith) i from1 upto)

    -- the mail of step k, once its calls are as expected
    mail-of : (k : ℕ) → k < last_call plan → after plan xs cs ts (suc k) ≡ map (called k) (parties plan)
        → (i : ℕ) → 1 ≤ i → i ≤ party_count plan → mail_to i (after plan xs cs ts (suc k)) ≡ mail i (step_at plan k)
    unfolding mail_to called call_with
    mail-of k l e i from1 upto =
        ap (mail_to i) e
        ∙ flat_map-map (λ c. get_or c.sent (i - 1) []) (called k) (parties plan)
        ∙ rw (lt-ltb k (last_call plan) l) (laws.sends k l (shares_at k) (triples_at k) (holds k l) i from1 upto)

    call-first : (i : ℕ) → 1 ≤ i → i ≤ party_count plan
        → next_call plan xs cs i (call_of i (after plan xs cs ts 0)) (mail_to i (after plan xs cs ts 0)) ≡ called 0 i
    unfolding after call_of mail_to next_call called call call_with fresh learn spend shares_at triples_at taken
    call-first i from1 upto =
        let none : mail_to i (after plan xs cs ts 0) ≡ [] =
        flat_map-map (λ c. get_or c.sent (i - 1) []) (fresh plan ts) (parties plan)
        ∙ flat_map-nil (λ j. get_or (nothing plan) (i - 1) []) (parties plan) (each-party plan (λ j. get_or (nothing plan) (i - 1) [] ≡ []) (λ j l h. nothing_to plan (i - 1))) in
        ap₂ (λ (c : Called) (m : List ℕ). next_call plan xs cs i c m) (at-party plan i from1 upto (fresh plan ts) no_call) none

    call_next : (k : ℕ) → k < last_call plan → after plan xs cs ts (suc k) ≡ map (called k) (parties plan)
        → (i : ℕ) → 1 ≤ i → i ≤ party_count plan
        → next_call plan xs cs i (call_of i (after plan xs cs ts (suc k))) (mail_to i (after plan xs cs ts (suc k))) ≡ called (suc k) i
    unfolding call_of next_call called call call_with learn spend shares_at triples_at taken
    call_next k l e i from1 upto =
        ap₂ (λ (c : Called) (m : List ℕ). next_call plan xs cs i c m)
        (ap (call_of i) e ∙ at-party plan i from1 upto (called k) no_call) (mail-of k l e i from1 upto)

    -- every party's call number k
    pub calls_are : (k : ℕ) → k ≤ last_call plan → after plan xs cs ts (suc k) ≡ map (called k) (parties plan)
    unfolding after next_round
    calls_are zero l = map-all (λ i. next_call plan xs cs i (call_of i (after plan xs cs ts 0)) (mail_to i (after plan xs cs ts 0))) (called 0) (parties plan)
        (each-party plan (λ i. next_call plan xs cs i (call_of i (after plan xs cs ts 0)) (mail_to i (after plan xs cs ts 0)) ≡ called 0 i) call-first)
    calls_are (suc k) l =
        let e : after plan xs cs ts (suc k) ≡ map (called k) (parties plan) = calls_are k (omega arith) in
        map-all (λ i. next_call plan xs cs i (call_of i (after plan xs cs ts (suc k))) (mail_to i (after plan xs cs ts (suc k)))) (called (suc k)) (parties plan)
        (each-party plan (λ i. next_call plan xs cs i (call_of i (after plan xs cs ts (suc k))) (mail_to i (after plan xs cs ts (suc k))) ≡ called (suc k) i) (call_next k (omega arith) e))

    -- and the mail of step k
    pub mail-is : (k : ℕ) → k < last_call plan → (i : ℕ) → 1 ≤ i → i ≤ party_count plan → mail_to i (after plan xs cs ts (suc k)) ≡ mail i (step_at plan k)
    mail-is k l i from1 upto = mail-of k l (calls_are k (omega arith)) i from1 upto
