-- Parties run apart, on lent bytes and with mail cut from what the calls wrote, get what the run of the definitions gives.
--     answer_is, reached                        every call's answer, on any triples, and the bytes that it takes
--     runs                                      every call's answer, state and buffer, with triples from a preparing run
--     mail-is                                   the mail of every round
--     demand2                                   the claim: the results, the triples spent, the bench's view byte for byte, the elements sent
-- Assumes nothing.
use Rattle.std.proofs.Common.{Ok}
use Prim.Native.Nat.{ℕ, zero, suc, ◌-◌, ◌*◌, ◌<◌, ◌≤◌}
use mathlib.Core.Path.{◌≡◌, refl, sym, ap, ap₂, ◌∙◌}
use mathlib.Core.Logic.{◌≢◌}
use mathlib.Core.Bool.{true}
use mathlib.Core.List.{List, [], ◌∷◌, ◌++◌, map, flat_map}
use native.Mathlib.Omega.{arith}
use borrow.Author.Tests.{lt-ltb, eq-eqb, ne_eqb}
use lib.ListN.{length, get_or, replicate}
use Rattle.numbers.specs.Tables.{tab}
use Rattle.numbers.specs.Bytes.{width, limit, numbers, bytes_of, all_below}
use Rattle.numbers.proofs.Bytes.{length-bytes_of, bytes_of-nil, bytes_of-append}
use Rattle.field.proofs.Inverse.{pos}
use Rattle.sharing_laws.proofs.Alls.{all-tab}
use Rattle.sharing_laws.proofs.Lists.{map-all, flat_map-all, flat_map-nil, flat_map-map}
use Rattle.plan.specs.Refusals.{Checked}
use Rattle.plan.proofs.Refusals.{and_then_passed, first_of-append}
use Rattle.plan.specs.Plans.{Plan, party_count, parties, last_call, input_owners, coin_owners, own_of, own_inputs, own_coins, own_triples, triple_numbers, written_count, sent_count}
use Rattle.plan.specs.File.{plan_checks, plan_check, plan_of}
use Rattle.plan.proofs.Valid.{valid, sized}
use Rattle.plan_coalition.specs.Coalitions.{members, set_ok}
use Rattle.seat_messages.specs.Messages.{Called, nothing, call, call_with}
use Rattle.seat_messages.specs.Calls.{opening_check, call_checks, call_answer, called_on, state_after, triples_after, out_after, written}
use Rattle.run_protocol.specs.Rounds.{fresh, no_call, call_of, mail_to, next_call, next_round, after, at_end, results, mails, view_of, view, sent_in, sent_before, sent_all}
use Rattle.run_protocol.proofs.Induction.{nothing_to}
use Rattle.plan.proofs.Parties.{each-party, at-party}
use Rattle.run_protocol.proofs.Counts.{sent-end}
use Rattle.run_protocol.proofs.Accepted.{Taken, run_taken, run_checked, opens_none, state_back, back, own_below}
use Rattle.run_protocol.specs.Tables.{Tabled, triples_of}
use Rattle.run_protocol.proofs.Given.{tabled_list}
use Rattle.record_laws.proofs.Reading.{bytes-flat_map}
use Rattle.demands.specs.Apart.{part_count, part_of, Answered, unanswered, answered, answer_of, mail_from, apart, run, held_by, wrote_in, wrote_before}
use Rattle.demands.specs.Demands.{Given, Right, Demand2}
use Rattle.demands.specs.Further.{Filled}
use Rattle.demands.proofs.Second.{small_prime, few_calls, table, tabled, spent_at, runs_right}
use Rattle.demands.proofs.Third.{each_member}
use Rattle.demands.proofs.Benches.{kept, filled_by, bench_passes, view-written, triples_spent}
use Rattle.demands.proofs.Parts.{zero_bytes, part_sent}

-- an answer and three buffers
abbrev made : Checked → List ℕ → List ℕ → List ℕ → Answered
made a q s o = record { answer = a; triples = q; state = s; out = o }

same_made : (a b : Checked) (q r s t o u : List ℕ) → a ≡ b → q ≡ r → s ≡ t → o ≡ u → made a q s o ≡ made b r t u
same_made a b q r s t o u e f g h = ap₂ (λ (x : Checked) (y : List ℕ). made x y s o) e f ∙ ap₂ (λ (x y : List ℕ). made b r x y) g h

-- ---- the run of the definitions, call by call
module _ (plan : Plan) (xs cs ts : List ℕ) where
  -- what party i's call number k takes and leaves
  abbrev held : ℕ → ℕ → Called
  held k i = call_of i (after plan xs cs ts k)

  abbrev mailed : ℕ → ℕ → List ℕ
  mailed k i = mail_to i (after plan xs cs ts k)

  next-call : (k i : ℕ) → 1 ≤ i → i ≤ party_count plan → held (suc k) i ≡ next_call plan xs cs i (held k i) (mailed k i)
  unfolding call_of after next_round
  next-call k i l m = at-party plan i l m (λ j. next_call plan xs cs j (call_of j (after plan xs cs ts k)) (mail_to j (after plan xs cs ts k))) no_call

  pub next-calls : (k : ℕ) → after plan xs cs ts (suc k) ≡ map (held (suc k)) (parties plan)
  unfolding after next_round
  next-calls k = sym (map-all _ _ (parties plan) (each-party plan _ (λ i l m. next-call k i l m)))

  mail-parts : (k i : ℕ) → mailed (suc k) i ≡ flat_map (λ j. get_or (held (suc k) j).sent (i - 1) []) (parties plan)
  unfolding mail_to
  mail-parts k i = ap (flat_map (λ c. get_or c.sent (i - 1) [])) (next-calls k) ∙ flat_map-map (λ c. get_or c.sent (i - 1) []) (held (suc k)) (parties plan)

  written-sent : (k i : ℕ) → k ≢ last_call plan → written plan k (held (suc k) i) ≡ flat_map (λ l. l) (held (suc k) i).sent
  unfolding written
  written-sent k i ne = rw (ne_eqb k (last_call plan) ne)

  written-results : (i : ℕ) → written plan (last_call plan) (held (suc (last_call plan)) i) ≡ results plan xs cs ts i
  unfolding written results at_end
  written-results i = rw (eq-eqb (last_call plan) (last_call plan) refl)

  -- what a party's call number k leaves, as bytes
  unfoldable left : ℕ → ℕ → Answered
  left k i = made (Ok tt) (bytes_of (held (suc k) i).triples) (bytes_of (held (suc k) i).state) (bytes_of (written plan k (held (suc k) i)))

  module _ (k : ℕ) (rs : List Answered) (e : rs ≡ map (left k) (parties plan)) (i : ℕ) (l : 1 ≤ i) (m : i ≤ party_count plan) where
    left_at : answer_of i rs ≡ left k i
    unfolding answer_of
    left_at = ap (λ (r : List Answered). get_or r (i - 1) unanswered) e ∙ at-party plan i l m (left k) unanswered

    left_out : (answer_of i rs).out ≡ bytes_of (written plan k (held (suc k) i))
    unfolding left
    left_out = ap (λ (c : Answered). c.out) left_at

    left-triples : (answer_of i rs).triples ≡ bytes_of (held (suc k) i).triples
    unfolding left
    left-triples = ap (λ (c : Answered). c.triples) left_at

    left-state : (answer_of i rs).state ≡ bytes_of (held (suc k) i).state
    unfolding left
    left-state = ap (λ (c : Answered). c.state) left_at

    left_passed : (answer_of i rs).answer ≡ Ok tt
    unfolding left
    left_passed = ap (λ (c : Answered). c.answer) left_at

  -- the calls are numbered
  module _ (numbered : (k i : ℕ) → 1 ≤ i → i ≤ party_count plan → k ≤ last_call plan → get_or (held k i).state 0 0 ≡ k) where
    part-is : (k j i : ℕ) → k < last_call plan → 1 ≤ j → j ≤ party_count plan → 1 ≤ i → i ≤ party_count plan
        → part_of (part_count plan j k) i (bytes_of (flat_map (λ l. l) (held (suc k) j).sent)) ≡ bytes_of (get_or (held (suc k) j).sent (i - 1) [])
    unfolding next_call call call_with
    part-is k j i l a b from1 upto =
        rw (next-call k j a b, numbered k j a b (omega arith), lt-ltb k (last_call plan) l) (part_sent plan j k i from1 upto _ _ _ _ _)

    -- the mail of round k
    mail-is : (k : ℕ) → k < last_call plan → (rs : List Answered) → rs ≡ map (left k) (parties plan) → (i : ℕ) → 1 ≤ i → i ≤ party_count plan
        → mail_from plan k rs i ≡ bytes_of (mailed (suc k) i)
    unfolding mail_from
    mail-is k l rs e i from1 upto =
        flat_map-all (λ j. part_of (part_count plan j k) i (answer_of j rs).out) (λ j. bytes_of (get_or (held (suc k) j).sent (i - 1) [])) (parties plan)
        (each-party plan _
        (λ j a b. ap (part_of (part_count plan j k) i) (left_out k rs e j a b ∙ ap bytes_of (written-sent k j (λ q. omega (arith, l, q)))) ∙ part-is k j i l a b from1 upto))
        ∙ sym (bytes-flat_map (λ j. get_or (held (suc k) j).sent (i - 1) []) (parties plan))
        ∙ ap bytes_of (sym (mail-parts k i))

-- ---- the calls on bytes, on any triples
module _ (bytes xs cs ts : List ℕ) (lent : ℕ → ℕ → List ℕ) (filled : Filled bytes xs cs ts) (room : (i k : ℕ) → length (lent i k) ≡ width * written_count (plan_of bytes) i k) where
  abbrev plan : Plan
  plan = plan_of bytes

  few : plan.p ≤ limit
  few = small_prime bytes filled.passes

  all_tabled : Tabled plan ts (triples_of plan ts)
  all_tabled = tabled_list plan (valid bytes filled.passes) ts filled.triples.count

  taken : (k i : ℕ) → k ≤ last_call plan → 1 ≤ i → i ≤ party_count plan → Taken plan i k (held plan xs cs ts k i).triples (held plan xs cs ts k i).state (mailed plan xs cs ts k i)
  taken k i l from1 upto =
      run_taken plan (valid bytes filled.passes) (sized bytes filled.passes) xs cs ts (triples_of plan ts) filled.settings.count all_tabled filled.triples.small i from1 upto k l

  numbered : (k i : ℕ) → 1 ≤ i → i ≤ party_count plan → k ≤ last_call plan → get_or (held plan xs cs ts k i).state 0 0 ≡ k
  numbered k i from1 upto l = (taken k i l from1 upto).number

  state-read : (k i : ℕ) → k ≤ last_call plan → 1 ≤ i → i ≤ party_count plan → numbers (bytes_of (held plan xs cs ts k i).state) ≡ (held plan xs cs ts k i).state
  state-read k i l from1 upto = state_back plan few (few_calls bytes filled.passes) i k l _ _ _ (taken k i l from1 upto)

  triples-read : (k i : ℕ) → k ≤ last_call plan → 1 ≤ i → i ≤ party_count plan → numbers (bytes_of (held plan xs cs ts k i).triples) ≡ (held plan xs cs ts k i).triples
  triples-read k i l from1 upto = back plan.p (held plan xs cs ts k i).triples few (taken k i l from1 upto).triples_below

  abbrev own : ℕ → List ℕ
  own i = bytes_of (own_inputs plan i xs)

  abbrev coined : ℕ → List ℕ
  coined i = bytes_of (own_coins plan i cs)

  abbrev spendable : ℕ → List ℕ
  spendable i = bytes_of (own_triples plan i ts)

  -- a call on the run's bytes is the run's call
  call-is : (k i : ℕ) → k ≤ last_call plan → 1 ≤ i → i ≤ party_count plan
      → called_on bytes i (own i) (coined i) (bytes_of (held plan xs cs ts k i).triples) (bytes_of (held plan xs cs ts k i).state) (bytes_of (mailed plan xs cs ts k i)) ≡ held plan xs cs ts (suc k) i
  unfolding called_on next_call own_inputs own_coins
  call-is k i l from1 upto =
      let z = pos (valid bytes filled.passes).prime in
      rw (
        back plan.p (own_of i (input_owners plan) xs) few (own_below plan z i (input_owners plan) xs filled.inputs.small),
        back plan.p (own_of i (coin_owners plan) cs) few (own_below plan z i (coin_owners plan) cs filled.settings.small),
        triples-read k i l from1 upto,
        state-read k i l from1 upto,
        back plan.p (mailed plan xs cs ts k i) few (taken k i l from1 upto).mail_below,
      )
      (sym (next-call plan xs cs ts k i from1 upto))

  -- a party's call number k on them, and its answer
  abbrev on_run : ℕ → ℕ → Answered
  on_run k i = answered bytes i (own i) (coined i) (bytes_of (held plan xs cs ts k i).triples) (bytes_of (held plan xs cs ts k i).state) (bytes_of (mailed plan xs cs ts k i)) (lent i k)

  -- it is refused with 20 alone, and before the last call not at all
  pub answer_is : (k i : ℕ) → k ≤ last_call plan → 1 ≤ i → i ≤ party_count plan → (on_run k i).answer ≡ opening_check plan i k (mailed plan xs cs ts k i)
  unfolding answered call_answer call_checks plan_check
  answer_is k i l from1 upto =
      first_of-append (plan_checks bytes) _
      ∙ and_then_passed _ _ filled.passes
      ∙ run_checked plan (valid bytes filled.passes) (sized bytes filled.passes) xs cs ts (triples_of plan ts) filled.settings.count all_tabled filled.triples.small i from1 upto
      filled.inputs.small filled.settings.small k l (length (lent i k)) (room i k)

  step : (k i : ℕ) → k ≤ last_call plan → 1 ≤ i → i ≤ party_count plan → (on_run k i).answer ≡ Ok tt → on_run k i ≡ left plan xs cs ts k i
  unfolding answered left state_after triples_after out_after
  step k i l from1 upto a =
      let c = call-is k i l from1 upto in
      same_made _ (Ok tt) _ _ _ _ _ _ a
      (kept _ _ (bytes_of (held plan xs cs ts k i).triples) a ∙ ap (λ (d : Called). bytes_of d.triples) c)
      (kept _ _ (bytes_of (held plan xs cs ts k i).state) a ∙ ap (λ (d : Called). bytes_of d.state) c)
      (kept _ _ (lent i k) a
      ∙ ap₂ (λ (m : ℕ) (d : Called). bytes_of (written plan m d)) (ap (λ (s : List ℕ). get_or s 0 0) (state-read k i l from1 upto) ∙ numbered k i from1 upto l) c)

  -- what a party holds before its first call
  fresh-held : (i : ℕ) → 1 ≤ i → i ≤ party_count plan → held plan xs cs ts 0 i ≡ fresh plan ts i
  unfolding call_of after
  fresh-held i from1 upto = at-party plan i from1 upto (fresh plan ts) no_call

  first-mail : (i : ℕ) → mailed plan xs cs ts 0 i ≡ []
  unfolding after fresh mail_to
  first-mail i =
      flat_map-map (λ c. get_or c.sent (i - 1) []) (fresh plan ts) (parties plan)
      ∙ flat_map-nil (λ j. get_or (nothing plan) (i - 1) []) (parties plan) (each-party plan _ (λ j a b. nothing_to plan (i - 1)))

  start : (i : ℕ) → 1 ≤ i → i ≤ party_count plan
      → answered bytes i (own i) (coined i) (spendable i) (replicate (width * suc (length plan.gates)) 0) [] (lent i 0) ≡ on_run 0 i
  unfolding fresh
  start i from1 upto =
      ap₂ (λ (s m : List ℕ). answered bytes i (own i) (coined i) (spendable i) s m (lent i 0)) (sym (zero_bytes (suc (length plan.gates)))) (sym (ap bytes_of (first-mail i) ∙ bytes_of-nil))
      ∙ ap (λ (c : Called). answered bytes i (own i) (coined i) (bytes_of c.triples) (bytes_of c.state) (bytes_of (mailed plan xs cs ts 0 i)) (lent i 0)) (sym (fresh-held i from1 upto))

  next : (k i : ℕ) (rs : List Answered) → rs ≡ map (left plan xs cs ts k) (parties plan) → k < last_call plan → 1 ≤ i → i ≤ party_count plan
      → answered bytes i (own i) (coined i) (answer_of i rs).triples (answer_of i rs).state (mail_from plan k rs i) (lent i (suc k)) ≡ on_run (suc k) i
  next k i rs e l from1 upto =
      ap₂ (λ (t s : List ℕ). answered bytes i (own i) (coined i) t s (mail_from plan k rs i) (lent i (suc k)))
      (left-triples plan xs cs ts k rs e i from1 upto) (left-state plan xs cs ts k rs e i from1 upto)
      ∙ ap (λ (m : List ℕ). answered bytes i (own i) (coined i) (bytes_of (held plan xs cs ts (suc k) i).triples) (bytes_of (held plan xs cs ts (suc k) i).state) m (lent i (suc k)))
      (mail-is plan xs cs ts numbered k l rs e i from1 upto)

  -- a round whose calls pass
  passed_round : (k : ℕ) → k ≤ last_call plan → ((i : ℕ) → 1 ≤ i → i ≤ party_count plan → (on_run k i).answer ≡ Ok tt)
      → map (on_run k) (parties plan) ≡ map (left plan xs cs ts k) (parties plan)
  passed_round k l a = map-all (on_run k) (left plan xs cs ts k) (parties plan) (each-party plan _ (λ i from1 upto. step k i l from1 upto (a i from1 upto)))

  pub early : (k i : ℕ) → k < last_call plan → 1 ≤ i → i ≤ party_count plan → (on_run k i).answer ≡ Ok tt
  early k i l from1 upto = answer_is k i (omega arith) from1 upto ∙ opens_none plan i k (mailed plan xs cs ts k i) l

  -- every party's call number k
  pub reached : (k : ℕ) → k ≤ last_call plan → run bytes xs cs ts lent k ≡ map (on_run k) (parties plan)
  unfolding apart
  reached zero l =
      map-all (λ i. answered bytes i (own i) (coined i) (spendable i) (replicate (width * suc (length plan.gates)) 0) [] (lent i 0)) (on_run 0) (parties plan)
      (each-party plan _ (λ i a b. start i a b))
  reached (suc k) l =
      map-all
      (λ i. answered bytes i (own i) (coined i) (answer_of i (run bytes xs cs ts lent k)).triples (answer_of i (run bytes xs cs ts lent k)).state (mail_from plan k (run bytes xs cs ts lent k) i) (lent i (suc k)))
      (on_run (suc k)) (parties plan)
      (each-party plan _
      (λ i a b. next k i (run bytes xs cs ts lent k) (reached k (omega arith) ∙ passed_round k (omega arith) (λ j c d. early k j (omega arith) c d)) (omega arith) a b))

  pub answer_at : (k i : ℕ) → k ≤ last_call plan → 1 ≤ i → i ≤ party_count plan → (answer_of i (run bytes xs cs ts lent k)).answer ≡ (on_run k i).answer
  unfolding answer_of
  answer_at k i l from1 upto =
      ap (λ (c : Answered). c.answer) (ap (λ (r : List Answered). get_or r (i - 1) unanswered) (reached k l) ∙ at-party plan i from1 upto (on_run k) unanswered)

-- ---- with triples from a preparing run
module _ (bytes xs cs ts : List ℕ) (lent : ℕ → ℕ → List ℕ) (is-bytes : all_below 256 bytes ≡ true) (given : Given bytes xs cs ts)
    (room : (i k : ℕ) → length (lent i k) ≡ width * written_count (plan_of bytes) i k) where
  abbrev its_plan : Plan
  its_plan = plan_of bytes

  filled_runs : Filled bytes xs cs ts
  filled_runs = filled_by bytes xs cs ts given

  counted_calls : (k i : ℕ) → 1 ≤ i → i ≤ party_count its_plan → k ≤ last_call its_plan → get_or (held its_plan xs cs ts k i).state 0 0 ≡ k
  counted_calls = numbered bytes xs cs ts lent filled_runs room

  runs : (k : ℕ) → k ≤ last_call its_plan → run bytes xs cs ts lent k ≡ map (left its_plan xs cs ts k) (parties its_plan)
  unfolding answered
  runs k l =
      reached bytes xs cs ts lent filled_runs room k l
      ∙ passed_round bytes xs cs ts lent filled_runs room k l (λ i from1 upto. (runs_right bytes xs cs ts is-bytes given).accepted k i l from1 upto (length (lent i k)) (room i k))

  -- the results that the last call writes
  last_out : (i : ℕ) → 1 ≤ i → i ≤ party_count its_plan → (answer_of i (run bytes xs cs ts lent (last_call its_plan))).out ≡ bytes_of (results its_plan xs cs ts i)
  last_out i from1 upto =
      left_out its_plan xs cs ts (last_call its_plan) (run bytes xs cs ts lent (last_call its_plan)) (runs (last_call its_plan) (omega arith)) i from1 upto ∙ ap bytes_of (written-results its_plan xs cs ts i)

  -- its state
  pub last-state : (i : ℕ) → 1 ≤ i → i ≤ party_count its_plan → (answer_of i (run bytes xs cs ts lent (last_call its_plan))).state ≡ bytes_of (call_of i (at_end its_plan xs cs ts)).state
  unfolding at_end
  last-state i from1 upto = left-state its_plan xs cs ts (last_call its_plan) (run bytes xs cs ts lent (last_call its_plan)) (runs (last_call its_plan) (omega arith)) i from1 upto

  -- and what it leaves of the triples
  last-triples : (i : ℕ) → 1 ≤ i → i ≤ party_count its_plan → (answer_of i (run bytes xs cs ts lent (last_call its_plan))).triples ≡ bytes_of (replicate (triple_numbers its_plan) 0)
  unfolding at_end
  last-triples i from1 upto =
      left-triples its_plan xs cs ts (last_call its_plan) (run bytes xs cs ts lent (last_call its_plan)) (runs (last_call its_plan) (omega arith)) i from1 upto
      ∙ ap bytes_of (spent_at bytes xs cs ts given i from1 upto)

  -- what a party held and received apart, as bytes
  pub held-apart : (i : ℕ) → 1 ≤ i → i ≤ party_count its_plan → bytes_of (view_of its_plan xs cs ts i) ≡ held_by bytes xs cs ts lent i
  unfolding view_of mails held_by
  held-apart i from1 upto =
      bytes_of-append (own_inputs its_plan i xs) _
      ∙ ap (λ (l : List ℕ). bytes_of (own_inputs its_plan i xs) ++ l)
      (bytes_of-append (own_coins its_plan i cs) _
      ∙ ap (λ (l : List ℕ). bytes_of (own_coins its_plan i cs) ++ l)
      (bytes_of-append (flat_map (λ k. mailed its_plan xs cs ts (suc k) i) (tab (λ k. k) (last_call its_plan))) (results its_plan xs cs ts i)
      ∙ ap₂ (λ (m r : List ℕ). m ++ r)
      (bytes-flat_map (λ k. mailed its_plan xs cs ts (suc k) i) (tab (λ k. k) (last_call its_plan))
      ∙ flat_map-all (λ k. bytes_of (mailed its_plan xs cs ts (suc k) i)) (λ k. mail_from its_plan k (run bytes xs cs ts lent k) i) (tab (λ k. k) (last_call its_plan))
      (all-tab _ (λ k. k) (last_call its_plan) (λ k l. sym (mail-is its_plan xs cs ts counted_calls k l (run bytes xs cs ts lent k) (runs k (omega arith)) i from1 upto))))
      (sym (last_out i from1 upto))))

  view-held : (set : ℕ) → set_ok its_plan set ≡ true → bytes_of (view its_plan (members set) xs cs ts) ≡ flat_map (held_by bytes xs cs ts lent) (members set)
  unfolding view
  view-held set ok =
      bytes-flat_map (view_of its_plan xs cs ts) (members set)
      ∙ flat_map-all (λ i. bytes_of (view_of its_plan xs cs ts i)) _ (members set) (each_member _ its_plan set ok (λ i a b e. held-apart i a b))

  -- the bytes written by the calls below the last
  wrote-in : (k : ℕ) (is : List ℕ) → k ≢ last_call its_plan → wrote_in (map (left its_plan xs cs ts k) is) ≡ width * sent_in (map (held its_plan xs cs ts (suc k)) is)
  unfolding wrote_in sent_in left
  wrote-in k [] ne = refl
  wrote-in k (i ∷ is) ne =
      omega (
        arith,
        wrote-in k is ne,
        length-bytes_of (written its_plan k (held its_plan xs cs ts (suc k) i)),
        ap (λ (l : List ℕ). length l) (written-sent its_plan xs cs ts k i ne),
      )

  wrote-before : (k : ℕ) → k ≤ last_call its_plan → wrote_before (run bytes xs cs ts lent) k ≡ width * sent_before its_plan xs cs ts k
  unfolding wrote_before sent_before
  wrote-before zero l = refl
  wrote-before (suc k) l =
      let w : wrote_in (run bytes xs cs ts lent k) ≡ width * sent_in (after its_plan xs cs ts (suc k)) =
      ap wrote_in (runs k (omega arith)) ∙ wrote-in k (parties its_plan) (λ q. omega (arith, q)) ∙ ap (λ (c : List Called). width * sent_in c) (sym (next-calls its_plan xs cs ts k)) in
      omega (arith, wrote-before k (omega arith), w)

  -- the last call sends nothing
  all-sent : wrote_before (run bytes xs cs ts lent) (last_call its_plan) ≡ width * sent_count its_plan
  unfolding sent_all sent_before
  all-sent =
      omega (
        arith,
        wrote-before (last_call its_plan) (omega arith),
        (runs_right bytes xs cs ts is-bytes given).sent,
        sent-end its_plan (valid bytes given.passes) xs cs ts (table bytes xs cs ts given) given.settings.count (tabled bytes xs cs ts given),
      )

  all_right : Right bytes xs cs ts lent
  all_right = record {
    accepted = λ k i l from1 upto. left_passed its_plan xs cs ts k (run bytes xs cs ts lent k) (runs k l) i from1 upto;
    results = λ i from1 upto. last_out i from1 upto ∙ ap bytes_of ((runs_right bytes xs cs ts is-bytes given).correct i from1 upto);
    spent = last-triples;
    bench = λ set view ok fits. (
      bench_passes bytes xs cs ts given set ok (length view) fits,
      view-written bytes xs cs ts given set ok view fits ∙ view-held set ok,
      triples_spent bytes xs cs ts given set ok (length view) fits,
    );
    sent = all-sent;
  }

pub demand2 : Demand2
demand2 bytes xs cs ts lent is-bytes given room = all_right bytes xs cs ts lent is-bytes given room
