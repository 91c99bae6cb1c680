-- What each way through the two readers says of its definition.
--     reading_all, checking_seat, reading_seat     what closes the needs of the readers
-- Assumes nothing.
use Rattle.std.proofs.Common.{Option, Some, None, Ok, Err}
use Prim.Native.Nat.{ℕ, suc, ◌+◌, ◌-◌, ◌*◌, ◌<◌, ◌≤◌}
use mathlib.Core.Path.{◌≡◌, refl, sym, ap, ap₂, ◌∙◌}
use mathlib.Core.Bool.{Bool, true, false}
use mathlib.Core.List.{List}
use native.Mathlib.Omega.{arith}
use borrow.Author.Rules.{rules}
use borrow.Author.Tests.{not-true, not-false, eqb-true, eq-eqb, ne_eqb}
use lib.Dec.{eqb}
use lib.ListN.{length, take, drop, length-drop}
use lib.Seq.{take_all}
use mir.Syntax.{w64}
use mir.Val.{Fits}
use Rattle.numbers.specs.Tables.{first_failing}
use Rattle.numbers.specs.Bytes.{width, number_at}
use Rattle.numbers.proofs.Searches.{nothing_passes}
use Rattle.numbers.proofs.Truth.{both_true}
use Rattle.plan.specs.declared.Header.{Header}
use Rattle.plan.specs.Refusals.{Checked}
use Rattle.plan.specs.declared.Refusal.{Refusal}
use Rattle.plan.specs.declared.Refusal.TheVariants as refusal
use Rattle.plan.specs.Refusals.{and_then, first_of, need}
use Rattle.plan.specs.Plans.{Plan, party_count, parties}
use Rattle.plan.specs.File.{between, found_none, plan_checks, plan_check, plan_of}
use Rattle.plan.specs.Planned.{Planned}
use Rattle.plan.proofs.Refusals.{and_then_passed, and_then_refused, and_then_end, first_of-append, need-true, need-false, passed_both, passed-need}
use Rattle.plan.proofs.Ranges.{contains_is}
use Rattle.plan.proofs.Planned.{plan_n, between-true}
use Rattle.seat_messages.specs.Calls.{unless_refused}
use Rattle.run_protocol.specs.Rounds.{view_count}
use Rattle.record_laws.specs.Records.{body_size, body_start, record_size, content_kept, record_ok, bench_read_checks, bench_read_answer, bodies_of, bench_read_after, body_of, plant_read_checks, plant_read_answer, plant_read_after}
use Rattle.record_laws.proofs.Sizes.{size_is}
use Rattle.record_laws.proofs.Reading.{ok-size}
use Rattle.record_read.specs.SeatChecks.{seat_checks, Listed}
use Rattle.record_read.proofs.Contents.{start_next, start_first, start_within}

-- ---- a refusal keeps what is lent
kept : (c : Checked) (q : Refusal) (new old : List ℕ) → c ≡ Err q → old ≡ unless_refused c new old
unfolding unless_refused
kept c q new old e = rw e

written : (c : Checked) (new old : List ℕ) → c ≡ (Ok tt) → new ≡ unless_refused c new old
unfolding unless_refused
written c new old e = rw e

-- ---- a record that is tiled
found_none_lem : (f : Option ℕ) → found_none f ≡ true → f ≡ None
unfolding found_none
found_none_lem (Some i) e = let z : ◌≡◌ {A = ℕ} 0 1 = cc in absurd (omega arith)
found_none_lem None e = refl

module _ (plan : Plan) (s : List ℕ) (e : record_ok plan s ≡ true) where
  each-kept : found_none (first_failing (content_kept plan s) (party_count plan)) ≡ true
  unfolding record_ok
  each-kept = (both_true (eqb (length s) (record_size plan)) _ e).1

  pub tiled-start : (k : ℕ) → k < party_count plan → number_at 4 s (8 * k) ≡ body_start plan k
  unfolding content_kept
  tiled-start k l =
      eqb-true (number_at 4 s (8 * k)) (body_start plan k)
      (both_true (eqb (number_at 4 s (8 * k)) (body_start plan k)) _ (nothing_passes (content_kept plan s) (party_count plan) (found_none_lem _ each-kept) k l)).0

  pub tiled-contents : 8 * party_count plan ≤ length s
  tiled-contents = omega (arith, ok-size plan s e, start_within plan 0 (omega arith), start_first plan)

  pub tiled-bodies : length s - 8 * party_count plan ≡ width * view_count plan (parties plan)
  tiled-bodies = omega (arith, ok-size plan s e, size_is plan)

-- ---- the bench's reader
module _ (bs s out : List ℕ) where
  all-parts :
      bench_read_answer bs s (length out)
      ≡ and_then (plan_check bs) (and_then (need refusal.Record (record_ok (plan_of bs) s)) (need refusal.BufferLength (eqb (length out) (width * view_count (plan_of bs) (parties (plan_of bs))))))
  unfolding bench_read_answer bench_read_checks plan_check first_of
  all-parts =
      first_of-append (plan_checks bs) _
      ∙ ap (λ (c : Checked). and_then (first_of (plan_checks bs)) (and_then (need refusal.Record (record_ok (plan_of bs) s)) c))
      (and_then_end (need refusal.BufferLength (eqb (length out) (width * view_count (plan_of bs) (parties (plan_of bs))))))

  module _ (q : Refusal) (e : plan_check bs ≡ Err q) where
    all-turned : bench_read_answer bs s (length out) ≡ Err q
    all-turned = all-parts ∙ and_then_refused (plan_check bs) _ q e

    pub all-no-plan : Err q ≡ bench_read_answer bs s (length out)
    all-no-plan = sym all-turned

    pub all-kept-no-plan : out ≡ bench_read_after bs s out
    unfolding bench_read_after
    all-kept-no-plan = kept _ q _ out all-turned

  module _ (h : Header) (pl : Planned bs h) where
    n-is : party_count (plan_of bs) ≡ h.n
    n-is = plan_n pl

    pub all-fits : Fits w64 (8 * h.n)
    all-fits = record { fits = omega (arith, pl.n-high) }

    module _ (t : Checked) (et : t ≡ need refusal.Record (record_ok (plan_of bs) s)) where
      module _ (q : Refusal) (y : t ≡ Err q) where
        all-untiled : bench_read_answer bs s (length out) ≡ Err q
        all-untiled = all-parts ∙ and_then_passed (plan_check bs) _ pl.passes ∙ and_then_refused _ _ q (sym et ∙ y)

        pub all-record : Err q ≡ bench_read_answer bs s (length out)
        all-record = sym all-untiled

        pub all-kept-record : out ≡ bench_read_after bs s out
        unfolding bench_read_after
        all-kept-record = kept _ q _ out all-untiled

      module _ (y : t ≡ (Ok tt)) where
        tiled : record_ok (plan_of bs) s ≡ true
        tiled = passed-need refusal.Record _ (sym et ∙ y)

        pub all-contents : 8 * h.n ≤ length s
        all-contents = omega (arith, tiled-contents (plan_of bs) s tiled, n-is)

        past : bench_read_answer bs s (length out) ≡ need refusal.BufferLength (eqb (length out) (length s - 8 * h.n))
        past =
            all-parts ∙ and_then_passed (plan_check bs) _ pl.passes ∙ and_then_passed _ _ (need-true refusal.Record _ tiled)
            ∙ ap (λ (k : ℕ). need refusal.BufferLength (eqb (length out) k)) (sym (tiled-bodies (plan_of bs) s tiled) ∙ ap (λ (n : ℕ). length s - 8 * n) n-is)

        module _ (n : length out ≡ length s - 8 * h.n → ⊥) where
          all_long : bench_read_answer bs s (length out) ≡ Err refusal.BufferLength
          all_long = past ∙ need-false refusal.BufferLength _ (ne_eqb (length out) (length s - 8 * h.n) n)

          pub all_short : Err refusal.BufferLength ≡ bench_read_answer bs s (length out)
          all_short = sym all_long

          pub all-kept-short : out ≡ bench_read_after bs s out
          unfolding bench_read_after
          all-kept-short = kept _ refusal.BufferLength _ out all_long

        module _ (m : length out ≡ length s - 8 * h.n) where
          all-passes : bench_read_answer bs s (length out) ≡ (Ok tt)
          all-passes = past ∙ need-true refusal.BufferLength _ (eq-eqb (length out) (length s - 8 * h.n) m)

          pub all-within : 8 * h.n + length out ≤ length s
          all-within = omega (arith, all-contents)

          pub all-passed : (Ok tt) ≡ bench_read_answer bs s (length out)
          all-passed = sym all-passes

          pub all_read : (new : List ℕ) → new ≡ take (length out) (drop (8 * h.n) s) → new ≡ bench_read_after bs s out
          unfolding bench_read_after bodies_of
          all_read new e =
              e ∙ take_all (length out) (drop (8 * h.n) s) (omega (arith, length-drop (8 * h.n) s))
              ∙ ap (λ (n : ℕ). drop (8 * n) s) (sym n-is) ∙ written _ _ out all-passes

pub ruleset reading_all = (rules, not-true, not-false, all-no-plan, all-kept-no-plan, all-fits, all-record, all-kept-record, all-contents, all_short, all-kept-short, all-within, all-passed, all_read)

-- ---- the checks of a plant's reader
module _ (bs : List ℕ) (h : Header) (p : Planned bs h) (s : List ℕ) (i room : ℕ) (t : Checked) (et : t ≡ need refusal.Record (record_ok (plan_of bs) s)) where
  seat-parts :
      first_of (seat_checks (plan_of bs) s i room)
      ≡ and_then t (and_then (need refusal.Coalition (between 1 h.n i)) (need refusal.BufferLength (eqb room (body_size (plan_of bs) i))))
  unfolding seat_checks first_of
  seat-parts = rw (← et, plan_n p, and_then_end)

  pub seat-record : (q : Refusal) → t ≡ Err q → Err q ≡ first_of (seat_checks (plan_of bs) s i room)
  seat-record q y = sym (seat-parts ∙ and_then_refused t _ q y)

  module _ (y : t ≡ (Ok tt)) (u : Bool) (eu : u ≡ between 1 h.n i) where
    past-record : first_of (seat_checks (plan_of bs) s i room) ≡ and_then (need refusal.Coalition u) (need refusal.BufferLength (eqb room (body_size (plan_of bs) i)))
    past-record = seat-parts ∙ and_then_passed t _ y ∙ rw (← eu)

    pub seat-stranger : u ≡ false → Err refusal.Coalition ≡ first_of (seat_checks (plan_of bs) s i room)
    seat-stranger z = sym (past-record ∙ and_then_refused _ _ refusal.Coalition (need-false refusal.Coalition u z))

    module _ (z : u ≡ true) (size : ℕ) (es : size ≡ body_size (plan_of bs) i) where
      past-seat : first_of (seat_checks (plan_of bs) s i room) ≡ need refusal.BufferLength (eqb room size)
      past-seat = past-record ∙ and_then_passed _ _ (need-true refusal.Coalition u z) ∙ rw (← es)

      pub seat-short : (room ≡ size → ⊥) → Err refusal.BufferLength ≡ first_of (seat_checks (plan_of bs) s i room)
      seat-short n = sym (past-seat ∙ need-false refusal.BufferLength _ (ne_eqb room size n))

      pub seat-passes : room ≡ size → (Ok tt) ≡ first_of (seat_checks (plan_of bs) s i room)
      seat-passes e = sym (past-seat ∙ need-true refusal.BufferLength _ (eq-eqb room size e))

pub ruleset checking_seat = (rules, not-true, not-false, contains_is, seat-record, seat-stranger, seat-short, seat-passes)

-- ---- a plant's reader
module _ (bs s out : List ℕ) (i : ℕ) where
  plant-parts : plant_read_answer bs s i (length out) ≡ and_then (plan_check bs) (first_of (seat_checks (plan_of bs) s i (length out)))
  unfolding plant_read_answer plant_read_checks seat_checks plan_check
  plant-parts = first_of-append (plan_checks bs) _

  module _ (q : Refusal) (e : plan_check bs ≡ Err q) where
    plant-turned : plant_read_answer bs s i (length out) ≡ Err q
    plant-turned = plant-parts ∙ and_then_refused (plan_check bs) _ q e

    pub plant-no-plan : Err q ≡ plant_read_answer bs s i (length out)
    plant-no-plan = sym plant-turned

    pub plant-kept-no-plan : out ≡ plant_read_after bs s i out
    unfolding plant_read_after
    plant-kept-no-plan = kept _ q _ out plant-turned

  module _ (h : Header) (pl : Planned bs h) where
    module _ (c : Checked) (ec : c ≡ first_of (seat_checks (plan_of bs) s i (length out))) where
      past_plan : plant_read_answer bs s i (length out) ≡ c
      past_plan = plant-parts ∙ and_then_passed (plan_check bs) _ pl.passes ∙ sym ec

      module _ (q : Refusal) (y : c ≡ Err q) where
        pub plant-refused : Err q ≡ plant_read_answer bs s i (length out)
        plant-refused = sym (past_plan ∙ y)

        pub plant-kept : out ≡ plant_read_after bs s i out
        unfolding plant_read_after
        plant-kept = kept _ q _ out (past_plan ∙ y)

      module _ (y : c ≡ (Ok tt)) where
        passing : (record_ok (plan_of bs) s ≡ true) × ((between 1 (party_count (plan_of bs)) i ≡ true) × (eqb (length out) (body_size (plan_of bs) i) ≡ true))
        unfolding seat_checks first_of
        passing =
            let first = passed_both (need refusal.Record (record_ok (plan_of bs) s)) _ (sym ec ∙ y) in
            let second = passed_both (need refusal.Coalition (between 1 (party_count (plan_of bs)) i)) _ first.1 in
            let third = passed_both (need refusal.BufferLength (eqb (length out) (body_size (plan_of bs) i))) _ second.1 in
            (passed-need refusal.Record _ first.0, (passed-need refusal.Coalition _ second.0, passed-need refusal.BufferLength _ third.0))

        bounds : (1 ≤ i) × (i ≤ party_count (plan_of bs))
        bounds = between-true 1 (party_count (plan_of bs)) i passing.1.0

        room-is : length out ≡ body_size (plan_of bs) i
        room-is = eqb-true (length out) (body_size (plan_of bs) i) passing.1.1

        pub plant-listed : Listed s i
        plant-listed = record { low = bounds.0; high = omega (arith, bounds.1, tiled-contents (plan_of bs) s passing.0) }

        pub plant-passed : (Ok tt) ≡ plant_read_answer bs s i (length out)
        plant-passed = sym (past_plan ∙ y)

        module _ (at : ℕ) (ea : at ≡ number_at 4 s (8 * (i - 1))) where
          start_is : at ≡ body_start (plan_of bs) (i - 1)
          start_is = ea ∙ tiled-start (plan_of bs) s passing.0 (i - 1) (omega (arith, bounds.0, bounds.1))

          body_end : body_start (plan_of bs) (i - 1) + body_size (plan_of bs) i ≡ body_start (plan_of bs) i
          body_end =
              let q : suc (i - 1) ≡ i = omega (arith, bounds.0) in
              sym (rw q at (start_next (plan_of bs) (i - 1)))

          pub plant-within : at + length out ≤ length s
          plant-within = omega (arith, start_is, room-is, body_end, start_within (plan_of bs) i bounds.1, ok-size (plan_of bs) s passing.0)

          pub plant-read : (new : List ℕ) → new ≡ take (length out) (drop at s) → new ≡ plant_read_after bs s i out
          unfolding plant_read_after body_of
          plant-read new e = e ∙ ap₂ (λ (k l : ℕ). take k (drop l s)) room-is start_is ∙ written _ _ out (past_plan ∙ y)

pub ruleset reading_seat = (rules, plant-no-plan, plant-kept-no-plan, plant-refused, plant-kept, plant-listed, plant-passed, plant-within, plant-read)
