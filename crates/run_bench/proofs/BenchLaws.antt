-- What each way through the bench says of its definition.
--     writing_run      the table filled, its outs checked and the views written
--     given_passed     what a run whose checks pass is given
--     benching         the answers, the lent buffer and the lent triples
-- Assumes nothing.
use Rattle.std.proofs.Common.{Result, Ok, Err}
use mathlib.Core.Path.{◌≡◌, refl, sym, ap, ◌∙◌}
use mathlib.Core.Bool.{true}
use mathlib.Core.List.{List, [], ◌∷◌, flat_map}
use Prim.Native.Nat.{ℕ, ◌*◌, ◌^◌, ◌<◌, ◌≤◌}
use native.Mathlib.Nat.{mul-le-mul}
use native.Mathlib.Omega.{arith}
use borrow.Author.Rules.{rules}
use borrow.Author.Tests.{eqb-true, ltb-true}
use lib.Dec.{leb, ltb, eqb}
use lib.ListN.{length, take, replicate}
use lib.Seq.{length-take-le}
use mir.Syntax.{w64}
use mir.Val.{Fits}
use Rattle.numbers.specs.Bytes.{width, numbers, bytes_of}
use Rattle.numbers.proofs.Bytes.{holds-length}
use Rattle.numbers.proofs.Below.{first_over-nothing}
use Rattle.numbers.proofs.Truth.{both_true}
use Rattle.sharing_laws.specs.Interp.{All}
use Rattle.plan.specs.declared.Header.{Header}
use Rattle.plan.specs.Refusals.{Checked}
use Rattle.plan.specs.declared.Refusal.{Refusal}
use Rattle.plan.specs.declared.Refusal.TheVariants as refusal
use Rattle.plan.specs.Refusals.{and_then, first_of, need}
use Rattle.plan.specs.Plans.{party_count, kind_count, input_count, coin_count, triple_numbers, sent_count}
use Rattle.plan.specs.File.{plan_checks, plan_check, plan_of}
use Rattle.plan.specs.Planned.{Planned}
use Rattle.plan_coalition.specs.Coalitions.{members, set_fits, set_ok}
use Rattle.plan.proofs.Refusals.{and_then_passed, and_then_refused, and_then_end, first_of-append, first_of-cons, first_of-nil, passed_both, passed-need, passed_found}
use Rattle.plan.proofs.Planned.{plan_n}
use Rattle.plan.proofs.Valid.{valid}
use Rattle.plan_coalition.proofs.Coalitions.{set_ok_lem, member_in, all-members}
use Rattle.seat_messages.specs.Calls.{unless_refused}
use Rattle.run_protocol.specs.Rounds.{at_end, view, view_count}
use Rattle.run_protocol.specs.Shares.{share_table}
use Rattle.run_protocol.specs.Tables.{table_view_of, Tabled, triples_of}
use Rattle.run_protocol.proofs.Given.{tabled-none}
use Rattle.run_protocol.proofs.Runs.{views-table}
use Rattle.run_protocol.proofs.Sound.{no_triples, none-off}
use Rattle.run_dealings.specs.Rows.{rows_of, Given}
use Rattle.run_tables.proofs.FillLaws.{coins_given, triples_tabled}
use Rattle.run_views.specs.Flat.{Running}
use Rattle.run_views.proofs.JoinLaws.{member_within, ran}
use Rattle.run_bench.specs.Checks.{lent_checks, broken_in}
use Rattle.run_bench.specs.BenchCalls.{broken_check, given_checks, run_checks, bench_answer, benched_of, view_after, spent_after}
use Rattle.run_bench.proofs.OutLaws.{broken_is, none_broken}
use Rattle.run_bench.proofs.RunCheckLaws.{lent_parts}

-- ---- the table and the views
module _ {bs : List ℕ} {h : Header} (pl : Planned bs h) where
  pub table-room : h.n * h.gates ≤ 15360
  table-room = mul-le-mul pl.n-high pl.gates-high

  pub table_fits : Fits w64 (h.n * h.gates)
  table_fits = record { fits = omega (arith, table-room) }

  pub table-enough : (table : List ℕ) → length table ≡ 15360 → h.n * h.gates ≤ length table
  table-enough table e = omega (arith, table-room)

  module _ (inputs coins triples : List ℕ) (given : Given (plan_of bs) inputs coins triples) where
    abbrev tf : List (ℕ → ℕ)
    tf = triples_of (plan_of bs) (numbers triples)

    full : length (numbers coins) ≡ coin_count (plan_of bs)
    full = coins_given bs h pl inputs coins triples given

    tabled : Tabled (plan_of bs) (numbers triples) tf
    tabled = triples_tabled bs h pl inputs coins triples given

    -- the table that is filled
    pub filled : (table : List ℕ)
        → ((f : List (ℕ → ℕ)) → Tabled (plan_of bs) (numbers triples) f → take (h.n * h.gates) table ≡ rows_of (plan_of bs).points (share_table (plan_of bs) (numbers inputs) (numbers coins) f))
        → take (h.n * h.gates) table ≡ rows_of (plan_of bs).points (share_table (plan_of bs) (numbers inputs) (numbers coins) tf)
    filled table is = is tf tabled

    module _ (table : List ℕ) (is : table ≡ rows_of (plan_of bs).points (share_table (plan_of bs) (numbers inputs) (numbers coins) tf)) where
      pub run_stands : Running h table
      run_stands = (ran pl inputs coins triples table given is).running

      abbrev broken : Checked
      broken = broken_check (plan_of bs) (at_end (plan_of bs) (numbers inputs) (numbers coins) (numbers triples))

      breaks : broken_in (plan_of bs) h.n table ≡ broken
      breaks = ap (λ (n : ℕ). broken_in (plan_of bs) n table) (sym (plan_n pl)) ∙ broken_is (plan_of bs) (valid bs pl.passes) (numbers inputs) (numbers coins) (numbers triples) tf full tabled table is

      module _ (c : Checked) (ec : c ≡ broken_in (plan_of bs) h.n table) where
        pub run_broken : c ≡ broken_check (plan_of bs) (at_end (plan_of bs) (numbers inputs) (numbers coins) (numbers triples))
        run_broken = ec ∙ breaks

        pub run_kept : (q : Refusal) (new out : List ℕ) → c ≡ Err q
            → out ≡ unless_refused (broken_check (plan_of bs) (at_end (plan_of bs) (numbers inputs) (numbers coins) (numbers triples))) new out
        unfolding unless_refused
        run_kept q new out e = rw (← breaks, ← ec, e)

    -- with no triples no out breaks
    pub unspent_run : length triples ≡ 0 → (Ok tt) ≡ broken_check (plan_of bs) (at_end (plan_of bs) (numbers inputs) (numbers coins) (numbers triples))
    unfolding triple_numbers
    unspent_run e =
        let each : 1 * (3 * kind_count (plan_of bs) 7) ≤ party_count (plan_of bs) * (3 * kind_count (plan_of bs) 7) = mul-le-mul (rw (plan_n pl) pl.n_low) (omega arith) in
        let none : kind_count (plan_of bs) 7 ≡ 0 = omega (arith, given.triples_count, each) in
        sym (none_broken (plan_of bs) (valid bs pl.passes) (numbers inputs) (numbers coins) (numbers triples) [] full (tabled-none (plan_of bs) (numbers triples) none)
        (λ w l. none-off (plan_of bs) (valid bs pl.passes) (numbers inputs) (numbers coins) [] [] (no_triples (plan_of bs)) given.inputs_below w))

    pub run_done : (new view out : List ℕ) → (Ok tt) ≡ broken_check (plan_of bs) (at_end (plan_of bs) (numbers inputs) (numbers coins) (numbers triples)) → new ≡ view
        → new ≡ unless_refused (broken_check (plan_of bs) (at_end (plan_of bs) (numbers inputs) (numbers coins) (numbers triples))) view out
    unfolding unless_refused
    run_done new view out e en = rw (← e) en

    -- the table's views are those of the run of separate calls
    pub run-written : (set : ℕ) → set < 2 ^ h.n → (new : List ℕ) → new ≡ bytes_of (flat_map (table_view_of (plan_of bs) (numbers inputs) (numbers coins) tf) (members set))
        → new ≡ bytes_of (view (plan_of bs) (members set) (numbers inputs) (numbers coins) (numbers triples))
    run-written set w new e =
        let only : All (λ i. (1 ≤ i) × (i ≤ party_count (plan_of bs))) (members set) =
        all-members (λ i. (1 ≤ i) × (i ≤ party_count (plan_of bs))) (members set) (λ m q. ((member_in set m q).from, rw (plan_n pl) (member_within h.n set w m q))) in
        e ∙ ap bytes_of (sym (views-table (plan_of bs) (valid bs pl.passes) (numbers inputs) (numbers coins) (numbers triples) tf full tabled (members set) only))

pub used-long : (used : ℕ) (table : List ℕ) → used ≤ length table → used ≡ length (take used table)
used-long used table l = sym (length-take-le used table l)

pub ruleset writing_run = (rules, table-room, table_fits, table-enough, used-long, filled, run-written)

-- ---- answers
module _ (bs : List ℕ) (set : ℕ) (inputs coins triples : List ℕ) (room : ℕ) where
  abbrev broken_end : Checked
  broken_end = broken_check (plan_of bs) (at_end (plan_of bs) (numbers inputs) (numbers coins) (numbers triples))

  answer_parts : bench_answer bs set inputs coins triples room ≡ and_then (plan_check bs) (first_of (run_checks (plan_of bs) set inputs coins triples room))
  unfolding bench_answer plan_check
  answer_parts = first_of-append (plan_checks bs) (run_checks (plan_of bs) set inputs coins triples room)

  run_parts : first_of (run_checks (plan_of bs) set inputs coins triples room) ≡ and_then (first_of (lent_checks (plan_of bs) set inputs coins triples room)) broken_end
  unfolding run_checks lent_checks given_checks
  run_parts =
      first_of-append (lent_checks (plan_of bs) set inputs coins triples room) (broken_end ∷ [])
      ∙ ap (and_then (first_of (lent_checks (plan_of bs) set inputs coins triples room))) (first_of-cons broken_end [] ∙ ap (and_then broken_end) first_of-nil ∙ and_then_end broken_end)

  -- the plan is refused
  plan-refused : (q : Refusal) → plan_check bs ≡ Err q → bench_answer bs set inputs coins triples room ≡ Err q
  plan-refused q e = answer_parts ∙ and_then_refused (plan_check bs) _ q e

  -- what follows it is refused, or passes
  past_plan : (h : Header) → Planned bs h → bench_answer bs set inputs coins triples room ≡ and_then (first_of (lent_checks (plan_of bs) set inputs coins triples room)) broken_end
  past_plan h pl = answer_parts ∙ and_then_passed (plan_check bs) _ pl.passes ∙ run_parts

module _ (bs : List ℕ) (set : ℕ) (inputs coins triples out : List ℕ) where
  refused : (q : Refusal) → bench_answer bs set inputs coins triples (length out) ≡ Err q → Err q ≡ benched_of (bench_answer bs set inputs coins triples (length out)) (sent_count (plan_of bs))
  unfolding benched_of
  refused q e = rw e

  kept : (q : Refusal) → bench_answer bs set inputs coins triples (length out) ≡ Err q → out ≡ view_after bs set inputs coins triples out
  unfolding view_after unless_refused
  kept q e = rw e

  unspent : (q : Refusal) → bench_answer bs set inputs coins triples (length out) ≡ Err q → triples ≡ spent_after bs set inputs coins triples (length out)
  unfolding spent_after unless_refused
  unspent q e = rw e

  module _ (q : Refusal) (e : plan_check bs ≡ Err q) where
    pub bench_no_plan : Err q ≡ benched_of (bench_answer bs set inputs coins triples (length out)) (sent_count (plan_of bs))
    bench_no_plan = refused q (plan-refused bs set inputs coins triples (length out) q e)

    pub view_no_plan : out ≡ view_after bs set inputs coins triples out
    view_no_plan = kept q (plan-refused bs set inputs coins triples (length out) q e)

    pub spent_no_plan : triples ≡ spent_after bs set inputs coins triples (length out)
    spent_no_plan = unspent q (plan-refused bs set inputs coins triples (length out) q e)

  module _ (h : Header) (pl : Planned bs h) (c : Checked) (ec : c ≡ first_of (lent_checks (plan_of bs) set inputs coins triples (length out))) where
    answer : bench_answer bs set inputs coins triples (length out) ≡ and_then c (broken_check (plan_of bs) (at_end (plan_of bs) (numbers inputs) (numbers coins) (numbers triples)))
    answer = past_plan bs set inputs coins triples (length out) h pl ∙ ap (λ (d : Checked). and_then d (broken_check (plan_of bs) (at_end (plan_of bs) (numbers inputs) (numbers coins) (numbers triples)))) (sym ec)

    module _ (q : Refusal) (f : c ≡ Err q) where
      early : bench_answer bs set inputs coins triples (length out) ≡ Err q
      early = answer ∙ and_then_refused c _ q f

      pub bench_refused : Err q ≡ benched_of (bench_answer bs set inputs coins triples (length out)) (sent_count (plan_of bs))
      bench_refused = refused q early

      pub view_refused : out ≡ view_after bs set inputs coins triples out
      view_refused = kept q early

      pub spent_refused : triples ≡ spent_after bs set inputs coins triples (length out)
      spent_refused = unspent q early

    -- the run's own answer
    module _ (f : c ≡ (Ok tt)) (d : Checked) (ed : d ≡ broken_check (plan_of bs) (at_end (plan_of bs) (numbers inputs) (numbers coins) (numbers triples))) where
      late : bench_answer bs set inputs coins triples (length out) ≡ d
      late = answer ∙ and_then_passed c _ f ∙ sym ed

      module _ (q : Refusal) (g : d ≡ Err q) where
        pub bench_broken : Err q ≡ benched_of (bench_answer bs set inputs coins triples (length out)) (sent_count (plan_of bs))
        bench_broken = refused q (late ∙ g)

        pub view_broken : (new view : List ℕ)
            → new ≡ unless_refused (broken_check (plan_of bs) (at_end (plan_of bs) (numbers inputs) (numbers coins) (numbers triples))) view out → new ≡ view_after bs set inputs coins triples out
        unfolding unless_refused
        view_broken new view en = rw (← ed, g) at en ∙ kept q (late ∙ g)

        pub spent_broken : triples ≡ spent_after bs set inputs coins triples (length out)
        spent_broken = unspent q (late ∙ g)

      module _ (g : d ≡ (Ok tt)) where
        pub bench_sent : (k : ℕ) → k ≡ sent_count (plan_of bs) → Ok k ≡ benched_of (bench_answer bs set inputs coins triples (length out)) (sent_count (plan_of bs))
        unfolding benched_of
        bench_sent k ek = rw (late, g, ek)

        pub view_sent : (new : List ℕ)
            → new ≡ unless_refused (broken_check (plan_of bs) (at_end (plan_of bs) (numbers inputs) (numbers coins) (numbers triples)))
            (bytes_of (view (plan_of bs) (members set) (numbers inputs) (numbers coins) (numbers triples))) out
            → new ≡ view_after bs set inputs coins triples out
        unfolding view_after unless_refused
        view_sent new en = rw (late, g) (rw (← ed, g) at en)

        pub spent_sent : (new : List ℕ) → new ≡ replicate (length triples) 0 → new ≡ spent_after bs set inputs coins triples (length out)
        unfolding spent_after unless_refused
        spent_sent new en = rw (late, g) en

-- ---- what a run whose checks pass is given
module _ (bs : List ℕ) (inputs coins triples : List ℕ) (c : Checked) (ec : c ≡ first_of (given_checks (plan_of bs) inputs coins triples)) (f : c ≡ (Ok tt)) where
  pub given_passed : Given (plan_of bs) inputs coins triples
  unfolding given_checks first_of
  given_passed =
      let b = passed_both _ _ (sym ec ∙ f) in
      let d = passed_both _ _ b.1 in
      let e = passed_both _ _ d.1 in
      let g = passed_both _ _ e.1 in
      let i = passed_both _ _ g.1 in
      let j = passed_both _ _ i.1 in
      record {
        inputs_count = holds-length (input_count (plan_of bs)) inputs (passed-need refusal.InputCount _ b.0);
        inputs_below = first_over-nothing (plan_of bs).p (numbers inputs) (passed_found refusal.InputValue _ d.0);
        coins_count = holds-length (coin_count (plan_of bs)) coins (passed-need refusal.CoinCount _ e.0);
        coins_below = first_over-nothing (plan_of bs).p (numbers coins) (passed_found refusal.CoinValue _ g.0);
        triples_below = first_over-nothing (plan_of bs).p (numbers triples) (passed_found refusal.CoinValue _ i.0);
        triples_count = holds-length (party_count (plan_of bs) * triple_numbers (plan_of bs)) triples (passed-need refusal.Triples _ j.0);
      }

module _ (bs : List ℕ) (set : ℕ) (inputs coins triples : List ℕ) (room : ℕ) (c : Checked) (ec : c ≡ first_of (lent_checks (plan_of bs) set inputs coins triples room)) (f : c ≡ (Ok tt)) where
  passed_all : (need refusal.Coalition (set_ok (plan_of bs) set) ≡ (Ok tt))
      × (and_then (first_of (given_checks (plan_of bs) inputs coins triples)) (need refusal.BufferLength (eqb room (width * view_count (plan_of bs) (members set)))) ≡ (Ok tt))
  passed_all = passed_both _ _ (sym (lent_parts bs set inputs coins triples room) ∙ sym ec ∙ f)

  passed_rest : (first_of (given_checks (plan_of bs) inputs coins triples) ≡ (Ok tt)) × (need refusal.BufferLength (eqb room (width * view_count (plan_of bs) (members set))) ≡ (Ok tt))
  passed_rest = passed_both _ _ passed_all.1

  pub passed-set : (h : Header) → Planned bs h → set_fits h.n h.t set ≡ true
  passed-set h pl = set_ok_lem bs h set pl ∙ passed-need refusal.Coalition (set_ok (plan_of bs) set) passed_all.0

  pub passed-within : (h : Header) → Planned bs h → set < 2 ^ h.n
  passed-within h pl = ltb-true set (2 ^ h.n) (both_true (ltb set (2 ^ h.n)) (leb (length (members set)) h.t) (passed-set h pl)).0

  pub passed-given : Given (plan_of bs) inputs coins triples
  passed-given = given_passed bs inputs coins triples _ refl passed_rest.0

  pub passed-room : room ≡ width * view_count (plan_of bs) (members set)
  passed-room = eqb-true room (width * view_count (plan_of bs) (members set)) (passed-need refusal.BufferLength _ passed_rest.1)

pub ruleset benching = (rules, bench_no_plan, view_no_plan, spent_no_plan, bench_refused, view_refused, spent_refused, bench_broken, view_broken, spent_broken, bench_sent, view_sent, spent_sent, passed-within, passed-given, passed-room)
