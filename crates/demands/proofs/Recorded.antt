-- What is claimed of the run record.
--     recorded_passed, read_passed                               what the answers of the writer and of the bench's reader say
--     round_trip, shown-apart, same_shown, both_shown, tiled, own_body       the claims
-- Assumes nothing.
use Rattle.std.proofs.Common.{Ok}
use Prim.Native.Nat.{ℕ, zero, suc, ◌-◌, ◌*◌, ◌^◌, ◌<◌, ◌≤◌}
use mathlib.Core.Path.{◌≡◌, refl, sym, ap, ap₂, ◌∙◌}
use mathlib.Core.Bool.{Bool, true}
use mathlib.Core.List.{List, [], ◌∷◌, ◌++◌, flat_map, append-nil}
use native.Mathlib.Omega.{arith}
use borrow.Author.Tests.{eq-eqb, le-leb}
use lib.Dec.{eqb}
use lib.ListN.{length, replicate, length-replicate}
use Rattle.numbers.specs.Tables.{first_from, first_failing}
use Rattle.numbers.specs.Bytes.{width, limit, numbers, bytes_of}
use Rattle.numbers.proofs.Searches.{nothing_passes}
use Rattle.numbers.proofs.Bytes.{holds-numbers}
use Rattle.sharing_laws.proofs.Lists.{flat_map-all}
use Rattle.plan.specs.Refusals.{Checked}
use Rattle.plan.specs.declared.Refusal.TheVariants as refusal
use Rattle.plan.specs.Refusals.{first_of, need}
use Rattle.plan.proofs.Refusals.{first_of-nil, first_of-append, need-true, next_passes, both_pass, passed_both, passed-need}
use Rattle.plan.specs.Plans.{Plan, party_count, parties, coin_count, triple_numbers}
use Rattle.plan.specs.File.{between, same_bytes, plan_checks, plan_check, plan_of}
use Rattle.plan.proofs.Valid.{Valid, valid}
use Rattle.plan.proofs.Parties.{each-party}
use Rattle.plan_coalition.specs.Coalitions.{in_set, members_from, members}
use Rattle.seat_messages.specs.Calls.{unless_refused}
use Rattle.run_protocol.specs.Rounds.{at_end, view_of, view, view_count}
use Rattle.run_protocol.specs.Tables.{Tabled, triples_of}
use Rattle.run_protocol.proofs.Given.{tabled_list}
use Rattle.run_bench.specs.BenchCalls.{broken_check, given_checks, run_checks, bench_answer, view_after}
use Rattle.match_agreement.specs.MatchCalls.{matched_after}
use Rattle.import_text.proofs.Words.{same_true}
use Rattle.record_laws.specs.Records.{body_size, record_size, record_of, record_checks, record_answer, record_after, record_ok, bench_read_checks, bench_read_answer, bodies_of, bench_read_after, body_of, plant_read_checks, plant_read_answer, plant_read_after}
use Rattle.record_laws.proofs.Sizes.{record_few}
use Rattle.record_laws.proofs.Reading as reading
use Rattle.demands.specs.Demands.{Given, SameBytes}
use Rattle.match_prepared.specs.PreparedCalls.{prepared_ok, prepared_after}
use Rattle.demands.specs.Further.{JointlyMatched}
use Rattle.demands.specs.Records.{ReadBack, RoundTrip, ShownApart, only, SameBody, SameShown, BothShown, Tiled, OwnBody}
use Rattle.demands.proofs.Bounds.{parties-few, views-few}
use Rattle.demands.proofs.First.{first_passed}
use Rattle.demands.proofs.Benches.{kept, inputs_back, coins_back, triples_back, ended_pass}
use Rattle.demands.proofs.Apart.{held-apart}
use Rattle.demands.proofs.Computed.{points_of}
use Rattle.demands.proofs.Matched.{matched_bytes, shape, joint_bytes}

-- ---- what answers say
pub record Recorded (bytes coins triples : List ℕ) : Type 0 where
  pub passes : plan_check bytes ≡ Ok tt
  pub coins_long : length (numbers coins) ≡ coin_count (plan_of bytes)
  pub triples_long : length (numbers triples) ≡ party_count (plan_of bytes) * triple_numbers (plan_of bytes)

recorded_passed : (bytes figures coins triples : List ℕ) (room : ℕ) → record_answer bytes figures coins triples room ≡ Ok tt → Recorded bytes coins triples
unfolding record_answer record_checks plan_check given_checks
recorded_passed bytes figures coins triples room passed =
    let rest : List Checked =
    given_checks (plan_of bytes) figures coins triples
    ++ (need refusal.BufferLength (eqb room (record_size (plan_of bytes)))
    ∷ broken_check (plan_of bytes) (at_end (plan_of bytes) (numbers figures) (numbers coins) (numbers triples)) ∷ []) in
    let a = passed_both _ _ (sym (first_of-append (plan_checks bytes) rest) ∙ passed) in
    record {
      passes = a.0;
      coins_long = holds-numbers (coin_count (plan_of bytes)) coins (passed-need refusal.CoinCount _ (first_passed rest a.1 2));
      triples_long = holds-numbers (party_count (plan_of bytes) * triple_numbers (plan_of bytes)) triples (passed-need refusal.Triples _ (first_passed rest a.1 5));
    }

read_passed : (bytes stored : List ℕ) (room : ℕ) → bench_read_answer bytes stored room ≡ Ok tt → (plan_check bytes ≡ Ok tt) × (record_ok (plan_of bytes) stored ≡ true)
unfolding bench_read_answer bench_read_checks plan_check
read_passed bytes stored room passed =
    let rest : List Checked =
    need refusal.Record (record_ok (plan_of bytes) stored)
    ∷ need refusal.BufferLength (eqb room (width * view_count (plan_of bytes) (parties (plan_of bytes)))) ∷ [] in
    let a = passed_both _ _ (sym (first_of-append (plan_checks bytes) rest) ∙ passed) in
    (a.0, passed-need refusal.Record _ (first_passed rest a.1 0))

-- ---- a record that passes 28 is read by both
module _ (bytes stored : List ℕ) (passes : plan_check bytes ≡ Ok tt) (ok : record_ok (plan_of bytes) stored ≡ true) where
  bench_passes : (room : ℕ) → room ≡ width * view_count (plan_of bytes) (parties (plan_of bytes)) → bench_read_answer bytes stored room ≡ Ok tt
  unfolding bench_read_answer bench_read_checks plan_check
  bench_passes room fits =
      both_pass (plan_checks bytes) _ passes
      (next_passes _ _ (need-true refusal.Record (record_ok (plan_of bytes) stored) ok)
      (next_passes _ _ (need-true refusal.BufferLength _ (eq-eqb room (width * view_count (plan_of bytes) (parties (plan_of bytes))) fits)) first_of-nil))

  bench-gives : (out : List ℕ) → length out ≡ width * view_count (plan_of bytes) (parties (plan_of bytes)) → bench_read_after bytes stored out ≡ bodies_of (plan_of bytes) stored
  unfolding bench_read_after
  bench-gives out fits = kept _ _ out (bench_passes (length out) fits)

  module _ (i : ℕ) (l : 1 ≤ i) (m : i ≤ party_count (plan_of bytes)) where
    a-party : between 1 (party_count (plan_of bytes)) i ≡ true
    unfolding between
    a-party = rw (le-leb 1 i l, le-leb i (party_count (plan_of bytes)) m) refl

    plant-passes : (room : ℕ) → room ≡ body_size (plan_of bytes) i → plant_read_answer bytes stored i room ≡ Ok tt
    unfolding plant_read_answer plant_read_checks plan_check
    plant-passes room fits =
        both_pass (plan_checks bytes) _ passes
        (next_passes _ _ (need-true refusal.Record (record_ok (plan_of bytes) stored) ok)
        (next_passes _ _ (need-true refusal.Coalition _ a-party)
        (next_passes _ _ (need-true refusal.BufferLength _ (eq-eqb room (body_size (plan_of bytes) i) fits)) first_of-nil)))

    plant-gives : (out : List ℕ) → length out ≡ body_size (plan_of bytes) i → plant_read_after bytes stored i out ≡ body_of (plan_of bytes) stored i
    unfolding plant_read_after
    plant-gives out fits = kept _ _ out (plant-passes (length out) fits)

-- ---- the record of a run
module _ (bytes figures coins triples out : List ℕ) (passed : record_answer bytes figures coins triples (length out) ≡ Ok tt) where
  abbrev plan : Plan
  plan = plan_of bytes

  said : Recorded bytes coins triples
  said = recorded_passed bytes figures coins triples (length out) passed

  proper : Valid plan
  proper = valid bytes said.passes

  tabled : Tabled plan (numbers triples) (triples_of plan (numbers triples))
  tabled = tabled_list plan proper (numbers triples) said.triples_long

  stored_is : record_after bytes figures coins triples out ≡ record_of plan (numbers figures) (numbers coins) (numbers triples)
  unfolding record_after
  stored_is = kept _ _ out passed

  small : record_size plan < limit
  small = record_few plan (views-few bytes said.passes) (parties-few bytes said.passes)

  stored_ok : record_ok plan (record_after bytes figures coins triples out) ≡ true
  stored_ok = ap (record_ok plan) stored_is ∙ reading.run_ok plan proper (numbers figures) (numbers coins) (numbers triples) _ said.coins_long tabled small

  body-stored : (i : ℕ) → 1 ≤ i → i ≤ party_count plan
      → body_of plan (record_after bytes figures coins triples out) i ≡ bytes_of (view_of plan (numbers figures) (numbers coins) (numbers triples) i)
  body-stored i l m =
      ap (λ (r : List ℕ). body_of plan r i) stored_is ∙ reading.run-body plan proper (numbers figures) (numbers coins) (numbers triples) _ said.coins_long tabled i l m

  bodies-stored : bodies_of plan (record_after bytes figures coins triples out) ≡ bytes_of (view plan (parties plan) (numbers figures) (numbers coins) (numbers triples))
  bodies-stored = ap (bodies_of plan) stored_is ∙ reading.run-bodies plan proper (numbers figures) (numbers coins) (numbers triples) _ said.coins_long tabled

  read_back : ReadBack bytes figures coins triples (record_after bytes figures coins triples out)
  unfolding body_size
  read_back = record {
    long = reading.ok-size plan (record_after bytes figures coins triples out) stored_ok;
    bench = λ b fits. (
      bench_passes bytes _ said.passes stored_ok (length b) fits,
      bench-gives bytes _ said.passes stored_ok b fits ∙ bodies-stored,
    );
    plant = λ i b l m fits. (
      plant-passes bytes _ said.passes stored_ok i l m (length b) fits,
      plant-gives bytes _ said.passes stored_ok i l m b fits ∙ body-stored i l m,
    );
  }

pub round_trip : RoundTrip
round_trip bytes figures coins triples out passed = read_back bytes figures coins triples out passed

-- ---- parties run apart
run_passes : (bytes xs coins ts : List ℕ) (room : ℕ) → Given bytes xs coins ts → room ≡ record_size (plan_of bytes) → record_answer bytes (bytes_of xs) (bytes_of coins) (bytes_of ts) room ≡ Ok tt
unfolding record_answer record_checks plan_check
run_passes bytes xs coins ts room given fits =
    both_pass (plan_checks bytes) _ given.passes (ended_pass bytes xs coins ts given _ (eq-eqb room (record_size (plan_of bytes)) fits))

pub shown-apart : ShownApart
unfolding body_size
shown-apart bytes xs coins ts stored out i lent is-bytes given room l m whole fits =
    let passed : record_answer bytes (bytes_of xs) (bytes_of coins) (bytes_of ts) (length stored) ≡ Ok tt = run_passes bytes xs coins ts (length stored) given whole in (
      passed,
      ((round_trip bytes (bytes_of xs) (bytes_of coins) (bytes_of ts) stored passed).plant i out l m fits).1
          ∙ ap₂ (λ (x c : List ℕ). bytes_of (view_of (plan_of bytes) x c (numbers (bytes_of ts)) i)) (inputs_back bytes xs coins ts given) (coins_back bytes xs coins ts given)
          ∙ ap (λ (t : List ℕ). bytes_of (view_of (plan_of bytes) xs coins t i)) (triples_back bytes xs coins ts given)
          ∙ held-apart bytes xs coins ts lent is-bytes given room i l m,
    )

-- ---- bodies one after the other
pub tiled : Tiled
tiled bytes stored out lent passed fits =
    let a = read_passed bytes stored (length out) passed in
    record {
      each = λ i l m. plant-passes bytes stored a.0 a.1 i l m (length (lent i)) (fits i);
      joined =
          joins bytes stored out passed
          ∙ sym (reading.tiled (plan_of bytes) stored a.1)
          ∙ sym
          (flat_map-all (λ i. plant_read_after bytes stored i (lent i)) (body_of (plan_of bytes) stored) (parties (plan_of bytes))
          (each-party (plan_of bytes) (λ i. plant_read_after bytes stored i (lent i) ≡ body_of (plan_of bytes) stored i)
          (λ i l m. plant-gives bytes stored a.0 a.1 i l m (lent i) (fits i))));
    }
  where
    joins : (bytes stored out : List ℕ) → bench_read_answer bytes stored (length out) ≡ Ok tt → bench_read_after bytes stored out ≡ bodies_of (plan_of bytes) stored
    joins bytes stored out passed = unfold bench_read_after in kept _ _ out passed

-- ---- a plant's own body alone
pub own_body : OwnBody
unfolding plant_read_answer plant_read_checks plant_read_after
own_body bytes i first second out long contents body =
    let plan : Plan = plan_of bytes in
    let ok : record_ok plan first ≡ record_ok plan second = reading.ok_same plan first second contents long in
    record {
      answer = ap (λ (b : Bool). answered b) ok;
      given = ap₂ (λ (b : Bool) (r : List ℕ). unless_refused (answered b) r out) ok body;
    }
  where
    answered : Bool → Checked
    answered b =
        first_of
        (plan_checks bytes
        ++ (need refusal.Record b
        ∷ need refusal.Coalition (between 1 (party_count (plan_of bytes)) i)
        ∷ need refusal.BufferLength (eqb (length out) (body_size (plan_of bytes) i))
        ∷ []))

-- ---- the set of one party
only_member : (i : ℕ) → 1 ≤ i → i ≤ 15 → members (only i) ≡ i ∷ []
unfolding members members_from in_set first_failing first_from same_bytes
only_member zero l m = absurd (omega arith)
only_member (suc k) l m =
    let e : suc k - 1 ≡ k = omega arith in
    ap (λ (j : ℕ). members (2 ^ j)) e
    ∙ same_true (members (2 ^ k)) (suc k ∷ []) (nothing_passes (λ k. same_bytes (members (2 ^ k)) (suc k ∷ [])) 15 refl k m)

-- where the bench gives this set's view, party i's reader gives the same of the stored run
module _ (bytes : List ℕ) (i : ℕ) (l : 1 ≤ i) (m : i ≤ party_count (plan_of bytes)) (figures coins triples given : List ℕ)
    (passed : bench_answer bytes (only i) figures coins triples (length given) ≡ Ok tt) where
  two : (first_of (plan_checks bytes) ≡ Ok tt) × (first_of (run_checks (plan_of bytes) (only i) figures coins triples (length given)) ≡ Ok tt)
  unfolding bench_answer
  two = passed_both _ _ (sym (first_of-append (plan_checks bytes) (run_checks (plan_of bytes) (only i) figures coins triples (length given))) ∙ passed)

  -- after refusal 9 those of what the run is given, and after 19 refusal 20
  given-passed : first_of (given_checks (plan_of bytes) figures coins triples) ≡ Ok tt
  unfolding run_checks first_of
  given-passed = (passed_both _ _ (sym (first_of-append (given_checks (plan_of bytes) figures coins triples) _) ∙ (passed_both _ _ two.1).1)).0

  none_broken : broken_check (plan_of bytes) (at_end (plan_of bytes) (numbers figures) (numbers coins) (numbers triples)) ≡ Ok tt
  unfolding run_checks first_of
  none_broken =
      let a = passed_both _ _ (sym (first_of-append (given_checks (plan_of bytes) figures coins triples) _) ∙ (passed_both _ _ two.1).1) in
      (passed_both _ _ (passed_both _ _ a.1).1).0

  record-passes : (room : ℕ) → room ≡ record_size (plan_of bytes) → record_answer bytes figures coins triples room ≡ Ok tt
  unfolding record_answer record_checks
  record-passes room fits =
      both_pass (plan_checks bytes) _ two.0
      (both_pass (given_checks (plan_of bytes) figures coins triples) _ given-passed
      (next_passes _ _ (need-true refusal.BufferLength _ (eq-eqb room (record_size (plan_of bytes)) fits)) (next_passes _ _ none_broken first_of-nil)))

  module _ (stored : List ℕ) (whole : length stored ≡ record_size (plan_of bytes)) (out : List ℕ) (fits : length out ≡ body_size (plan_of bytes) i) where
    stored-run : ReadBack bytes figures coins triples (record_after bytes figures coins triples stored)
    stored-run = round_trip bytes figures coins triples stored (record-passes (length stored) whole)

    one_passes : plant_read_answer bytes (record_after bytes figures coins triples stored) i (length out) ≡ Ok tt
    unfolding body_size
    one_passes = (stored-run.plant i out l m fits).0

    one-view : view (plan_of bytes) (members (only i)) (numbers figures) (numbers coins) (numbers triples) ≡ view_of (plan_of bytes) (numbers figures) (numbers coins) (numbers triples) i
    unfolding view flat_map plan_check
    one-view =
        ap (λ (ms : List ℕ). flat_map (view_of (plan_of bytes) (numbers figures) (numbers coins) (numbers triples)) ms) (only_member i l (omega (arith, m, parties-few bytes two.0)))
        ∙ append-nil (view_of (plan_of bytes) (numbers figures) (numbers coins) (numbers triples) i)

    as-bench : plant_read_after bytes (record_after bytes figures coins triples stored) i out ≡ view_after bytes (only i) figures coins triples given
    unfolding body_size view_after
    as-bench = (stored-run.plant i out l m fits).1 ∙ ap bytes_of (sym one-view) ∙ sym (kept _ _ given passed)

-- two runs that show a bench the same
same_stored : (bytes : List ℕ) (i : ℕ) (first coins ts second moved us view stored stored' out out' : List ℕ) → 1 ≤ i → i ≤ party_count (plan_of bytes)
    → SameBytes bytes (only i) first coins ts second moved us view view
    → length stored ≡ record_size (plan_of bytes) → length stored' ≡ record_size (plan_of bytes)
    → length out ≡ body_size (plan_of bytes) i → length out' ≡ body_size (plan_of bytes) i
    → SameBody bytes i first coins ts second moved us stored stored' out out'
same_stored bytes i first coins ts second moved us view stored stored' out out' l m same whole whole' fits fits' = record {
  first-stored = record-passes bytes i l m first coins ts view same.first_answers (length stored) whole;
  second-stored = record-passes bytes i l m second moved us view same.second_answers (length stored') whole';
  first_read = one_passes bytes i l m first coins ts view same.first_answers stored whole out fits;
  second_read = one_passes bytes i l m second moved us view same.second_answers stored' whole' out' fits';
  same =
      as-bench bytes i l m first coins ts view same.first_answers stored whole out fits
      ∙ same.same
      ∙ sym (as-bench bytes i l m second moved us view same.second_answers stored' whole' out' fits');
}

pub same_shown : SameShown
same_shown bytes i first second coins matched stored stored' out out' b0 b1 b2 b3 l m passed whole whole' fits fits' =
    let n : ℕ = width * view_count (plan_of bytes) (members (only i)) in
    let view : List ℕ = replicate n 0 in
    same_stored bytes i first coins [] second (matched_after bytes (only i) first second coins matched) [] view stored stored' out out' l m
    (matched_bytes bytes (only i) first second coins matched view view b0 b1 b2 b3 passed (length-replicate n 0) (length-replicate n 0)) whole whole' fits fits'

-- a preparing plan has the main plan's parties
prep_party : (prep bytes : List ℕ) (i : ℕ) → prepared_ok (plan_of prep) (plan_of bytes) ≡ true → i ≤ party_count (plan_of bytes) → i ≤ party_count (plan_of prep)
unfolding party_count
prep_party prep bytes i shape m = omega (arith, m, ap length (points_of (plan_of prep) (plan_of bytes) shape))

pub both_shown : BothShown
both_shown prep bytes i first second coins matched p0 b0 b1 b2 b3 l m passed =
    let both : JointlyMatched prep bytes (only i) first second coins (prepared_after prep bytes (only i) first second coins matched) =
    joint_bytes prep bytes (only i) first second coins matched p0 b0 b1 b2 b3 passed in
    let n : ℕ = width * view_count (plan_of prep) (members (only i)) in
    let k : ℕ = width * view_count (plan_of bytes) (members (only i)) in
    record {
      preparing = λ stored stored' out out'.
          same_stored prep i _ _ [] _ _ [] (replicate n 0) stored stored' out out' l
          (prep_party prep bytes i (shape prep bytes (only i) first second coins matched p0 b0 b1 b2 b3 passed) m)
          (both.preparing (replicate n 0) (replicate n 0) (length-replicate n 0) (length-replicate n 0));
      main = λ stored stored' out out'.
          same_stored bytes i _ _ _ _ _ _ (replicate k 0) stored stored' out out' l m
          (both.main (replicate k 0) (replicate k 0) (length-replicate k 0) (length-replicate k 0));
    }
