-- A plan's file in another version has the same plan; so every call answers and writes the same. Of the converter.
-- Assumes nothing.
use Rattle.std.proofs.Common.{Ok}
use Prim.Native.Nat.{ℕ, ◌*◌}
use mathlib.Core.Path.{◌≡◌, refl, sym, ap, ap₂, ◌∙◌}
use mathlib.Core.Bool.{true}
use mathlib.Core.List.{List, [], ◌∷◌, ◌++◌}
use native.Mathlib.Omega.{arith}
use borrow.Author.Tests.{ne_eqb}
use lib.Dec.{eqb}
use lib.ListN.{length, get_or, replicate}
use Rattle.numbers.specs.Bytes.{width, numbers, bytes_of}
use Rattle.plan.specs.Refusals.{Checked}
use Rattle.plan.specs.declared.Refusal.TheVariants as refusal
use Rattle.plan.specs.Refusals.{and_then, first_of, need}
use Rattle.plan.specs.Plans.{Plan, party_count, parties}
use Rattle.plan.specs.File.{between, rule_for, version_at, n_at, p_at, plan_checks, plan_check, plan_of}
use Rattle.plan.proofs.Refusals.{first_of-append, and_then_passed, passed_both}
use Rattle.plan.proofs.Planned.{passing, between-true, modulus_small}
use Rattle.plan_file.specs.Bodies.{file_as}
use Rattle.plan_file.proofs.Files.{version_back}
use Rattle.plan_file.proofs.Rewritten.{same-plan, same-passes}
use Rattle.convert_call.specs.Converting.{old_checks, converted_file, convert_checks, convert_answer, convert_after}
use Rattle.convert_call.proofs.Reading.{old-version, old-plan}
use Rattle.convert_call.proofs.Converting.{third_fits}
use Rattle.seat_messages.specs.Calls.{party_checks, call_checks, call_answer, written, unless_refused, called_on, state_after, triples_after, out_after}
use Rattle.seat_messages.specs.Messages.{call}
use Rattle.plan_coalition.specs.Coalitions.{members}
use Rattle.run_protocol.specs.Rounds.{at_end, view, view_count}
use Rattle.match_privacy.specs.Matching.{matched_coins}
use Rattle.run_bench.specs.BenchCalls.{broken_check, given_checks, run_checks, bench_answer, view_after, spent_after}
use Rattle.match_agreement.specs.MatchCalls.{pair_checks, match_answer, matched_after}
use Rattle.match_joint.specs.Joint.{matched_joint}
use Rattle.match_prepared.specs.PreparedCalls.{in_turn, joint_checks, prepared_checks, prepared_answer, prepared_after}
use Rattle.record_laws.specs.Records.{body_size, record_size, record_of, record_checks, record_answer, record_after, record_spent, record_ok, bench_read_checks, bench_read_answer, bodies_of, bench_read_after, body_of, plant_read_checks, plant_read_answer, plant_read_after}
use Rattle.count_laws.specs.CountCalls.{view_list, counting_checks, count_checks, count_answer, count_after}
use Rattle.demands.proofs.Turns.{first_past, second_past}
use Rattle.demands.specs.Further.{SameCalls, SameVersions, Converts}

-- where a file passes, what two plans' checks say is what the other's do
past_first : (file : List ℕ) → plan_check file ≡ Ok tt → (main : List ℕ) (rest : List Checked)
    → first_of (in_turn (plan_checks file) (plan_checks main) ++ rest) ≡ and_then (plan_check main) (first_of rest)
unfolding plan_check
past_first file passes main rest =
    first_of-append (in_turn (plan_checks file) (plan_checks main)) rest
    ∙ ap (λ (c : Checked). and_then c (first_of rest)) (first_past (plan_checks file) (plan_checks main) passes)

past_second : (file : List ℕ) → plan_check file ≡ Ok tt → (prep : List ℕ) (rest : List Checked)
    → first_of (in_turn (plan_checks prep) (plan_checks file) ++ rest) ≡ and_then (plan_check prep) (first_of rest)
unfolding plan_check
past_second file passes prep rest =
    first_of-append (in_turn (plan_checks prep) (plan_checks file)) rest
    ∙ ap (λ (c : Checked). and_then c (first_of rest)) (second_past (plan_checks prep) (plan_checks file) passes)

-- two files that pass, with one plan
module _ (bs file : List ℕ) (passes : plan_check bs ≡ Ok tt) (passes' : plan_check file ≡ Ok tt) (same : plan_of file ≡ plan_of bs) where
  further : (rest : Plan → List Checked) → first_of (plan_checks file ++ rest (plan_of file)) ≡ first_of (plan_checks bs ++ rest (plan_of bs))
  unfolding plan_check
  further rest =
      first_of-append (plan_checks file) (rest (plan_of file)) ∙ and_then_passed _ _ passes' ∙ ap (λ (plan : Plan). first_of (rest plan)) same
      ∙ sym (first_of-append (plan_checks bs) (rest (plan_of bs)) ∙ and_then_passed _ _ passes)

  same_answer : (i : ℕ) (inputs coins triples state mail : List ℕ) (room : ℕ) → call_answer file i inputs coins triples state mail room ≡ call_answer bs i inputs coins triples state mail room
  unfolding call_answer call_checks
  same_answer i inputs coins triples state mail room = further (λ plan. party_checks plan i inputs coins triples state mail room)

  same-bench : (set : ℕ) (inputs coins triples : List ℕ) (room : ℕ) → bench_answer file set inputs coins triples room ≡ bench_answer bs set inputs coins triples room
  unfolding bench_answer
  same-bench set inputs coins triples room = further (λ plan. run_checks plan set inputs coins triples room)

  same-matching : (set : ℕ) (xs ys coins : List ℕ) (room : ℕ) → match_answer file set xs ys coins room ≡ match_answer bs set xs ys coins room
  unfolding match_answer
  same-matching set xs ys coins room = further (λ plan. pair_checks plan set xs ys coins room)

  same-preparing : (main : List ℕ) (set : ℕ) (xs ys coins : List ℕ) (room : ℕ) → prepared_answer file main set xs ys coins room ≡ prepared_answer bs main set xs ys coins room
  unfolding prepared_answer prepared_checks
  same-preparing main set xs ys coins room =
      past_first file passes' main _
      ∙ ap (λ (plan : Plan). and_then (plan_check main) (first_of (joint_checks plan (plan_of main) set xs ys coins room))) same
      ∙ sym (past_first bs passes main _)

  same-joining : (prep : List ℕ) (set : ℕ) (xs ys coins : List ℕ) (room : ℕ) → prepared_answer prep file set xs ys coins room ≡ prepared_answer prep bs set xs ys coins room
  unfolding prepared_answer prepared_checks
  same-joining prep set xs ys coins room =
      past_second file passes' prep _
      ∙ ap (λ (plan : Plan). and_then (plan_check prep) (first_of (joint_checks (plan_of prep) plan set xs ys coins room))) same
      ∙ sym (past_second bs passes prep _)

  same-storing : (inputs coins triples : List ℕ) (room : ℕ) → record_answer file inputs coins triples room ≡ record_answer bs inputs coins triples room
  unfolding record_answer record_checks
  same-storing inputs coins triples room =
      further
      (λ plan.
      given_checks plan inputs coins triples
      ++ (need refusal.BufferLength (eqb room (record_size plan)) ∷ broken_check plan (at_end plan (numbers inputs) (numbers coins) (numbers triples)) ∷ []))

  same-reading : (r : List ℕ) (room : ℕ) → bench_read_answer file r room ≡ bench_read_answer bs r room
  unfolding bench_read_answer bench_read_checks
  same-reading r room =
      further (λ plan. need refusal.Record (record_ok plan r) ∷ need refusal.BufferLength (eqb room (width * view_count plan (parties plan))) ∷ [])

  same-reading-one : (r : List ℕ) (i room : ℕ) → plant_read_answer file r i room ≡ plant_read_answer bs r i room
  unfolding plant_read_answer plant_read_checks
  same-reading-one r i room =
      further
      (λ plan.
      need refusal.Record (record_ok plan r)
      ∷ need refusal.Coalition (between 1 (party_count plan) i)
      ∷ need refusal.BufferLength (eqb room (body_size plan i))
      ∷ [])

  same-counting : (set : ℕ) (inputs coins : List ℕ) (room : ℕ) → count_answer file set inputs coins room ≡ count_answer bs set inputs coins room
  unfolding count_answer count_checks
  same-counting set inputs coins room = further (λ plan. counting_checks plan set inputs coins room)

  calls : SameCalls bs file
  unfolding called_on state_after triples_after out_after view_after spent_after matched_after prepared_after record_after record_spent bench_read_after plant_read_after count_after
  calls = record {
    answer = same_answer;
    state =
        λ i inputs coins triples state mail room.
        ap₂ (λ (c : Checked) (plan : Plan). unless_refused c (bytes_of (call plan i (numbers inputs) (numbers coins) (numbers triples) (numbers state) (numbers mail)).state) state)
        (same_answer i inputs coins triples state mail room) same;
    triples =
        λ i inputs coins triples state mail room.
        ap₂ (λ (c : Checked) (plan : Plan). unless_refused c (bytes_of (call plan i (numbers inputs) (numbers coins) (numbers triples) (numbers state) (numbers mail)).triples) triples)
        (same_answer i inputs coins triples state mail room) same;
    sent =
        λ i inputs coins triples state mail out.
        ap₂
        (λ (c : Checked) (plan : Plan).
        unless_refused c (bytes_of (written plan (get_or (numbers state) 0 0) (call plan i (numbers inputs) (numbers coins) (numbers triples) (numbers state) (numbers mail)))) out)
        (same_answer i inputs coins triples state mail (length out)) same;
    bench = same-bench;
    view =
        λ set inputs coins triples out.
        ap₂ (λ (c : Checked) (plan : Plan). unless_refused c (bytes_of (view plan (members set) (numbers inputs) (numbers coins) (numbers triples))) out)
        (same-bench set inputs coins triples (length out)) same;
    spent = λ set inputs coins triples room. ap (λ (c : Checked). unless_refused c (replicate (length triples) 0) triples) (same-bench set inputs coins triples room);
    matching = same-matching;
    matched =
        λ set xs ys coins out.
        ap₂ (λ (c : Checked) (plan : Plan). unless_refused c (bytes_of (matched_coins plan (members set) (numbers xs) (numbers ys) (numbers coins))) out)
        (same-matching set xs ys coins (length out)) same;
    preparing = same-preparing;
    prepared =
        λ main set xs ys coins out.
        ap₂ (λ (c : Checked) (plan : Plan). unless_refused c (bytes_of (matched_joint plan (plan_of main) (members set) (numbers xs) (numbers ys) (numbers coins))) out)
        (same-preparing main set xs ys coins (length out)) same;
    joining = same-joining;
    joined =
        λ prep set xs ys coins out.
        ap₂ (λ (c : Checked) (plan : Plan). unless_refused c (bytes_of (matched_joint (plan_of prep) plan (members set) (numbers xs) (numbers ys) (numbers coins))) out)
        (same-joining prep set xs ys coins (length out)) same;
    storing = same-storing;
    stored =
        λ inputs coins triples out.
        ap₂ (λ (c : Checked) (plan : Plan). unless_refused c (record_of plan (numbers inputs) (numbers coins) (numbers triples)) out)
        (same-storing inputs coins triples (length out)) same;
    stored_spent = λ inputs coins triples room. ap (λ (c : Checked). unless_refused c (replicate (length triples) 0) triples) (same-storing inputs coins triples room);
    reading = same-reading;
    read = λ r out. ap₂ (λ (c : Checked) (plan : Plan). unless_refused c (bodies_of plan r) out) (same-reading r (length out)) same;
    reading-one = same-reading-one;
    read_one = λ r i out. ap₂ (λ (c : Checked) (plan : Plan). unless_refused c (body_of plan r i) out) (same-reading-one r i (length out)) same;
    counting = same-counting;
    counted =
        λ set inputs coins out.
        ap₂ (λ (c : Checked) (plan : Plan). unless_refused c (bytes_of (view_list plan set (numbers inputs) (numbers coins))) out) (same-counting set inputs coins (length out)) same;
  }

pub same_versions : SameVersions
same_versions bytes v passes known rule fits =
    let passes' : plan_check (file_as v (plan_of bytes)) ≡ Ok tt = same-passes bytes passes v known rule fits in
    let same : plan_of (file_as v (plan_of bytes)) ≡ plan_of bytes = same-plan bytes passes v known rule fits in
    record { passes = passes'; plan = same; calls = calls bytes (file_as v (plan_of bytes)) passes passes' same }

old_parts : (bytes : List ℕ) (room : ℕ) → convert_answer bytes room ≡ Ok tt → first_of (old_checks bytes) ≡ Ok tt
unfolding convert_answer convert_checks
old_parts bytes room e = (passed_both (first_of (old_checks bytes)) _ (sym (first_of-append (old_checks bytes) _) ∙ e)).0

-- the versions that are converted have the rule of version 3
old-rule : (bytes : List ℕ) → between 1 2 (version_at bytes) ≡ true → (plan_of bytes).rule ≡ rule_for 3
unfolding plan_of
old-rule bytes old = rw (ne_eqb (version_at bytes) 4 (λ e. omega (arith, (between-true 1 2 (version_at bytes) old).1)))

pub converts : Converts
converts bytes out e =
    let both : first_of (old_checks bytes) ≡ Ok tt = old_parts bytes (length out) e in
    let is : convert_after bytes out ≡ file_as 3 (plan_of bytes) = unfold convert_after in unfold unless_refused in unfold converted_file in rw e in
    let passes : plan_check bytes ≡ Ok tt = old-plan bytes both in
    record {
      old = old-version bytes both;
      new = ap version_at is ∙ version_back 3 (plan_of bytes);
      same = rw is (same_versions bytes 3 passes (unfold between in refl) (old-rule bytes (old-version bytes both)) (third_fits (p_at bytes) (modulus_small (n_at bytes) (p_at bytes) (passing bytes passes).modulus)));
    }
