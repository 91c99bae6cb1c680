-- The import's checks, by what the code finds; and what it writes.
--     file-checks              after 23 and 24 only 3 to 6 can fall, and the contents decide them, and 25
--     measuring, importing     what closes the needs of the functions
-- Assumes nothing.
use Rattle.std.proofs.Common.{Option, Some, None, Result, Ok, Err, ok_or}
use Prim.Native.Nat.{ℕ, ◌+◌, ◌*◌, ◌<◌, ◌≤◌}
use mathlib.Core.Path.{◌≡◌, refl, sym, ap, ap₂, subst, ◌∙◌}
use mathlib.Core.Logic.{◌⊎◌, inl, inr}
use mathlib.Core.Bool.{Bool, true, false, cond}
use mathlib.Core.List.{List, [], ◌∷◌, ◌++◌}
use native.Mathlib.Omega.{arith}
use borrow.Author.Rules.{rules}
use borrow.Author.Tests.{le-leb, lt-leb, ltb-true, eq-eqb, ne_eqb}
use lib.Dec.{T, eqb}
use lib.ListN.{length, take, drop}
use mir.Syntax.{w32}
use mir.Val.{Fits}
use Rattle.numbers.proofs.Truth.{both_true}
use Rattle.field.proofs.Primes.{prime_sound}
use Rattle.plan.specs.Refusals.{Checked}
use Rattle.plan.specs.declared.Refusal.{Refusal}
use Rattle.plan.specs.declared.Refusal.TheVariants as refusal
use Rattle.plan.specs.Refusals.{and_then, first_of, need}
use Rattle.plan.specs.File.{parties_ok, threshold_ok, modulus_ok, majority_check, plan_check}
use Rattle.plan.proofs.Refusals.{first_of-append, and_then_passed, and_then_refused, passed_both, passed-need}
use Rattle.plan.proofs.Planned.{between-true, modulus_prime, modulus_small}
use Rattle.plan_file.specs.Bodies.{file_size, version_for, file_of_plan, content_checks}
use Rattle.plan_file.proofs.Rooms.{room_long, room-majority, rooms}
use Rattle.plan_file.proofs.Files.{Sound, made_long, file_check, file_majority}
use Rattle.seat_messages.specs.Calls.{unless_refused}
use Rattle.import_lines.specs.Lines.{lines_of}
use Rattle.import_text.specs.Circuits.{format_ok, circuit_of}
use Rattle.import_circuit.specs.Wires.{input_wires, output_wires, circuit_ok}
use Rattle.import_circuit.specs.Making.{size_of, circuit_bodies}
use Rattle.import_circuit.proofs.Wires.{length_made}
use Rattle.import_circuit.proofs.Sound.{outs_long, made-sound}
use Rattle.import_check.specs.declared.Counts.{Counts}
use Rattle.import_check.specs.Surveying.{text_ok, survey_of, Surveyed}
use Rattle.import_write.specs.Second.{Importable}
use Rattle.import_call.specs.Importing.{import_bodies, import_file, text_checks, import_checks, import_answer, import_after, measured_of, measure, refusal_of}
use Rattle.import_call.specs.Measures.{Counted, Ready, MeasuredAs}

-- ---- after 23 and 24
module _ (n t p : ℕ) (text : List ℕ) (ok : text_ok n text ≡ true) where
  format : format_ok (lines_of text) ≡ true
  unfolding text_ok
  format = (both_true (format_ok (lines_of text)) (circuit_ok n (circuit_of text)) ok).0

  rules_lem : circuit_ok n (circuit_of text) ≡ true
  unfolding text_ok
  rules_lem = (both_true (format_ok (lines_of text)) (circuit_ok n (circuit_of text)) ok).1

  gates-count : length (import_bodies p text).gates ≡ input_wires (circuit_of text) + size_of (circuit_of text).gates
  unfolding import_bodies circuit_bodies
  gates-count = length_made p (circuit_of text)

  outs-count : length (import_bodies p text).outs ≡ output_wires (circuit_of text)
  unfolding import_bodies circuit_bodies
  outs-count = outs_long n p (circuit_of text) rules_lem

  prime_above : modulus_ok n p ≡ true → 2 ≤ p
  prime_above m = (prime_sound p (subst T (sym (modulus_prime n p m)) tt)).above

  -- 7 and 8 cannot fall
  sound : parties_ok n ≡ true → modulus_ok n p ≡ true → Sound n p (import_bodies p text)
  unfolding import_bodies
  sound a m = made-sound n p (circuit_of text) rules_lem (between-true 1 15 n a).0 (prime_above m)

  module _ (few-gates : length (import_bodies p text).gates ≤ 1024) (few_outs : length (import_bodies p text).outs ≤ 64) where
    file-checks : plan_check (import_file n t p text)
        ≡ and_then (first_of (content_checks n t p (length (import_bodies p text).gates) (length (import_bodies p text).outs))) (majority_check (import_file n t p text))
    unfolding import_file
    file-checks = file_check n t p (import_bodies p text) few-gates few_outs sound

    measure-is : measure n t p text
        ≡ measured_of (and_then (first_of (content_checks n t p (length (import_bodies p text).gates) (length (import_bodies p text).outs))) (majority_check (import_file n t p text)))
        (length (import_bodies p text).gates) (length (import_bodies p text).outs)
    unfolding measure text_checks first_of and_then need
    measure-is = rw (ok, le-leb (length (import_bodies p text).gates) 1024 few-gates, le-leb (length (import_bodies p text).outs) 64 few_outs) (unfold plan_check in rw file-checks)

-- what the contents' checks say where all pass
module _ (n t p gates outs : ℕ) (passed : first_of (content_checks n t p gates outs) ≡ (Ok tt)) where
  contents-parts : (parties_ok n ≡ true) × (threshold_ok n t ≡ true) × (modulus_ok n p ≡ true)
  unfolding content_checks first_of
  contents-parts =
      let a = passed_both _ _ passed in
      let b = passed_both _ _ a.1 in
      let c = passed_both _ _ b.1 in
      (passed-need refusal.Parties _ a.0, passed-need refusal.Threshold _ b.0, passed-need refusal.Modulus _ c.0)

-- ---- 25
module _ (n t p gates outs : ℕ) (text : List ℕ) (w : Importable text n t p gates) (eo : outs ≡ output_wires (circuit_of text)) where
  pub majority-fits : Fits w32 (2 * t)
  majority-fits = record { fits = omega (arith, w.threshold) }

  pub majority-passed : 2 * t < n → (Ok tt) ≡ majority_check (import_file n t p text)
  unfolding import_file
  majority-passed l = file_majority n t p (import_bodies p text) l

  pub majority-parties : n ≤ 15
  majority-parties = w.parties

  pub majority-gates : gates ≤ 1024
  majority-gates = w.few

  pub majority-outs : outs ≤ 64
  majority-outs = omega (arith, w.outs)

  module _ (v size : ℕ) (ev : v ≡ version_for p) (es : size ≡ file_size v n gates outs) (room : List ℕ) (long : length room ≡ 10524) (few : size ≤ 10524) where
    pub majority-room : length (take size room) ≡ file_size (version_for p) n gates (output_wires (circuit_of text))
    majority-room = room_long size room long few ∙ es ∙ ap₂ (λ (k o : ℕ). file_size k n gates o) ev eo

    pub majority-is : (ys : List ℕ) (c : Checked) → length ys ≡ length (take size room) → ys ≡ file_of_plan n t p (circuit_bodies p (circuit_of text))
        → c ≡ majority_check (take size (ys ++ drop size room)) → c ≡ majority_check (import_file n t p text)
    unfolding import_file import_bodies
    majority-is ys c kept is e = room-majority size room long few ys kept c (file_of_plan n t p (circuit_bodies p (circuit_of text))) is e

-- As it is: answers name this set, since the check leaves their goals open by `using` alone.
pub ruleset majorities = (rules, majority-fits, majority-passed, majority-parties, majority-gates, majority-outs, majority-room, majority-is, rooms)

-- ---- 3 to 6 and 25
module _ (n t p gates outs : ℕ) (text : List ℕ) (w : Counted text n p gates outs) (c : Checked) (ec : c ≡ first_of (content_checks n t p gates outs)) where
  pub plan-importable : c ≡ (Ok tt) → Importable text n t p gates
  plan-importable q =
      let parts = contents-parts n t p gates outs (sym ec ∙ q) in
      let parties : n ≤ 15 = (between-true 1 15 n parts.0).1 in
      record {
        format = format n t p text w.ok;
        rules = rules_lem n t p text w.ok;
        count = sym w.gates_are ∙ (unfold import_bodies in unfold circuit_bodies in refl);
        few = w.gates_few;
        outs = omega (arith, w.outs_are, w.outs_few);
        parties = parties;
        threshold = omega (arith, parties, ltb-true t n parts.1);
        prime = prime_above n t p text w.ok parts.2;
        small = modulus_small n p parts.2;
      }

  pub plan-refused : (r : Refusal) (d : Checked) → c ≡ Err r → Err r ≡ and_then (first_of (content_checks n t p gates outs)) d
  plan-refused r d q = sym (and_then_refused _ d r (sym ec ∙ q))

  pub plan-further : (d : Checked) → c ≡ (Ok tt) → d ≡ majority_check (import_file n t p text) → d ≡ and_then (first_of (content_checks n t p gates outs)) (majority_check (import_file n t p text))
  plan-further d q e = e ∙ sym (and_then_passed _ _ (sym ec ∙ q))

pub counted_outs : (n p gates outs : ℕ) (text : List ℕ) → Counted text n p gates outs → outs ≡ output_wires (circuit_of text)
counted_outs n p gates outs text w = w.outs_are

pub ruleset checking_plan = (rules, plan-importable, plan-refused, plan-further, counted_outs)

-- ---- the first pass
-- ---- what `ok_or` answers
pub some_of : (m : Result Counts Refusal) (r : Option Counts) (x : Refusal) (c : Counts) → m ≡ ok_or r x → m ≡ Ok c → r ≡ Some c
some_of m (Some d) x c k e = cc
some_of m None x c k e = absurd (let z : ◌≡◌ {A = ℕ} 0 1 = cc in omega arith)

none_of : (r : Option Counts) (x q : Refusal) → ok_or r x ≡ Err q → (r ≡ None) × (q ≡ x)
none_of (Some d) x q e = absurd (let z : ◌≡◌ {A = ℕ} 0 1 = cc in omega arith)
none_of None x q e = (refl, cc)

module _ (n : ℕ) (text : List ℕ) (r : Option Counts) (h : Surveyed (survey_of n text) r) where
  text-wrong : r ≡ None → text_ok n text ≡ false
  unfolding survey_of
  text-wrong e = by (text_ok n text) (sym h.eq ∙ e)
    where
      by : (b : Bool) → cond {A = Option Counts} b (Some (record { gates = input_wires (circuit_of text) + size_of (circuit_of text).gates; outs = output_wires (circuit_of text) })) None ≡ None → b ≡ false
      by true q = absurd (let z : ◌≡◌ {A = ℕ} 0 1 = cc in omega arith)
      by false q = refl

  text-counts : (c : Counts) → r ≡ Some c → (text_ok n text ≡ true) × (c.gates ≡ input_wires (circuit_of text) + size_of (circuit_of text).gates) × (c.outs ≡ output_wires (circuit_of text))
  unfolding survey_of
  text-counts c e = by (text_ok n text) (sym h.eq ∙ e)
    where
      its : Counts
      its = record { gates = input_wires (circuit_of text) + size_of (circuit_of text).gates; outs = output_wires (circuit_of text) }

      by : (b : Bool) → cond b (Some its) None ≡ Some c
          → (b ≡ true) × (c.gates ≡ input_wires (circuit_of text) + size_of (circuit_of text).gates) × (c.outs ≡ output_wires (circuit_of text))
      by true q = let s : c ≡ its = cc in (refl, ap (λ (x : Counts). x.gates) s, ap (λ (x : Counts). x.outs) s)
      by false q = absurd (let z : ◌≡◌ {A = ℕ} 0 1 = cc in omega arith)

  module _ (t p : ℕ) where
    pub measure-wrong : r ≡ None → MeasuredAs text n t p (Err refusal.CircuitText)
    unfolding measure text_checks first_of and_then need measured_of Ready
    measure-wrong e = record { eq = rw (text-wrong e); ready = tt }

    module _ (m : Result Counts Refusal) (em : m ≡ ok_or r refusal.CircuitText) where
      pub measure-none : (q : Refusal) → m ≡ Err q → MeasuredAs text n t p (Err q)
      measure-none q e = let k = none_of r refusal.CircuitText q (sym em ∙ e) in rw k.1 (measure-wrong k.0)

    module _ (c : Counts) (e : r ≡ Some c) where
      ok : text_ok n text ≡ true
      ok = (text-counts c e).0

      gates_are : length (import_bodies p text).gates ≡ c.gates
      gates_are = gates-count n t p text ok ∙ sym (text-counts c e).1

      outs_are : length (import_bodies p text).outs ≡ c.outs
      outs_are = outs-count n t p text ok ∙ sym (text-counts c e).2

      pub measure-large : (1024 < c.gates) ⊎ ((c.gates ≤ 1024) × (64 < c.outs)) → MeasuredAs text n t p (Err refusal.TooLarge)
      unfolding measure text_checks first_of and_then need measured_of Ready
      measure-large (inl l) = record { eq = rw (ok, gates_are, lt-leb c.gates 1024 l); ready = tt }
      measure-large (inr (k, l)) = record { eq = rw (ok, gates_are, outs_are, le-leb c.gates 1024 k, lt-leb c.outs 64 l); ready = tt }

      module _ (few : c.gates ≤ 1024) (few_outs : c.outs ≤ 64) where
        pub measure-counted : Counted text n p c.gates c.outs
        measure-counted = record { ok = ok; gates_are = gates_are; outs_are = (text-counts c e).2; gates_few = few; outs_few = few_outs }

        module _ (d : Checked) (ed : d ≡ and_then (first_of (content_checks n t p c.gates c.outs)) (majority_check (import_file n t p text))) where
          measure-same : measure n t p text ≡ measured_of d c.gates c.outs
          measure-same =
              measure-is n t p text ok (omega (arith, gates_are)) (omega (arith, outs_are))
              ∙ rw (gates_are, outs_are, ← ed)

          pub measure-refused : (x : Refusal) → d ≡ Err x → MeasuredAs text n t p (Err x)
          unfolding measured_of Ready
          measure-refused x q = record { eq = sym (measure-same ∙ rw q); ready = tt }

          importable : d ≡ (Ok tt) → Importable text n t p c.gates
          importable q =
              plan-importable n t p c.gates c.outs text measure-counted (first_of (content_checks n t p c.gates c.outs)) refl
              (passed_both (first_of (content_checks n t p c.gates c.outs)) (majority_check (import_file n t p text)) (sym ed ∙ q)).0

          pub measure-counts : d ≡ (Ok tt) → MeasuredAs text n t p (Ok c)
          unfolding measured_of Ready
          measure-counts q = record {
            eq = sym (measure-same ∙ rw q);
            ready = record { gates_few = few; outs_few = few_outs; outs_are = (text-counts c e).2; text = importable q };
          }

pub ruleset measuring = (rules, measure-large, measure-counted, measure-refused, measure-counts)

-- ---- the call
measured_told : (c : Checked) (gates outs : ℕ) (m : Result Counts Refusal) → m ≡ measured_of c gates outs → refusal_of m ≡ c
unfolding measured_of refusal_of
measured_told (Ok tt) gates outs m e = rw e
measured_told (Err r) gates outs m e = rw e

module _ (text : List ℕ) (n t p : ℕ) (m : Result Counts Refusal) (h : MeasuredAs text n t p m) where
  pub told : refusal_of m ≡ first_of (text_checks n t p text)
  told = measured_told (first_of (text_checks n t p text)) (length (import_bodies p text).gates) (length (import_bodies p text).outs) m (h.eq ∙ (unfold measure in refl))

  parts : (room : ℕ) → import_answer n t p text room ≡ and_then (refusal_of m) (need refusal.BufferLength (eqb room (length (import_file n t p text))))
  unfolding import_answer import_checks
  parts room =
      first_of-append (text_checks n t p text) (need refusal.BufferLength (eqb room (length (import_file n t p text))) ∷ [])
      ∙ ap₂ and_then (sym told) (one (need refusal.BufferLength (eqb room (length (import_file n t p text)))))
    where
      one : (c : Checked) → first_of (c ∷ []) ≡ c
      one (Ok tt) = unfold first_of in unfold and_then in refl
      one (Err r) = unfold first_of in unfold and_then in refl

  after : (out : List ℕ) (a : Checked) → import_answer n t p text (length out) ≡ a → import_after n t p text out ≡ unless_refused a (import_file n t p text) out
  unfolding import_after
  after out a e = ap (λ (c : Checked). unless_refused c (import_file n t p text) out) e

  module _ (r : Refusal) (q : m ≡ Err r) where
    pub refused : refusal_of m ≡ Err r
    unfolding refusal_of
    refused = rw q

    answer_refused : (room : ℕ) → import_answer n t p text room ≡ Err r
    answer_refused room = parts room ∙ and_then_refused _ _ r refused

    pub import-refused : (room : ℕ) → Err r ≡ import_answer n t p text room
    import-refused room = sym (answer_refused room)

    pub import-kept : (out : List ℕ) → out ≡ import_after n t p text out
    unfolding unless_refused
    import-kept out = sym (after out (Err r) (answer_refused (length out)))

  module _ (c : Counts) (q : m ≡ Ok c) where
    pub counts_small : (c.gates ≤ 1024) × (c.outs ≤ 64)
    unfolding Ready
    counts_small = let b = rw q at h.ready in (b.gates_few, b.outs_few)

    pub gates_small : c.gates ≤ 1024
    gates_small = counts_small.0

    pub outs_small : c.outs ≤ 64
    outs_small = counts_small.1

    pub counts-text : Importable text n t p c.gates
    unfolding Ready
    counts-text = (rw q at h.ready).text

    outs_same : c.outs ≡ output_wires (circuit_of text)
    unfolding Ready
    outs_same = (rw q at h.ready).outs_are

    pub counts-parties : n ≤ 15
    counts-parties = counts-text.parties

    pub counts-room : (out : List ℕ) (v size : ℕ) → v ≡ version_for p → size ≡ file_size v n c.gates c.outs → length out ≡ size → length out ≡ file_size (version_for p) n c.gates (output_wires (circuit_of text))
    counts-room out v size ev s e = e ∙ s ∙ ap₂ (λ (k o : ℕ). file_size k n c.gates o) ev outs_same

    pub file_size_lem : length (import_file n t p text) ≡ file_size (version_for p) n c.gates c.outs
    unfolding import_file import_bodies
    file_size_lem =
        made_long n t p (circuit_bodies p (circuit_of text))
        ∙ (unfold circuit_bodies in rw (← counts-text.count, outs_long n p (circuit_of text) counts-text.rules, ← outs_same))

    pub passed : refusal_of m ≡ (Ok tt)
    unfolding refusal_of
    passed = rw q

    module _ (out : List ℕ) (v size : ℕ) (ev : v ≡ version_for p) (es : size ≡ file_size v n c.gates c.outs) where
      answer-is : import_answer n t p text (length out) ≡ need refusal.BufferLength (eqb (length out) size)
      answer-is = parts (length out) ∙ and_then_passed _ _ passed ∙ ap (λ (k : ℕ). need refusal.BufferLength (eqb (length out) k)) (file_size_lem ∙ ap (λ (k : ℕ). file_size k n c.gates c.outs) (sym ev) ∙ sym es)

      pub import-length : (length out ≡ size → ⊥) → Err refusal.BufferLength ≡ import_answer n t p text (length out)
      unfolding need
      import-length l = sym (answer-is ∙ rw (ne_eqb (length out) size l))

      pub import-left : (length out ≡ size → ⊥) → out ≡ import_after n t p text out
      unfolding unless_refused
      import-left l = sym (after out (Err refusal.BufferLength) (sym (import-length l)))

      module _ (l : length out ≡ size) where
        pub import-passed : (Ok tt) ≡ import_answer n t p text (length out)
        unfolding need
        import-passed = sym (answer-is ∙ rw (eq-eqb (length out) size l))

        pub import-written : (new : List ℕ) → new ≡ file_of_plan n t p (circuit_bodies p (circuit_of text)) → new ≡ import_after n t p text out
        unfolding unless_refused import_file import_bodies
        import-written new e = e ∙ sym (after out (Ok tt) (sym import-passed))

pub ruleset importing = (rules, import-refused, import-kept, gates_small, outs_small, counts-text, counts-parties, counts-room, import-length, import-left, import-passed, import-written)
