-- The sheet's checks, by what the code finds; and what it writes.
--     sheet-wired, file-checks     after 27 and 24 only 3 to 6, 8 and 25 can fall
--     measuring, compiling         what closes the needs of the functions
-- Assumes nothing.
use Rattle.std.proofs.Common.{Option, Some, None, Result, Ok, Err, ok_or}
use Prim.Native.Nat.{ℕ, zero, suc, ◌+◌, ◌*◌, ◌<◌, ◌≤◌}
use mathlib.Core.Path.{◌≡◌, refl, sym, ap, ap₂, subst, ◌∙◌}
use mathlib.Core.Bool.{Bool, true, false, cond, ◌&&◌}
use mathlib.Core.List.{List, [], ◌∷◌, ◌++◌}
use native.Mathlib.Omega.{arith}
use borrow.Author.Rules.{rules}
use borrow.Author.Tests.{le-leb, lt-leb, lt-ltb, ltb-true, eq-eqb, ne_eqb, not-true, not-false}
use lib.Dec.{T, eqb, leb}
use lib.ListN.{length, get_or, take, drop}
use mir.Syntax.{w32}
use mir.Val.{Fits}
use Rattle.numbers.specs.Tables.{first_from, first_failing}
use Rattle.field.proofs.Primes.{prime_sound}
use Rattle.plan.specs.Refusals.{Checked}
use Rattle.plan.specs.declared.Refusal.{Refusal}
use Rattle.plan.specs.declared.Refusal.TheVariants as refusal
use Rattle.plan.specs.declared.Output.{Output}
use Rattle.plan.specs.Refusals.{and_then, first_of, need, unless_found}
use Rattle.plan.specs.File.{between, out_ok, parties_ok, threshold_ok, modulus_ok, majority_check, plan_check}
use Rattle.plan.proofs.Refusals.{first_of-append, and_then_assoc, and_then_passed, and_then_refused, passed_both, passed-need}
use Rattle.plan.proofs.Ranges.{contains_is}
use Rattle.plan.proofs.Planned.{between-true, modulus_prime, modulus_small}
use Rattle.plan_file.specs.Bodies.{file_size, version_for, file_of_plan, content_checks, out_made}
use Rattle.plan_file.proofs.Files.{Wired, file_check_outs, file_majority}
use Rattle.plan_file.proofs.Files as files
use Rattle.plan_file.proofs.Rooms.{room_long, room-majority, rooms}
use Rattle.seat_messages.specs.Calls.{unless_refused}
use Rattle.sheet_text.specs.Trees.{names_of, gate_count}
use Rattle.sheet_text.specs.Making.{sheet_tree, sheet_ok, tree_made, bodies_with, tree_bodies}
use Rattle.sheet_text.proofs.Proper.{some_name, sheet_below}
use Rattle.sheet_text.proofs.Sound.{made_long, made-gates, made-wire, made_kinds}
use Rattle.sheet_write.specs.declared.Counts.{Counts}
use Rattle.sheet_write.specs.Passes.{table_of, up_to, SurveyIs, Surveyed, Compilable}
use Rattle.sheet_write.proofs.Passing.{up_is, up_le, up_few, fresh}
use Rattle.sheet_call.specs.Compiling.{sheet_bodies, sheet_file, text_checks, sheet_checks, sheet_answer, sheet_after, refusal_of}
use Rattle.sheet_call.specs.Measures.{Counted, Ready, MeasuredAs, Sized, Measuring}

-- ---- after 27 and 24
prime_above : (n p : ℕ) → modulus_ok n p ≡ true → 2 ≤ p
prime_above n p m = (prime_sound p (subst T (sym (modulus_prime n p m)) tt)).above

module _ (n t p i : ℕ) (text : List ℕ) (ok : sheet_ok n p text ≡ true) where
  pub names-some : 1 ≤ length (names_of (sheet_tree n p text))
  unfolding sheet_ok
  names-some = some_name (length (names_of (sheet_tree n p text))) ok

  gates-count : length (sheet_bodies n p i text).gates ≡ length (names_of (sheet_tree n p text)) + gate_count (sheet_tree n p text)
  unfolding sheet_bodies tree_bodies bodies_with
  gates-count = made_long p (sheet_tree n p text)

  outs-count : length (sheet_bodies n p i text).outs ≡ 1
  unfolding sheet_bodies tree_bodies bodies_with
  outs-count = refl

  -- 7 cannot fall
  pub sheet-wired : 2 ≤ p → Wired n p (sheet_bodies n p i text)
  unfolding sheet_bodies tree_bodies bodies_with
  sheet-wired two =
      let below = sheet_below n p text (omega arith) in
      record {
        low = λ g l. made_kinds p (sheet_tree n p text) g;
        gates = made-gates n p (sheet_tree n p text) (omega arith) below names-some;
        wires = λ o l. one o l (made-wire n p (sheet_tree n p text) (omega arith) below names-some);
      }
    where
      one : (o : ℕ) → o < 1 → (tree_made p (sheet_tree n p text)).wire < length (tree_made p (sheet_tree n p text)).gates
          → (get_or {A = Output} (record { party = i; wire = (tree_made p (sheet_tree n p text)).wire } ∷ []) o (record { party = 0; wire = 0 })).wire < length (tree_made p (sheet_tree n p text)).gates
      one zero l h = h
      one (suc o) l h = absurd (omega arith)

  -- 8 falls where the result's party is none of 1 to n
  outs_are : (w : (tree_made p (sheet_tree n p text)).wire < length (tree_made p (sheet_tree n p text)).gates)
      → unless_found refusal.OutputRule (first_failing (out_made n (sheet_bodies n p i text)) (length (sheet_bodies n p i text).outs)) ≡ need (refusal.OutputRule 0) (between 1 n i)
  unfolding sheet_bodies tree_bodies bodies_with first_failing first_from out_made out_ok
  outs_are w = rw (lt-ltb (tree_made p (sheet_tree n p text)).wire (length (tree_made p (sheet_tree n p text)).gates) w) (by (between 1 n i))
    where
      by : (x : Bool) → unless_found refusal.OutputRule (cond (x && true) None (Some 0)) ≡ need (refusal.OutputRule 0) x
      by true = unfold unless_found in unfold need in refl
      by false = unfold unless_found in unfold need in refl

  module _ (few : length (sheet_bodies n p i text).gates ≤ 1024) where
    file-checks : plan_check (sheet_file n t p i text)
        ≡ and_then (first_of (content_checks n t p (length (sheet_bodies n p i text).gates) 1)) (and_then (need (refusal.OutputRule 0) (between 1 n i)) (majority_check (sheet_file n t p i text)))
    unfolding sheet_file
    file-checks =
        file_check_outs n t p (sheet_bodies n p i text) few (omega (arith, outs-count)) (λ a m. sheet-wired (prime_above n p m))
        ∙ rw outs-count (late (modulus_ok n p) refl)
      where
        major : Checked
        major = majority_check (file_of_plan n t p (sheet_bodies n p i text))

        found : Checked
        found = and_then (unless_found refusal.OutputRule (first_failing (out_made n (sheet_bodies n p i text)) 1)) major

        told : Checked
        told = and_then (need (refusal.OutputRule 0) (between 1 n i)) major

        late : (z : Bool) → modulus_ok n p ≡ z
            → and_then (first_of (content_checks n t p (length (sheet_bodies n p i text).gates) 1)) found ≡ and_then (first_of (content_checks n t p (length (sheet_bodies n p i text).gates) 1)) told
        late true m =
            let two : 2 ≤ p = prime_above n p m in
            let w = made-wire n p (sheet_tree n p text) (omega arith) (sheet_below n p text (omega arith)) names-some in
            ap (λ (c : Checked). and_then (first_of (content_checks n t p (length (sheet_bodies n p i text).gates) 1)) (and_then c major)) (rw outs-count at (outs_are w))
        late false m = unfold content_checks in unfold first_of in rw m (by (parties_ok n) (threshold_ok n t) (and_then (need refusal.Layout (between 1 1024 (length (sheet_bodies n p i text).gates) && leb 1 64)) (Ok tt)))
          where
            by : (x y : Bool) (c : Checked) → and_then (and_then (need refusal.Parties x) (and_then (need refusal.Threshold y) (and_then (need refusal.Modulus false) c))) found
                ≡ and_then (and_then (need refusal.Parties x) (and_then (need refusal.Threshold y) (and_then (need refusal.Modulus false) c))) told
            by true true c = unfold need in unfold and_then in refl
            by true false c = unfold need in unfold and_then in refl
            by false y c = unfold need in unfold and_then in refl

    text-told : first_of (text_checks n t p i text)
        ≡ and_then (first_of (content_checks n t p (length (sheet_bodies n p i text).gates) 1)) (and_then (need (refusal.OutputRule 0) (between 1 n i)) (majority_check (sheet_file n t p i text)))
    unfolding text_checks first_of and_then need
    text-told = rw (ok, le-leb (length (sheet_bodies n p i text).gates) 1024 few) (unfold plan_check in file-checks)

-- what the contents' checks say where all pass
module _ (n t p gates outs : ℕ) (passed : first_of (content_checks n t p gates outs) ≡ (Ok tt)) where
  contents-parts : (parties_ok n ≡ true) × (threshold_ok n t ≡ true) × (modulus_ok n p ≡ true)
  unfolding content_checks first_of
  contents-parts =
      let a = passed_both _ _ passed in
      let b = passed_both _ _ a.1 in
      let c = passed_both _ _ b.1 in
      (passed-need refusal.Parties _ a.0, passed-need refusal.Threshold _ b.0, passed-need refusal.Modulus _ c.0)

-- ---- 25
module _ (text : List ℕ) (n t p i inputs gates : ℕ) (w : Compilable text n t p i inputs gates (table_of 1025 (names_of (sheet_tree n p text)))) where
  pub majority-fits : Fits w32 (2 * t)
  majority-fits = record { fits = omega (arith, w.threshold) }

  pub majority-passed : 2 * t < n → (Ok tt) ≡ majority_check (sheet_file n t p i text)
  unfolding sheet_file
  majority-passed l = file_majority n t p (sheet_bodies n p i text) l

  pub majority-parties : n ≤ 15
  majority-parties = w.parties

  pub majority-gates : gates ≤ 1024
  majority-gates = w.few

  module _ (r : Option Counts) (names : List ℕ) (h : Surveyed n p text r names) where
    -- no such answer
    pub majority-wrong : r ≡ None → (Ok tt) ≡ majority_check (sheet_file n t p i text)
    unfolding SurveyIs
    majority-wrong e = let k : true ≡ false = sym w.ok ∙ (rw e at h.is) in absurd (let z : ◌≡◌ {A = ℕ} 0 1 = cc in omega arith)

    pub majority-again : (a : Counts) → r ≡ Some a → Compilable text n t p i inputs gates names
    unfolding SurveyIs
    majority-again a e = rw (table (rw e at h.is)) w
      where
        table : record { ok : sheet_ok n p text ≡ true; inputs_are : a.inputs ≡ up_to (length (names_of (sheet_tree n p text))); gates_are : a.gates ≡ a.inputs + up_to (gate_count (sheet_tree n p text)); table : names ≡ table_of 1025 (names_of (sheet_tree n p text)) }
            → names ≡ table_of 1025 (names_of (sheet_tree n p text))
        table k = k.table

  module _ (v size : ℕ) (ev : v ≡ version_for p) (es : size ≡ file_size v n gates 1) (room : List ℕ) (long : length room ≡ 10524) (few : size ≤ 10524) where
    pub majority-room : length (take size room) ≡ file_size (version_for p) n gates 1
    majority-room = room_long size room long few ∙ es ∙ ap (λ (k : ℕ). file_size k n gates 1) ev

    pub majority-is : (ys : List ℕ) (c : Checked) → length ys ≡ length (take size room) → ys ≡ file_of_plan n t p (tree_bodies p i (sheet_tree n p text))
        → c ≡ majority_check (take size (ys ++ drop size room)) → c ≡ majority_check (sheet_file n t p i text)
    unfolding sheet_file sheet_bodies
    majority-is ys c kept is e = room-majority size room long few ys kept c (file_of_plan n t p (tree_bodies p i (sheet_tree n p text))) is e

-- As it is: answers name this set, since the check leaves their goals open by `using` alone.
pub ruleset majorities = (rules, fresh, majority-fits, majority-passed, majority-parties, majority-gates, majority-wrong, majority-again, majority-room, majority-is, rooms)

-- ---- 3 to 6, 8 and 25
module _ (n t p i inputs gates : ℕ) (text : List ℕ) (w : Counted text n p inputs gates) where
  plan-compilable : (names : List ℕ) → names ≡ table_of 1025 (names_of (sheet_tree n p text))
      → and_then (first_of (content_checks n t p gates 1)) (need (refusal.OutputRule 0) (between 1 n i)) ≡ (Ok tt) → Compilable text n t p i inputs gates names
  plan-compilable names table q =
      let both = passed_both (first_of (content_checks n t p gates 1)) (need (refusal.OutputRule 0) (between 1 n i)) q in
      let parts = contents-parts n t p gates 1 both.0 in
      let parties : n ≤ 15 = (between-true 1 15 n parts.0).1 in
      let seat : i ≤ n = (between-true 1 n i (passed-need (refusal.OutputRule 0) (between 1 n i) both.1)).1 in
      record {
        ok = w.ok;
        inputs_are = w.inputs_are;
        gates_are = w.gates_are;
        few = w.few;
        table = table;
        parties = parties;
        threshold = omega (arith, parties, ltb-true t n parts.1);
        prime = prime_above n p parts.2;
        small = modulus_small n p parts.2;
        result = omega (arith, parties, seat);
      }

  module _ (c : Checked) (ec : c ≡ first_of (content_checks n t p gates 1)) where
    pub plan-refused : (r : Refusal) (x : Checked) → c ≡ Err r → x ≡ Err r
        → x ≡ and_then (and_then (first_of (content_checks n t p gates 1)) (need (refusal.OutputRule 0) (between 1 n i))) (majority_check (sheet_file n t p i text))
    unfolding and_then
    plan-refused r x q z = z ∙ rw (← ec, q)

    module _ (passed : c ≡ (Ok tt)) (y : Bool) (ey : y ≡ between 1 n i) where
      pub plan-no-party : y ≡ false
          → Err (refusal.OutputRule 0) ≡ and_then (and_then (first_of (content_checks n t p gates 1)) (need (refusal.OutputRule 0) (between 1 n i))) (majority_check (sheet_file n t p i text))
      unfolding and_then need
      plan-no-party e = rw (← ec, passed, ← ey, e)

      module _ (e : y ≡ true) where
        first : and_then (first_of (content_checks n t p gates 1)) (need (refusal.OutputRule 0) (between 1 n i)) ≡ (Ok tt)
        unfolding and_then need
        first = rw (← ec, passed, ← ey, e)

        pub plan-made : Compilable text n t p i inputs gates (table_of 1025 (names_of (sheet_tree n p text)))
        plan-made = plan-compilable (table_of 1025 (names_of (sheet_tree n p text))) refl first

        pub plan-further : (d : Checked) → d ≡ majority_check (sheet_file n t p i text)
            → d ≡ and_then (and_then (first_of (content_checks n t p gates 1)) (need (refusal.OutputRule 0) (between 1 n i))) (majority_check (sheet_file n t p i text))
        plan-further d is = is ∙ sym (and_then_passed _ _ first)

pub ruleset checking_plan = (rules, not-true, not-false, contains_is, plan-refused, plan-no-party, plan-made, plan-further)

-- ---- what `ok_or` answers
pub some_of : (m : Result Counts Refusal) (r : Option Counts) (x : Refusal) (c : Counts) → m ≡ ok_or r x → m ≡ Ok c → r ≡ Some c
some_of m (Some d) x c k e = cc
some_of m None x c k e = absurd (let z : ◌≡◌ {A = ℕ} 0 1 = cc in omega arith)

none_of : (r : Option Counts) (x q : Refusal) → ok_or r x ≡ Err q → (r ≡ None) × (q ≡ x)
none_of (Some d) x q e = absurd (let z : ◌≡◌ {A = ℕ} 0 1 = cc in omega arith)
none_of None x q e = (refl, cc)

-- ---- the first pass
module _ (n t p i : ℕ) (text : List ℕ) (r : Option Counts) (names : List ℕ) (h : Surveyed n p text r names) where
  pub measure-wrong : r ≡ None → MeasuredAs text n t p i (Err refusal.SheetText) names
  unfolding text_checks first_of and_then need refusal_of Ready SurveyIs
  measure-wrong e = let k : sheet_ok n p text ≡ false = rw e at h.is in record { told = rw k; ready = tt; long = h.long }

  module _ (m : Result Counts Refusal) (em : m ≡ ok_or r refusal.SheetText) where
    pub measure-none : (q : Refusal) → m ≡ Err q → MeasuredAs text n t p i (Err q) names
    measure-none q e = let k = none_of r refusal.SheetText q (sym em ∙ e) in rw k.1 (measure-wrong k.0)

  module _ (c : Counts) (e : r ≡ Some c) where
    record Told : Type 0 where
      ok : sheet_ok n p text ≡ true
      inputs_are : c.inputs ≡ up_to (length (names_of (sheet_tree n p text)))
      gates_are : c.gates ≡ c.inputs + up_to (gate_count (sheet_tree n p text))
      table : names ≡ table_of 1025 (names_of (sheet_tree n p text))

    counted : Told
    unfolding SurveyIs
    counted = let k = counts (rw e at h.is) in k
      where
        counts : record { ok : sheet_ok n p text ≡ true; inputs_are : c.inputs ≡ up_to (length (names_of (sheet_tree n p text))); gates_are : c.gates ≡ c.inputs + up_to (gate_count (sheet_tree n p text)); table : names ≡ table_of 1025 (names_of (sheet_tree n p text)) } → Told
        counts k = record { ok = k.ok; inputs_are = k.inputs_are; gates_are = k.gates_are; table = k.table }

    all : length (sheet_bodies n p i text).gates ≡ length (names_of (sheet_tree n p text)) + gate_count (sheet_tree n p text)
    all = gates-count n t p i text counted.ok

    pub measure-large : 1024 < c.gates → MeasuredAs text n t p i (Err refusal.TooLarge) names
    unfolding text_checks first_of and_then need refusal_of Ready
    measure-large l =
        let large : 1024 < length (sheet_bodies n p i text).gates = omega (arith, all, counted.inputs_are, counted.gates_are, up_le (length (names_of (sheet_tree n p text))), up_le (gate_count (sheet_tree n p text))) in
        record { told = rw (counted.ok, lt-leb (length (sheet_bodies n p i text).gates) 1024 large); ready = tt; long = h.long }

    module _ (few : c.gates ≤ 1024) where
      names-are : c.inputs ≡ length (names_of (sheet_tree n p text))
      names-are = counted.inputs_are ∙ up_is (length (names_of (sheet_tree n p text))) (omega (arith, counted.inputs_are, counted.gates_are))

      gates_are : length (sheet_bodies n p i text).gates ≡ c.gates
      gates_are =
          let g : up_to (gate_count (sheet_tree n p text)) ≡ gate_count (sheet_tree n p text) = up_is (gate_count (sheet_tree n p text)) (omega (arith, counted.gates_are)) in
          omega (arith, all, counted.gates_are, names-are, g)

      pub measure-counted : Counted text n p c.inputs c.gates
      measure-counted = record {
        ok = counted.ok;
        inputs_are = names-are;
        gates_are = sym gates_are ∙ (unfold sheet_bodies in unfold tree_bodies in unfold bodies_with in refl);
        few = few;
      }

      module _ (d : Checked) (ed : d ≡ and_then (and_then (first_of (content_checks n t p c.gates 1)) (need (refusal.OutputRule 0) (between 1 n i))) (majority_check (sheet_file n t p i text))) where
        told : d ≡ first_of (text_checks n t p i text)
        told =
            ed ∙ and_then_assoc (first_of (content_checks n t p c.gates 1)) (need (refusal.OutputRule 0) (between 1 n i)) (majority_check (sheet_file n t p i text))
            ∙ sym (text-told n t p i text counted.ok (omega (arith, gates_are)) ∙ rw gates_are)

        compilable : d ≡ (Ok tt) → Compilable text n t p i c.inputs c.gates names
        compilable q =
            plan-compilable n t p i c.inputs c.gates text measure-counted names counted.table
            (passed_both (and_then (first_of (content_checks n t p c.gates 1)) (need (refusal.OutputRule 0) (between 1 n i))) (majority_check (sheet_file n t p i text)) (sym ed ∙ q)).0

        pub measure-counts : d ≡ (Ok tt) → MeasuredAs text n t p i (Ok c) names
        unfolding refusal_of Ready
        measure-counts q = record { told = sym q ∙ told; ready = compilable q; long = h.long }

        pub measure-refused : (y : Result Counts Refusal) (q : Refusal) → d ≡ Err q → y ≡ Err q → MeasuredAs text n t p i y names
        unfolding refusal_of Ready
        measure-refused y q s z = rw z (record { told = sym s ∙ told; ready = tt; long = h.long })

pub ruleset measuring = (rules, measure-large, measure-counted, measure-counts, measure-refused)

-- ---- the call
file_size_lem : (text : List ℕ) (n t p i inputs gates : ℕ) (names : List ℕ) → Compilable text n t p i inputs gates names → length (sheet_file n t p i text) ≡ file_size (version_for p) n gates 1
unfolding sheet_file sheet_bodies tree_bodies bodies_with
file_size_lem text n t p i inputs gates names h = files.made_long n t p (bodies_with i (tree_made p (sheet_tree n p text))) ∙ (unfold bodies_with in rw (← h.gates_are))

module _ (text : List ℕ) (n t p i : ℕ) (m : Result Counts Refusal) (names : List ℕ) (h : MeasuredAs text n t p i m names) where
  pub measured-sized : Measuring text n t p i m
  measured-sized = record { told = h.told; sized = by m h.ready }
    where
      by : (x : Result Counts Refusal) → Ready text n t p i x names → Sized text n t p i x
      by (Ok c) k = unfold Sized in unfold Ready in record { few = k.few; parties = k.parties; size = file_size_lem text n t p i c.inputs c.gates names k }
      by (Err r) k = unfold Sized in tt

  parts : (room : ℕ) → sheet_answer n t p i text room ≡ and_then (refusal_of m) (need refusal.BufferLength (eqb room (length (sheet_file n t p i text))))
  unfolding sheet_answer sheet_checks
  parts room =
      first_of-append (text_checks n t p i text) (need refusal.BufferLength (eqb room (length (sheet_file n t p i text))) ∷ [])
      ∙ ap₂ and_then (sym h.told) (one (need refusal.BufferLength (eqb room (length (sheet_file n t p i text)))))
    where
      one : (c : Checked) → first_of (c ∷ []) ≡ c
      one (Ok tt) = unfold first_of in unfold and_then in refl
      one (Err r) = unfold first_of in unfold and_then in refl

  after : (out : List ℕ) (a : Checked) → sheet_answer n t p i text (length out) ≡ a → sheet_after n t p i text out ≡ unless_refused a (sheet_file n t p i text) out
  unfolding sheet_after
  after out a e = ap (λ (c : Checked). unless_refused c (sheet_file n t p i text) out) e

  module _ (r : Refusal) (q : m ≡ Err r) where
    refused : refusal_of m ≡ Err r
    unfolding refusal_of
    refused = rw q

    answer_refused : (room : ℕ) → sheet_answer n t p i text room ≡ Err r
    answer_refused room = parts room ∙ and_then_refused _ _ r refused

    pub sheet-refused : (c : Checked) (room : ℕ) → c ≡ Err r → c ≡ sheet_answer n t p i text room
    sheet-refused c room e = e ∙ sym (answer_refused room)

    pub sheet-kept : (out : List ℕ) → out ≡ sheet_after n t p i text out
    unfolding unless_refused
    sheet-kept out = sym (after out (Err r) (answer_refused (length out)))

  module _ (k : Counts) (q : m ≡ Ok k) where
    pub counts-text : Compilable text n t p i k.inputs k.gates names
    unfolding Ready
    counts-text = rw q at h.ready

    pub gates_small : k.gates ≤ 1024
    gates_small = counts-text.few

    passed : refusal_of m ≡ (Ok tt)
    unfolding refusal_of
    passed = rw q

    pub counts-parties : n ≤ 15
    counts-parties = counts-text.parties

    pub counts-room : (out : List ℕ) (v size : ℕ) → v ≡ version_for p → size ≡ file_size v n k.gates 1 → length out ≡ size → length out ≡ file_size (version_for p) n k.gates 1
    counts-room out v size ev s e = e ∙ s ∙ ap (λ (v : ℕ). file_size v n k.gates 1) ev

    module _ (out : List ℕ) (v size : ℕ) (ev : v ≡ version_for p) (es : size ≡ file_size v n k.gates 1) where
      answer-is : sheet_answer n t p i text (length out) ≡ need refusal.BufferLength (eqb (length out) size)
      answer-is = parts (length out) ∙ and_then_passed _ _ passed ∙ ap (λ (k : ℕ). need refusal.BufferLength (eqb (length out) k)) (file_size_lem text n t p i k.inputs k.gates names counts-text ∙ ap (λ (v : ℕ). file_size v n k.gates 1) (sym ev) ∙ sym es)

      pub sheet-length : (length out ≡ size → ⊥) → Err refusal.BufferLength ≡ sheet_answer n t p i text (length out)
      unfolding need
      sheet-length l = sym (answer-is ∙ rw (ne_eqb (length out) size l))

      pub sheet-left : (length out ≡ size → ⊥) → out ≡ sheet_after n t p i text out
      unfolding unless_refused
      sheet-left l = sym (after out (Err refusal.BufferLength) (sym (sheet-length l)))

      module _ (l : length out ≡ size) where
        pub sheet-passed : (Ok tt) ≡ sheet_answer n t p i text (length out)
        unfolding need
        sheet-passed = sym (answer-is ∙ rw (eq-eqb (length out) size l))

        pub sheet-written : (new : List ℕ) → new ≡ file_of_plan n t p (tree_bodies p i (sheet_tree n p text)) → new ≡ sheet_after n t p i text out
        unfolding unless_refused sheet_file sheet_bodies
        sheet-written new e = e ∙ sym (after out (Ok tt) (sym sheet-passed))

-- As it is: answers name this set, since the check leaves their goals open by `using` alone.
pub ruleset compiling = (rules, fresh, measured-sized, sheet-refused, sheet-kept, counts-text, gates_small, counts-parties, counts-room, sheet-length, sheet-left, sheet-passed, sheet-written)
