-- What each way through the writer says of its definition.
--     writing       the contents and the view of all parties
--     recording     the call
-- Assumes nothing.
use Rattle.std.proofs.Common.{Ok, Err}
use Prim.Native.Nat.{ℕ, ◌+◌, ◌-◌, ◌*◌, ◌^◌, ◌≤◌}
use mathlib.Core.Path.{◌≡◌, sym, ap, ap₂, ◌∙◌}
use mathlib.Core.List.{List, [], ◌∷◌, ◌++◌, append-nil}
use native.Mathlib.Omega.{arith}
use borrow.Author.Rules.{rules}
use borrow.Author.Tests.{ne_eqb, eq-eqb}
use lib.Dec.{eqb}
use lib.ListN.{length, take, drop, replicate, length-append, length-drop, take-append-drop, drop_of_length-le}
use lib.Seq.{take_all, drop_at, length-take-le}
use Rattle.numbers.specs.Bytes.{width, numbers, bytes_of}
use Rattle.plan.specs.declared.Header.{Header}
use Rattle.plan.specs.Refusals.{Checked}
use Rattle.plan.specs.declared.Refusal.{Refusal}
use Rattle.plan.specs.declared.Refusal.TheVariants as refusal
use Rattle.plan.specs.Refusals.{and_then, first_of, need}
use Rattle.plan.specs.Plans.{parties}
use Rattle.plan.specs.File.{plan_checks, plan_check, plan_of}
use Rattle.plan.specs.Planned.{Planned}
use Rattle.plan.proofs.Refusals.{and_then_passed, and_then_refused, and_then_end, first_of-append, need-true, need-false}
use Rattle.plan.proofs.Planned.{plan_n}
use Rattle.plan_coalition.specs.Coalitions.{members}
use Rattle.seat_messages.specs.Calls.{unless_refused}
use Rattle.run_protocol.specs.Rounds.{at_end, view, view_count}
use Rattle.run_bench.specs.BenchCalls.{broken_check, given_checks}
use Rattle.run_bench.proofs.BenchLaws.{given_passed}
use Rattle.record_laws.specs.Records.{record_size, contents_of, record_of, record_checks, record_answer, record_after, record_spent}
use Rattle.record_laws.proofs.Sizes.{size_is}
use Rattle.record_write.proofs.Contents.{everyone, everyone_within, few-parties, contents_fit}

-- ---- the record
module _ {bs : List ℕ} {h : Header} (pl : Planned bs h) where
  size_at : record_size (plan_of bs) ≡ 8 * h.n + width * view_count (plan_of bs) (parties (plan_of bs))
  size_at = size_is (plan_of bs) ∙ ap (λ (n : ℕ). 8 * n + width * view_count (plan_of bs) (parties (plan_of bs))) (plan_n pl)

  module _ (s : List ℕ) (long : length s ≡ record_size (plan_of bs)) where
    pub contents-room : 8 * h.n ≤ length s
    contents-room = omega (arith, size_at)

    module _ (d : List ℕ) (same : length d ≡ length s) where
      pub bodies-start : 8 * h.n ≤ length d
      bodies-start = omega (arith, contents-room)

      part-is : take (length d - 8 * h.n) (drop (8 * h.n) d) ≡ drop (8 * h.n) d
      part-is = take_all (length d - 8 * h.n) (drop (8 * h.n) d) (rw length-drop (omega arith))

      part-long : length (take (length d - 8 * h.n) (drop (8 * h.n) d)) ≡ width * view_count (plan_of bs) (parties (plan_of bs))
      part-long = ap length part-is ∙ length-drop (8 * h.n) d ∙ omega (arith, size_at)

      module _ (set : ℕ) (es : set ≡ 2 ^ h.n - 1) where
        pub bodies-room : length (take (length d - 8 * h.n) (drop (8 * h.n) d)) ≡ width * view_count (plan_of bs) (members set)
        bodies-room = part-long ∙ ap (λ (ms : List ℕ). width * view_count (plan_of bs) ms) (sym (everyone pl set es))

        nothing-after : drop (length d - 8 * h.n) (drop (8 * h.n) d) ≡ []
        nothing-after = drop_of_length-le (drop (8 * h.n) d) {i = length d - 8 * h.n} (rw length-drop (omega arith))

        -- where the run is refused, nothing is written
        pub record-kept : (c : Checked) (q : Refusal) (ys new view : List ℕ) → c ≡ Err q → ys ≡ unless_refused c new (take (length d - 8 * h.n) (drop (8 * h.n) d))
            → take (8 * h.n) d ++ (ys ++ drop (length d - 8 * h.n) (drop (8 * h.n) d)) ≡ unless_refused c view d
        unfolding unless_refused
        record-kept c q ys new view e ey =
            rw e
            (ap (λ (xs : List ℕ). take (8 * h.n) d ++ (xs ++ drop (length d - 8 * h.n) (drop (8 * h.n) d))) (rw e at ey)
            ∙ ap (λ (xs : List ℕ). take (8 * h.n) d ++ xs) (take-append-drop (length d - 8 * h.n) (drop (8 * h.n) d))
            ∙ take-append-drop (8 * h.n) d)

        module _ (ys : List ℕ) where
          abbrev written : List ℕ
          written = take (8 * h.n) d ++ (ys ++ drop (length d - 8 * h.n) (drop (8 * h.n) d))

          front-long : length (take (8 * h.n) d) ≡ 8 * h.n
          front-long = length-take-le (8 * h.n) d bodies-start

          pub front-room : 8 * h.n ≤ length (take (8 * h.n) d ++ (ys ++ drop (length d - 8 * h.n) (drop (8 * h.n) d)))
          front-room = omega (arith, front-long, length-append (take (8 * h.n) d) (ys ++ drop (length d - 8 * h.n) (drop (8 * h.n) d)))

          pub front-whole : 8 * h.n ≤ length (take (8 * h.n) (take (8 * h.n) d ++ (ys ++ drop (length d - 8 * h.n) (drop (8 * h.n) d))))
          front-whole = omega (arith, length-take-le (8 * h.n) written front-room)

          pub record_is :
              (inputs coins triples zs : List ℕ) (c : Checked) → c ≡ (Ok tt)
              → ys ≡ unless_refused c (bytes_of (view (plan_of bs) (members set) (numbers inputs) (numbers coins) (numbers triples))) (take (length d - 8 * h.n) (drop (8 * h.n) d))
              → take (8 * h.n) zs ≡ contents_of (plan_of bs) → length zs ≡ length (take (8 * h.n) written)
              → zs ++ drop (8 * h.n) written ≡ unless_refused c (record_of (plan_of bs) (numbers inputs) (numbers coins) (numbers triples)) d
          unfolding record_of unless_refused
          record_is inputs coins triples zs c e ey ez long =
              let same : length zs ≡ 8 * h.n = long ∙ length-take-le (8 * h.n) written front-room in
              rw e
              (ap₂ ◌++◌ (sym (take_all (8 * h.n) zs (omega (arith, same))) ∙ ez)
              (drop_at (take (8 * h.n) d) (ys ++ drop (length d - 8 * h.n) (drop (8 * h.n) d)) (8 * h.n) front-long
              ∙ ap (λ (xs : List ℕ). ys ++ xs) nothing-after ∙ append-nil ys ∙ (rw e at ey)
              ∙ ap (λ (ms : List ℕ). bytes_of (view (plan_of bs) ms (numbers inputs) (numbers coins) (numbers triples))) (everyone pl set es)))

-- As it is: answers name this set, since the check leaves their goals open by `using` alone.
pub ruleset writing = (rules, few-parties, contents_fit, everyone_within, contents-room, bodies-start, bodies-room, record-kept, front-room, front-whole, record_is)

-- ---- the call
kept : (c : Checked) (r : Refusal) (new old : List ℕ) → c ≡ Err r → old ≡ unless_refused c new old
unfolding unless_refused
kept c r new old e = rw e

module _ (bs inputs coins triples out : List ℕ) where
  abbrev room-check : Checked
  room-check = need refusal.BufferLength (eqb (length out) (record_size (plan_of bs)))

  abbrev broken : Checked
  broken = broken_check (plan_of bs) (at_end (plan_of bs) (numbers inputs) (numbers coins) (numbers triples))

  answer_parts : record_answer bs inputs coins triples (length out) ≡ and_then (plan_check bs) (and_then (first_of (given_checks (plan_of bs) inputs coins triples)) (and_then room-check broken))
  unfolding record_answer record_checks plan_check first_of
  answer_parts =
      first_of-append (plan_checks bs) (given_checks (plan_of bs) inputs coins triples ++ (room-check ∷ broken ∷ []))
      ∙ ap (and_then (plan_check bs))
      (first_of-append (given_checks (plan_of bs) inputs coins triples) (room-check ∷ broken ∷ [])
      ∙ ap (λ (c : Checked). and_then (first_of (given_checks (plan_of bs) inputs coins triples)) (and_then room-check c)) (and_then_end broken))

  module _ (q : Refusal) (e : record_answer bs inputs coins triples (length out) ≡ Err q) where
    told : Err q ≡ record_answer bs inputs coins triples (length out)
    told = sym e

    kept-out : out ≡ record_after bs inputs coins triples out
    unfolding record_after
    kept-out = kept (record_answer bs inputs coins triples (length out)) q _ out e

    kept-triples : triples ≡ record_spent bs inputs coins triples (length out)
    unfolding record_spent
    kept-triples = kept (record_answer bs inputs coins triples (length out)) q _ triples e

  module _ (q : Refusal) (e : plan_check bs ≡ Err q) where
    no-plan : record_answer bs inputs coins triples (length out) ≡ Err q
    no-plan = answer_parts ∙ and_then_refused (plan_check bs) _ q e

    pub record-no-plan : Err q ≡ record_answer bs inputs coins triples (length out)
    record-no-plan = told q no-plan

    pub kept-no-plan : out ≡ record_after bs inputs coins triples out
    kept-no-plan = kept-out q no-plan

    pub unspent-no-plan : triples ≡ record_spent bs inputs coins triples (length out)
    unspent-no-plan = kept-triples q no-plan

  module _ (h : Header) (pl : Planned bs h) (c : Checked) (ec : c ≡ first_of (given_checks (plan_of bs) inputs coins triples)) where
    past_plan : record_answer bs inputs coins triples (length out) ≡ and_then c (and_then room-check broken)
    past_plan = answer_parts ∙ and_then_passed (plan_check bs) _ pl.passes ∙ ap (λ (d : Checked). and_then d (and_then room-check broken)) (sym ec)

    module _ (q : Refusal) (f : c ≡ Err q) where
      not-given : record_answer bs inputs coins triples (length out) ≡ Err q
      not-given = past_plan ∙ and_then_refused c _ q f

      pub record-not-given : Err q ≡ record_answer bs inputs coins triples (length out)
      record-not-given = told q not-given

      pub kept-not-given : out ≡ record_after bs inputs coins triples out
      kept-not-given = kept-out q not-given

      pub unspent-not-given : triples ≡ record_spent bs inputs coins triples (length out)
      unspent-not-given = kept-triples q not-given

    module _ (f : c ≡ (Ok tt)) (size : ℕ) (es : size ≡ record_size (plan_of bs)) where
      past-given : record_answer bs inputs coins triples (length out) ≡ and_then (need refusal.BufferLength (eqb (length out) size)) broken
      past-given = past_plan ∙ and_then_passed c _ f ∙ ap (λ (k : ℕ). and_then (need refusal.BufferLength (eqb (length out) k)) broken) (sym es)

      module _ (ne : length out ≡ size → ⊥) where
        short : record_answer bs inputs coins triples (length out) ≡ Err refusal.BufferLength
        short = past-given ∙ and_then_refused _ broken refusal.BufferLength (need-false refusal.BufferLength (eqb (length out) size) (ne_eqb (length out) size ne))

        pub record-short : Err refusal.BufferLength ≡ record_answer bs inputs coins triples (length out)
        record-short = told refusal.BufferLength short

        pub kept-short : out ≡ record_after bs inputs coins triples out
        kept-short = kept-out refusal.BufferLength short

        pub unspent-short : triples ≡ record_spent bs inputs coins triples (length out)
        unspent-short = kept-triples refusal.BufferLength short

      module _ (eq : length out ≡ size) where
        pub record-room : length out ≡ record_size (plan_of bs)
        record-room = eq ∙ es

        -- the run's own answer
        module _ (d : Checked) (ed : d ≡ broken_check (plan_of bs) (at_end (plan_of bs) (numbers inputs) (numbers coins) (numbers triples))) where
          past-room : record_answer bs inputs coins triples (length out) ≡ d
          past-room = past-given ∙ and_then_passed _ broken (need-true refusal.BufferLength (eqb (length out) size) (eq-eqb (length out) size eq)) ∙ sym ed

          module _ (q : Refusal) (g : d ≡ Err q) where
            pub record-broken : Err q ≡ record_answer bs inputs coins triples (length out)
            record-broken = told q (past-room ∙ g)

            pub kept-broken : (new view : List ℕ)
                → new ≡ unless_refused (broken_check (plan_of bs) (at_end (plan_of bs) (numbers inputs) (numbers coins) (numbers triples))) view out → new ≡ record_after bs inputs coins triples out
            unfolding unless_refused
            kept-broken new view en = rw (← ed, g) at en ∙ kept-out q (past-room ∙ g)

            pub unspent-broken : triples ≡ record_spent bs inputs coins triples (length out)
            unspent-broken = kept-triples q (past-room ∙ g)

          module _ (g : d ≡ (Ok tt)) where
            pub record-done : (Ok tt) ≡ record_answer bs inputs coins triples (length out)
            record-done = sym (past-room ∙ g)

            pub record-written : (new : List ℕ)
                → new ≡ unless_refused (broken_check (plan_of bs) (at_end (plan_of bs) (numbers inputs) (numbers coins) (numbers triples)))
                (record_of (plan_of bs) (numbers inputs) (numbers coins) (numbers triples)) out
                → new ≡ record_after bs inputs coins triples out
            unfolding record_after unless_refused
            record-written new en = rw (past-room, g) (rw (← ed, g) at en)

            pub record-spent : (new : List ℕ) → new ≡ replicate (length triples) 0 → new ≡ record_spent bs inputs coins triples (length out)
            unfolding record_spent unless_refused
            record-spent new en = rw (past-room, g) en

pub ruleset recording = (rules, record-no-plan, kept-no-plan, unspent-no-plan, record-not-given, kept-not-given, unspent-not-given, record-short, kept-short, unspent-short, record-room, record-broken, kept-broken, unspent-broken, record-done, record-written, record-spent, given_passed)
