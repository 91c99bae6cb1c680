-- What each way through a call says of its definition.
--     admitted     what a call that passes its checks was lent
--     advanced     the bytes of a state with another first number
--     working      what a call leaves
--     calling      the call
-- Assumes nothing.
use Rattle.std.proofs.Common.{Ok, Err}
use mathlib.Core.Path.{◌≡◌, refl, sym, ap, ap₂, ◌∙◌}
use mathlib.Core.Bool.{Bool, true, not}
use mathlib.Core.List.{List, [], ◌∷◌, ◌++◌, append-nil}
use Prim.Native.Nat.{ℕ, suc, ◌+◌, ◌-◌, ◌*◌, ◌/◌, ◌≤◌}
use native.Mathlib.Numerals.{add-one}
use native.Mathlib.Omega.{arith}
use borrow.Author.Rules.{rules}
use borrow.Author.Tests.{leb-true, eqb-true, eqb-false, not-true}
use lib.Dec.{eqb, leb}
use lib.ListN.{length, get_or, take, drop, length-append, length-drop, drop_of_length-le, take-append-drop}
use lib.Seq.{get_or-drop, drop_at, take_all, length-take-le}
use mir.Syntax.{w8}
use mir.Val.{Fits}
use Rattle.numbers.specs.Bytes.{width, numbers, bytes_of, stored, all_below}
use Rattle.numbers.proofs.Bytes.{EachBelow, fits_below, numbers-drop, holds-length, take-stored, drop-stored, bytes_of-append, bytes_of-numbers}
use Rattle.numbers.proofs.Below.{first_over-nothing}
use Rattle.numbers.proofs.Truth.{both_true}
use Rattle.plan.specs.declared.Header.{Header}
use Rattle.plan.specs.declared.PlanFile.{PlanFile}
use Rattle.plan_counts.specs.declared.Seat.{Seat}
use Rattle.plan.specs.Refusals.{Checked}
use Rattle.plan.specs.declared.Refusal.{Refusal}
use Rattle.plan.specs.declared.Refusal.TheVariants as refusal
use Rattle.plan.specs.Refusals.{and_then, first_of}
use Rattle.plan.specs.declared.Step.{Step}
use Rattle.plan.specs.Plans.{Plan, party_count, step_at, last_call, own_input_count, own_coin_count, triple_numbers, mail_count, written_count}
use Rattle.plan.specs.File.{plan_checks, plan_check, plan_of}
use Rattle.plan.specs.Planned.{Planned}
use Rattle.plan.proofs.Refusals.{and_then_passed, and_then_refused, first_of-append, passed_both, passed-need, passed_found}
use Rattle.plan.proofs.Planned.{between-true, plan_p}
use Rattle.seat_messages.specs.Messages.{learn_from, learn, spend_from, spend, call_with, call}
use Rattle.seat_messages.specs.Calls.{party_checks, call_checks, call_answer, written, unless_refused, called_on, state_after, triples_after, out_after}
use Rattle.seat_learning.specs.Lent.{Holds}
use Rattle.seat_sending.specs.Sending.{Lent}
use Rattle.seat_call.specs.Admitted.{Admitted, Whole, Learnt, Spent, Sendable, state_left, triples_left, out_left}

-- ---- a call that passes its checks
below_finished : (k last : ℕ) (t : Bool) → t ≡ eqb k (suc last) → leb k (suc last) ≡ true → not t ≡ true → k ≤ last
below_finished k last t e l n = omega (arith, leb-true k (suc last) l, eqb-false k (suc last) (sym e ∙ not-true t n))

pub admitted : (plan : Plan) (i : ℕ) (inputs coins triples state mail : List ℕ) (room : ℕ)
    → first_of (party_checks plan i inputs coins triples state mail room) ≡ (Ok tt) → Admitted plan i inputs coins triples state mail room
unfolding party_checks first_of
admitted plan i inputs coins triples state mail room h =
    let a = passed_both _ _ h in
    let b = passed_both _ _ a.1 in
    let c = passed_both _ _ b.1 in
    let d = passed_both _ _ c.1 in
    let e = passed_both _ _ d.1 in
    let v = passed_both _ _ e.1 in
    let u = passed_both _ _ v.1 in
    let f = passed_both _ _ u.1 in
    let g = passed_both _ _ f.1 in
    let j = passed_both _ _ g.1 in
    let k = passed_both _ _ j.1 in
    let l = passed_both _ _ k.1 in
    let m = passed_both _ _ l.1 in
    let party = between-true 1 (party_count plan) i (passed-need refusal.Coalition _ a.0) in
    let value = both_true (leb (get_or (numbers state) 0 0) (suc (last_call plan))) (all_below plan.p (drop 1 (numbers state))) (passed-need refusal.StateValue _ g.0) in
    record {
      party_low = party.0;
      party-high = party.1;
      inputs_long = holds-length (own_input_count plan i) inputs (passed-need refusal.InputCount _ b.0);
      inputs_below = first_over-nothing plan.p (numbers inputs) (passed_found refusal.InputValue _ c.0);
      coins_long = holds-length (own_coin_count plan i) coins (passed-need refusal.CoinCount _ d.0);
      coins_below = first_over-nothing plan.p (numbers coins) (passed_found refusal.CoinValue _ e.0);
      triples_long = holds-length (triple_numbers plan) triples (passed-need refusal.Triples _ u.0);
      triples_below = first_over-nothing plan.p (numbers triples) (passed_found refusal.CoinValue _ v.0);
      state_long = holds-length (1 + length plan.gates) state (passed-need refusal.StateCount _ f.0);
      shares_below = value.1;
      call-high = below_finished (get_or (numbers state) 0 0) (last_call plan) (eqb (get_or (numbers state) 0 0) (suc (last_call plan))) refl value.0 (passed-need refusal.Finished _ j.0);
      mail_long = holds-length (mail_count plan i (get_or (numbers state) 0 0)) mail (passed-need refusal.MailCount _ k.0);
      mail_below = first_over-nothing plan.p (numbers mail) (passed_found refusal.MailValue _ l.0);
      room-is = eqb-true room (width * written_count plan i (get_or (numbers state) 0 0)) (passed-need refusal.BufferLength _ m.0);
    }

pub admitted_by : (plan : Plan) (i : ℕ) (inputs coins triples state mail : List ℕ) (room : ℕ) (c : Checked)
    → c ≡ first_of (party_checks plan i inputs coins triples state mail room) → c ≡ (Ok tt) → Admitted plan i inputs coins triples state mail room
admitted_by plan i inputs coins triples state mail room c ec e = admitted plan i inputs coins triples state mail room (sym ec ∙ e)

-- ---- the number of the next call
module _ (bs : List ℕ) (v : ℕ) (l : Whole bs) (b : EachBelow 256 bs) where
  later-below : EachBelow 256 (drop (width * 1) bs)
  later-below i m = rw (get_or-drop (width * 1) bs i 0) (b (width * 1 + i) (omega (arith, length-drop (width * 1) bs)))

  later : drop (width * 1) bs ≡ bytes_of (drop 1 (numbers bs))
  later =
      sym
      (ap bytes_of (sym (numbers-drop bs 1))
      ∙ bytes_of-numbers (length bs / width - 1) (drop (width * 1) bs) (omega (arith, length-drop (width * 1) bs, l.exact, l.some)) later-below)

  pub advanced : stored bs 0 v ≡ bytes_of (v ∷ drop 1 (numbers bs))
  unfolding bytes_of
  advanced =
      sym (take-append-drop (width * (0 + 1)) (stored bs 0 v))
      ∙ ap₂ ◌++◌ (take-stored bs 0 v l.some) (drop-stored bs 0 v)
      ∙ ap (λ (ys : List ℕ). bytes_of (v ∷ []) ++ ys) later
      ∙ sym (bytes_of-append (v ∷ []) (drop 1 (numbers bs)))

pub advance_to : (bs zs : List ℕ) (v : ℕ) → Whole bs → ((i : ℕ) → Fits w8 (get_or bs i 0)) → zs ≡ stored bs 0 v → zs ≡ bytes_of (v ∷ drop 1 (numbers bs))
advance_to bs zs v l b e = e ∙ advanced bs v l (fits_below bs b)

pub next-whole : (bs : List ℕ) (n : ℕ) → length bs ≡ width * (1 + n) → Whole bs
next-whole bs n e = record { exact = omega arith; some = omega arith }

-- ---- the shares of a state: the bytes after its first number
part-is : (s : List ℕ) → take (length s - width) (drop width s) ≡ drop width s
part-is s = take_all (length s - width) (drop width s) (rw length-drop (omega arith))

pub part-numbers : (s : List ℕ) → numbers (take (length s - width) (drop width s)) ≡ drop 1 (numbers s)
part-numbers s = ap numbers (part-is s) ∙ numbers-drop s 1

pub part_below : (p q : ℕ) (s : List ℕ) → p ≡ q → all_below p (drop 1 (numbers s)) ≡ true → all_below q (numbers (take (length s - width) (drop width s))) ≡ true
part_below p q s e h = rw (part-numbers s, ← e) h

module _ (s ys : List ℕ) (some : width ≤ length s) (long : length ys ≡ length (take (length s - width) (drop width s))) where
  after : List ℕ
  after = take width s ++ (ys ++ drop (length s - width) (drop width s))

  nothing-after : drop (length s - width) (drop width s) ≡ []
  nothing-after = drop_of_length-le (drop width s) {i = length s - width} (rw length-drop (omega arith))

  shares-after : drop width after ≡ ys
  unfolding after
  shares-after = drop_at (take width s) (ys ++ drop (length s - width) (drop width s)) width (length-take-le width s some) ∙ ap (λ (l : List ℕ). ys ++ l) nothing-after ∙ append-nil ys

  numbers_after : drop 1 (numbers after) ≡ numbers ys
  numbers_after = sym (numbers-drop after 1) ∙ ap numbers shares-after

  length-after : length after ≡ length s
  unfolding after
  length-after =
      length-append (take width s) (ys ++ drop (length s - width) (drop width s))
      ∙ omega (arith, length-take-le width s some, length-append ys (drop (length s - width) (drop width s)), ap length nothing-after, long, ap length (part-is s), length-drop width s)

  pub state-learnt : (bs : List ℕ) (h : Header) → Planned bs h → (k : ℕ) (step : Step) (ts mail : List ℕ) → (k ≡ 0 → ⊥) → step ≡ step_at (plan_of bs) (k - 1)
      → Holds h.field.p (learn_from (plan_of bs) step ts (numbers (take (length s - width) (drop width s))) (numbers mail)) ys
      → Learnt (plan_of bs) k ts (numbers mail) s (take width s ++ (ys ++ drop (length s - width) (drop width s)))
  unfolding after learn
  state-learnt bs h pl k step ts mail ne es e = record {
    long = length-after;
    eq =
        let later : suc (k - 1) ≡ k = omega arith in
        numbers_after ∙ e.eq
        ∙ ap₂ (λ (r : Step) (xs : List ℕ). learn_from (plan_of bs) r ts xs (numbers mail)) es (part-numbers s)
        ∙ ap (λ (j : ℕ). learn (plan_of bs) j ts (drop 1 (numbers s)) (numbers mail)) later;
    below = rw (numbers_after, plan_p pl) e.below;
  }

-- call 0 learns nothing
pub state-fresh : (plan : Plan) (k : ℕ) (ts mail s : List ℕ) → k ≡ 0 → all_below plan.p (drop 1 (numbers s)) ≡ true → Learnt plan k ts (numbers mail) s s
unfolding learn
state-fresh plan k ts mail s z b = record { long = refl; eq = rw z; below = b }

-- ---- the triples
pub triples-spent : (bs : List ℕ) (h : Header) → Planned bs h → (k : ℕ) (step : Step) (ts us : List ℕ) → (k ≡ 0 → ⊥) → step ≡ step_at (plan_of bs) (k - 1)
    → Holds h.field.p (spend_from (plan_of bs) step (numbers ts)) us → length us ≡ length ts → Spent (plan_of bs) k ts us
unfolding spend
triples-spent bs h pl k step ts us ne es e l = record {
  long = l;
  eq =
      let later : suc (k - 1) ≡ k = omega arith in
      e.eq ∙ ap (λ (r : Step). spend_from (plan_of bs) r (numbers ts)) es ∙ ap (λ (j : ℕ). spend (plan_of bs) j (numbers ts)) later;
  below = rw (plan_p pl) e.below;
}

-- call 0 spends nothing
pub triples-fresh : (plan : Plan) (k : ℕ) (ts : List ℕ) → k ≡ 0 → all_below plan.p (numbers ts) ≡ true → Spent plan k ts ts
unfolding spend
triples-fresh plan k ts z b = record { long = refl; eq = rw z; below = b }

-- ---- what a call writes
pub lent_parts : (plan : Plan) (i k : ℕ) (inputs coins ts s mail out : List ℕ) → Sendable plan i k inputs coins ts (drop 1 (numbers s)) mail out
    → Lent plan i k inputs coins ts (take (length s - width) (drop width s)) mail out
lent_parts plan i k inputs coins ts s mail out a = record {
  call = a.call-high;
  elements = record {
    inputs_below = a.inputs_below;
    coins_below = a.coins_below;
    triples_below = a.triples_below;
    shares_below = part_below plan.p plan.p s refl a.shares_below;
    mail_below = a.mail_below;
  };
  room = a.out_long;
}

pub bytes_sent : (plan : Plan) (i k : ℕ) (inputs coins ts s mail before out : List ℕ) → Sendable plan i k inputs coins ts (drop 1 (numbers s)) mail before → length out ≡ length before → ((j : ℕ) → Fits w8 (get_or out j 0))
    → numbers out ≡ written plan k (call_with plan i k (numbers inputs) (numbers coins) (numbers ts) (numbers (take (length s - width) (drop width s))) (numbers mail))
    → out ≡ bytes_of (written plan k (call_with plan i k (numbers inputs) (numbers coins) (numbers ts) (drop 1 (numbers s)) (numbers mail)))
bytes_sent plan i k inputs coins ts s mail before out a l b e =
    sym (bytes_of-numbers (written_count plan i k) out (l ∙ a.out_long) (fits_below out b))
    ∙ ap bytes_of (e ∙ ap (λ (xs : List ℕ). written plan k (call_with plan i k (numbers inputs) (numbers coins) (numbers ts) xs (numbers mail))) (part-numbers s))

-- ---- what a call leaves
module _ (plan : Plan) (i : ℕ) (inputs coins ts s mail out : List ℕ) (a : Admitted plan i inputs coins ts s mail (length out)) where
  pub admitted-whole : Whole s
  admitted-whole = next-whole s (length plan.gates) a.state_long

  module _ (k : ℕ) (ek : k ≡ get_or (numbers s) 0 0) where
    pub triples-left : (us : List ℕ) → Spent plan k ts us → ((j : ℕ) → Fits w8 (get_or us j 0)) → us ≡ triples_left plan i inputs coins ts s mail
    unfolding triples_left call call_with
    triples-left us t b =
        sym (bytes_of-numbers (triple_numbers plan) us (t.long ∙ a.triples_long) (fits_below us b))
        ∙ ap bytes_of (t.eq ∙ ap (λ (j : ℕ). spend plan j (numbers ts)) ek)

    module _ (n : List ℕ) (l : Learnt plan k (numbers ts) (numbers mail) s n) where
      pub learnt-whole : Whole n
      learnt-whole = next-whole n (length plan.gates) (l.long ∙ a.state_long)

      learnt-shares : drop 1 (numbers n) ≡ learn plan (get_or (numbers s) 0 0) (numbers ts) (drop 1 (numbers s)) (numbers mail)
      learnt-shares = l.eq ∙ ap (λ (j : ℕ). learn plan j (numbers ts) (drop 1 (numbers s)) (numbers mail)) ek

      pub state-left : (zs : List ℕ) → zs ≡ bytes_of ((k + 1) ∷ drop 1 (numbers n)) → zs ≡ state_left plan i inputs coins ts s mail
      unfolding state_left call call_with
      state-left zs e = e ∙ ap₂ (λ (j : ℕ) (xs : List ℕ). bytes_of (j ∷ xs)) (add-one k ∙ ap suc ek) learnt-shares

      module _ (us : List ℕ) (t : Spent plan k ts us) where
        pub learnt-sendable : Sendable plan i k inputs coins us (drop 1 (numbers n)) mail out
        learnt-sendable = record {
          inputs_below = a.inputs_below;
          coins_below = a.coins_below;
          triples_below = t.below;
          shares_below = l.below;
          mail_below = a.mail_below;
          call-high = rw ek a.call-high;
          out_long = rw ek a.room-is;
        }

        pub out-left : (zs : List ℕ) → zs ≡ bytes_of (written plan k (call_with plan i k (numbers inputs) (numbers coins) (numbers us) (drop 1 (numbers n)) (numbers mail))) → zs ≡ out_left plan i inputs coins ts s mail
        unfolding out_left call
        out-left zs e =
            e
            ∙ ap bytes_of
            (ap₂ (λ (us xs : List ℕ). written plan k (call_with plan i k (numbers inputs) (numbers coins) us xs (numbers mail))) t.eq learnt-shares
            ∙ ap
            (λ (j : ℕ).
            written plan j (call_with plan i j (numbers inputs) (numbers coins) (spend plan j (numbers ts)) (learn plan (get_or (numbers s) 0 0) (numbers ts) (drop 1 (numbers s)) (numbers mail)) (numbers mail)))
            ek)

pub below_here : (bs : List ℕ) (h : Header) → Planned bs h → (xs : List ℕ) → all_below (plan_of bs).p xs ≡ true → all_below h.field.p xs ≡ true
below_here bs h pl xs b = rw (← plan_p pl) b

pub shares_here : (bs : List ℕ) (h : Header) → Planned bs h → (s : List ℕ) → all_below (plan_of bs).p (drop 1 (numbers s)) ≡ true → all_below h.field.p (numbers (take (length s - width) (drop width s))) ≡ true
shares_here bs h pl s b = part_below (plan_of bs).p h.field.p s (plan_p pl) b

-- As it is: answers name this set, since the check leaves their goals open by `using` alone.
pub ruleset working = (rules, advance_to, state-fresh, triples-fresh, triples-spent, triples-left, below_here, shares_here, lent_parts, state-learnt, bytes_sent, admitted-whole, learnt-whole, learnt-sendable, state-left, out-left)

-- ---- the call
module _ (bs : List ℕ) (i : ℕ) (inputs coins triples state mail : List ℕ) (room : ℕ) where
  answer_parts : call_answer bs i inputs coins triples state mail room ≡ and_then (plan_check bs) (first_of (party_checks (plan_of bs) i inputs coins triples state mail room))
  unfolding call_answer call_checks plan_check
  answer_parts = first_of-append (plan_checks bs) (party_checks (plan_of bs) i inputs coins triples state mail room)

  -- a file that is refused
  module _ (q : Refusal) (e : plan_check bs ≡ Err q) where
    plan-refused : call_answer bs i inputs coins triples state mail room ≡ Err q
    plan-refused = answer_parts ∙ and_then_refused (plan_check bs) _ q e

    pub refused-answer : Err q ≡ call_answer bs i inputs coins triples state mail room
    refused-answer = sym plan-refused

    pub refused-state : state ≡ state_after bs i inputs coins triples state mail room
    unfolding state_after unless_refused
    refused-state = rw plan-refused

    pub refused-triples : triples ≡ triples_after bs i inputs coins triples state mail room
    unfolding triples_after unless_refused
    refused-triples = rw plan-refused

    refused-buffer : (out : List ℕ) → room ≡ length out → out ≡ out_after bs i inputs coins triples state mail out
    unfolding out_after unless_refused
    refused-buffer out l = rw (← l, plan-refused)

-- a file that passes, with what the checks of the call answered
pub record Judged (bs : List ℕ) (i : ℕ) (inputs coins triples state mail : List ℕ) (room : ℕ) (c : Checked) : Type 0 where
  pub passes : plan_check bs ≡ (Ok tt)
  pub is : c ≡ first_of (party_checks (plan_of bs) i inputs coins triples state mail room)

-- those of the party's seat at the file
pub judged : (bs : List ℕ) (f : PlanFile) (s : Seat) (i : ℕ) (inputs coins triples state mail : List ℕ) (room : ℕ) (c : Checked) → f.bytes.now ≡ bs → s.plan.now ≡ f → s.party ≡ i
    → c ≡ first_of (party_checks (plan_of s.plan.now.bytes.now) s.party inputs coins triples state mail room) → Planned f.bytes.now f.header → Judged bs i inputs coins triples state mail room c
judged bs f s i inputs coins triples state mail room c e es ei ec pl = record {
  passes = ap plan_check (sym e) ∙ pl.passes;
  is = ec ∙ ap₂ (λ (b : List ℕ) (k : ℕ). first_of (party_checks (plan_of b) k inputs coins triples state mail room)) (ap (λ (g : PlanFile). g.bytes.now) es ∙ e) ei;
}

module _ {bs : List ℕ} {i : ℕ} {inputs coins triples state mail : List ℕ} {room : ℕ} {c : Checked} (k : Judged bs i inputs coins triples state mail room c) where
  answered : call_answer bs i inputs coins triples state mail room ≡ c
  answered = answer_parts bs i inputs coins triples state mail room ∙ and_then_passed (plan_check bs) _ k.passes ∙ sym k.is

  module _ (q : Refusal) (e : c ≡ Err q) where
    pub checked-answer : Err q ≡ call_answer bs i inputs coins triples state mail room
    checked-answer = sym (answered ∙ e)

    pub checked-state : state ≡ state_after bs i inputs coins triples state mail room
    unfolding state_after unless_refused
    checked-state = rw (answered, e)

    pub checked-triples : triples ≡ triples_after bs i inputs coins triples state mail room
    unfolding triples_after unless_refused
    checked-triples = rw (answered, e)

    pub checked-out : (out : List ℕ) → room ≡ length out → out ≡ out_after bs i inputs coins triples state mail out
    unfolding out_after unless_refused
    checked-out out l = rw (← l, answered, e)

  module _ (e : c ≡ (Ok tt)) where
    pub passed-answer : (Ok tt) ≡ call_answer bs i inputs coins triples state mail room
    passed-answer = sym (answered ∙ e)

    module _ (bytes : List ℕ) (j : ℕ) (same : bytes ≡ bs) (party : j ≡ i) where
      pub passed-state : (zs : List ℕ) → zs ≡ state_left (plan_of bytes) j inputs coins triples state mail → zs ≡ state_after bs i inputs coins triples state mail room
      unfolding state_after unless_refused called_on state_left
      passed-state zs z = rw (answered, e) (z ∙ ap₂ (λ (b : List ℕ) (k : ℕ). bytes_of (call (plan_of b) k (numbers inputs) (numbers coins) (numbers triples) (numbers state) (numbers mail)).state) same party)

      pub passed-triples : (zs : List ℕ) → zs ≡ triples_left (plan_of bytes) j inputs coins triples state mail → zs ≡ triples_after bs i inputs coins triples state mail room
      unfolding triples_after unless_refused called_on triples_left
      passed-triples zs z = rw (answered, e) (z ∙ ap₂ (λ (b : List ℕ) (k : ℕ). bytes_of (call (plan_of b) k (numbers inputs) (numbers coins) (numbers triples) (numbers state) (numbers mail)).triples) same party)

      pub passed-out : (out zs : List ℕ) → room ≡ length out → zs ≡ out_left (plan_of bytes) j inputs coins triples state mail → zs ≡ out_after bs i inputs coins triples state mail out
      unfolding out_after unless_refused called_on out_left
      passed-out out zs l z =
          rw (← l, answered, e)
          (z
          ∙ ap₂ (λ (b : List ℕ) (k : ℕ). bytes_of (written (plan_of b) (get_or (numbers state) 0 0) (call (plan_of b) k (numbers inputs) (numbers coins) (numbers triples) (numbers state) (numbers mail)))) same party)

pub refused-out : (bs : List ℕ) (i : ℕ) (inputs coins triples state mail out : List ℕ) (q : Refusal) → plan_check bs ≡ Err q → out ≡ out_after bs i inputs coins triples state mail out
refused-out bs i inputs coins triples state mail out q e = refused-buffer bs i inputs coins triples state mail (length out) q e out refl

pub ruleset calling = (rules, admitted_by, refused-answer, refused-state, refused-triples, refused-out, judged, checked-answer, checked-state, checked-triples, checked-out, passed-answer, passed-state, passed-triples, passed-out)
