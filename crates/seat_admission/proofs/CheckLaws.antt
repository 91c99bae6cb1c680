-- What each way through the checks of a call says of its definition.
--     listing              a lent list: its count and its numbers
--     tripling             lent triples: their numbers and their count
--     stating              the state
--     opening, each        an out's shares, and the outs one after the other
--     owning, mailing      refusals 9 to 13 with 29, and 17 to 20
--     ordering             refusals 9 to 20 and 29
-- Assumes nothing.
use Rattle.std.proofs.Common.{Option, Some, None, Ok, Err}
use mathlib.Core.Path.{◌≡◌, sym, ap, ap₂, ◌∙◌}
use mathlib.Core.Logic.{◌⊎◌, inl, inr}
use mathlib.Core.Bool.{Bool, true, false, cond}
use mathlib.Core.List.{List, [], ◌∷◌, ◌++◌}
use Prim.Native.Nat.{ℕ, suc, ◌+◌, ◌*◌, ◌<◌, ◌≤◌}
use native.Mathlib.Nat.{mul-le-mul}
use native.Mathlib.Numerals.{add-one}
use native.Mathlib.Omega.{arith}
use borrow.Author.Rules.{rules}
use borrow.Author.Tests.{not-true, not-false, le-leb, lt-leb, eq-eqb, ne_eqb}
use lib.Dec.{eqb}
use lib.ListN.{length, get_or, take, drop}
use lib.Seq.{length-take-le}
use mir.Syntax.{w64}
use mir.Val.{Fits}
use Rattle.numbers.specs.Tables.{tab}
use Rattle.numbers.specs.Bytes.{width, numbers, holds_count, first_over, all_below}
use Rattle.numbers.proofs.Below.{first_over-nothing}
use Rattle.field.specs.Field.{Ready}
use Rattle.field.specs.declared.Field.{Field}
use Rattle.sharing_laws.specs.Sharing.{first_off}
use Rattle.sharing_laws.proofs.OffLine.{off_within}
use Rattle.plan.specs.declared.Header.{Header}
use Rattle.plan.specs.Refusals.{Checked}
use Rattle.plan.specs.declared.Refusal.{Refusal}
use Rattle.plan.specs.declared.Refusal.TheVariants as refusal
use Rattle.plan.specs.Refusals.{and_then, first_of, need, unless_found}
use Rattle.plan.specs.Plans.{party_count, own_input_count, own_coin_count, own_out_count, triple_numbers, last_call, mail_count, written_count}
use Rattle.plan.specs.File.{between, plan_of}
use Rattle.plan.specs.Planned.{Planned}
use Rattle.plan.proofs.Refusals.{and_then_passed, and_then_refused, and_then_end, first_of-nil, first_of-cons, first_of-append, need-true, need-false, found_at, found_nothing, passed_both, passed_found, Tried, try_refused, trying}
use Rattle.plan.proofs.Planned.{plan_t, plan_p, plan_n, plan_gates}
use Rattle.seat_messages.specs.Messages.{from_each}
use Rattle.seat_messages.specs.Calls.{on_polynomial, outs_check, opening_check, party_checks}
use Rattle.seat_messages.proofs.PointLaws.{plan_points_long, plan_points_below, points-within, points-count}
use Rattle.seat_admission.specs.Parts.{list_checks, triple_checks, own_checks, state_checks, mail_checks, out_check}
use Rattle.seat_results.proofs.ResultLaws.{shares_long, shares_below}

-- ---- a lent list
module _ (few : Refusal) (over : ℕ → Refusal) (p count : ℕ) (bs : List ℕ) (t : Bool) (et : t ≡ holds_count count bs) where
  pub list-few : t ≡ false → Err few ≡ first_of (list_checks few over p count bs)
  unfolding list_checks first_of and_then need
  list-few h = rw (← et, h)

  module _ (ht : t ≡ true) (f : Option ℕ) (ef : f ≡ first_over p (numbers bs)) where
    pub list_over : (i : ℕ) (r : Refusal) → f ≡ Some i → r ≡ over i → Err r ≡ first_of (list_checks few over p count bs)
    unfolding list_checks first_of and_then need unless_found
    list_over i r h e = rw (← et, ht, ← ef, h, e)

    pub list-passed : f ≡ None → (Ok tt) ≡ first_of (list_checks few over p count bs)
    unfolding list_checks first_of and_then need unless_found
    list-passed h = rw (← et, ht, ← ef, h)

pub ruleset listing = (rules, not-true, not-false, list-few, list_over, list-passed)

-- ---- lent triples
module _ (p count : ℕ) (bs : List ℕ) (f : Option ℕ) (ef : f ≡ first_over p (numbers bs)) where
  pub triples-over : (i : ℕ) → f ≡ Some i → Err (refusal.CoinValue i) ≡ first_of (triple_checks p count bs)
  unfolding triple_checks first_of and_then unless_found
  triples-over i h = rw (← ef, h)

  module _ (h : f ≡ None) (t : Bool) (et : t ≡ holds_count count bs) where
    pub triples-few : t ≡ false → Err refusal.Triples ≡ first_of (triple_checks p count bs)
    unfolding triple_checks first_of and_then need unless_found
    triples-few n = rw (← ef, h, ← et, n)

    pub triples-passed : t ≡ true → (Ok tt) ≡ first_of (triple_checks p count bs)
    unfolding triple_checks first_of and_then need unless_found
    triples-passed y = rw (← ef, h, ← et, y)

pub ruleset tripling = (rules, not-true, not-false, triples-over, triples-few, triples-passed)

-- ---- the state
module _ (p gates last : ℕ) (bs : List ℕ) (t : Bool) (et : t ≡ holds_count (1 + gates) bs) where
  pub state-few : t ≡ false → Err refusal.StateCount ≡ first_of (state_checks p gates last bs)
  unfolding state_checks first_of and_then need
  state-few h = rw (← et, h)

  module _ (ht : t ≡ true) (k : ℕ) (ek : k ≡ get_or (numbers bs) 0 0) where
    pub state-past : last + 1 < k → Err refusal.StateValue ≡ first_of (state_checks p gates last bs)
    unfolding state_checks first_of and_then need
    state-past h = rw (← et, ht, ← ek, lt-leb k (suc last) (rw (add-one) at h))

    module _ (hk : k ≤ last + 1) (b : Bool) (eb : b ≡ all_below p (drop 1 (numbers bs))) where
      pub state-over : b ≡ false → Err refusal.StateValue ≡ first_of (state_checks p gates last bs)
      unfolding state_checks first_of and_then need
      state-over h = rw (← et, ht, ← ek, le-leb k (suc last) (rw add-one at hk), ← eb, h)

      pub state-finished : b ≡ true → k ≡ last + 1 → Err refusal.Finished ≡ first_of (state_checks p gates last bs)
      unfolding state_checks first_of and_then need
      state-finished h e = rw (← et, ht, ← ek, le-leb k (suc last) (rw add-one at hk), ← eb, h, eq-eqb k (suc last) (rw add-one at e))

      pub state-passed : b ≡ true → (k ≡ last + 1 → ⊥) → (Ok tt) ≡ first_of (state_checks p gates last bs)
      unfolding state_checks first_of and_then need
      state-passed h e = rw (← et, ht, ← ek, le-leb k (suc last) (rw add-one at hk), ← eb, h, ne_eqb k (suc last) (λ q. e (q ∙ sym (add-one last))))

pub ruleset stating = (rules, not-true, not-false, state-few, state-past, state-over, state-finished, state-passed)

-- ---- an out
module _ (p t : ℕ) (points : List ℕ) (own j : ℕ) (mail xs : List ℕ) (e : xs ≡ from_each (length points) own j mail) where
  pub shares_count : length xs ≡ length points
  shares_count = ap length e ∙ shares_long (length points) own j mail

  pub gathered-below : Ready p → all_below p mail ≡ true → all_below p xs ≡ true
  gathered-below r b = rw e (shares_below p (length points) own j mail r b)

  module _ (f : Option ℕ) (ef : f ≡ first_off p t points xs) where
    out-is : on_polynomial p t points (from_each (length points) own j mail) ≡ unless_found (λ i. refusal.OffPolynomial (i + 1)) f
    unfolding on_polynomial
    out-is = sym (rw (ef, e))

    pub out-off : (i : ℕ) → f ≡ Some i → Err (refusal.OffPolynomial (i + 1)) ≡ on_polynomial p t points (from_each (length points) own j mail)
    out-off i q = sym (out-is ∙ found_at (λ i. refusal.OffPolynomial (i + 1)) f i q)

    pub out-on : f ≡ None → (Ok tt) ≡ on_polynomial p t points (from_each (length points) own j mail)
    out-on q = sym (out-is ∙ found_nothing (λ i. refusal.OffPolynomial (i + 1)) f q)

    pub off_fits : (i : ℕ) → length points ≤ 15 → f ≡ Some i → Fits w64 (i + 1)
    off_fits i l q = record { fits = omega (arith, off_within p t points xs i (sym ef ∙ q)) }

pub ruleset opening = (rules, shares_count, gathered-below, off_fits, out-off, out-on)

-- ---- the party's own outs, one after the other
module _ (bs : List ℕ) (h : Header) (k : Planned bs h) where
  used-small : (h.t + 1) * h.n ≤ 225
  used-small = mul-le-mul {n₁ = h.t + 1} {m₁ = h.n} {n₂ = 15} {m₂ = 15} (omega (arith, k.threshold, k.n-high)) k.n-high

  pub used_fits : Fits w64 ((h.t + 1) * h.n)
  used_fits = record { fits = omega (arith, used-small) }

  pub used_within : (room : List ℕ) → length room ≡ 225 → (h.t + 1) * h.n ≤ length room
  used_within room size = omega (arith, used-small)

  module _ (points : List ℕ) (is : points ≡ (plan_of bs).points) where
    points_long : length points ≡ h.n
    points_long = ap length is ∙ plan_points_long bs h k

    pub points_over : h.t < length points
    points_over = omega (arith, points_long, k.threshold)

    pub points-few : length points ≤ 15
    points-few = omega (arith, points_long, k.n-high)

    pub points-many : length points ≤ 65536
    points-many = omega (arith, points-few)

    pub opened-below : all_below h.field.p points ≡ true
    opened-below = rw is (plan_points_below bs h k)

    pub used-rows : (room : List ℕ) → length room ≡ 225 → length (take ((h.t + 1) * h.n) room) ≡ (h.t + 1) * length points
    used-rows room size = rw points_long (length-take-le ((h.t + 1) * h.n) room (used_within room size))

    -- what the check of an out gives
    pub out_here : (f : Field) (t own j : ℕ) (mail qs : List ℕ) (c : Checked) → f ≡ h.field → t ≡ h.t → qs ≡ points → c ≡ on_polynomial f.p t qs (from_each (length qs) own j mail) → c ≡ out_check (plan_of bs) own mail j
    unfolding out_check party_count
    out_here f t own j mail qs c ef et eq ec = ec ∙ rw (ef, et, eq, is, ← plan_p k, ← plan_t k)

-- refusal 20
pub outs_are : (bs : List ℕ) (mail : List ℕ) (own i : ℕ) → own ≡ own_out_count (plan_of bs) i → (r : Checked) → r ≡ first_of (tab (out_check (plan_of bs) own mail) own) → r ≡ outs_check (plan_of bs) i mail
unfolding outs_check out_check
outs_are bs mail own i eo r er = er ∙ ap (λ (m : ℕ). first_of (tab (out_check (plan_of bs) m mail) m)) eo

-- the first out that breaks
pub out_stops : (bs : List ℕ) (mail : List ℕ) (own i j : ℕ) (c : Checked) (r : Refusal) → Tried (out_check (plan_of bs) own mail) own j → j < own → own ≡ own_out_count (plan_of bs) i
    → c ≡ out_check (plan_of bs) own mail j → c ≡ Err r → Err r ≡ outs_check (plan_of bs) i mail
out_stops bs mail own i j c r h l eo is e = outs_are bs mail own i eo (Err r) (sym e ∙ try_refused (out_check (plan_of bs) own mail) own j h c r l is e)

pub ruleset each = (rules, trying, out_stops, used_fits, used_within, points-within, points-count, points_over, points-few, points-many, opened-below, used-rows, out_here, outs_are)

module _ (bs : List ℕ) (h : Header) (pl : Planned bs h) (i : ℕ) where
  -- refusals 9 to 13 and 29
  module _ (inputs coins triples : List ℕ) where
    pub own-under : i < 1 → Err refusal.Coalition ≡ first_of (own_checks (plan_of bs) i inputs coins triples)
    unfolding own_checks first_of and_then need between
    own-under l = rw (lt-leb 1 i l)

    pub own-over : 1 ≤ i → h.n < i → Err refusal.Coalition ≡ first_of (own_checks (plan_of bs) i inputs coins triples)
    unfolding own_checks first_of and_then need between
    own-over l m = rw (le-leb 1 i l, plan_n pl, lt-leb i h.n m)

    pub own-outside : (i < 1) ⊎ (h.n < i) → Err refusal.Coalition ≡ first_of (own_checks (plan_of bs) i inputs coins triples)
    own-outside (inl l) = own-under l
    own-outside (inr m) = own-over (omega (arith, pl.n_low)) m

    module _ (l : 1 ≤ i) (m : i ≤ h.n) (k : ℕ) (ek : k ≡ own_input_count (plan_of bs) i) (c : Checked) (ec : c ≡ first_of (list_checks refusal.InputCount refusal.InputValue h.field.p k inputs)) where
      -- those after the inputs'
      abbrev inputs_of : ℕ → ℕ → Checked
      inputs_of p n = first_of (list_checks refusal.InputCount refusal.InputValue p n inputs)

      abbrev rest_of : ℕ → Checked
      rest_of p = first_of (list_checks refusal.CoinCount refusal.CoinValue p (own_coin_count (plan_of bs) i) coins ++ triple_checks p (triple_numbers (plan_of bs)) triples)

      own-parts : first_of (own_checks (plan_of bs) i inputs coins triples) ≡ and_then c (rest_of h.field.p)
      unfolding own_checks between
      own-parts =
          first_of-cons (need refusal.Coalition (between 1 (party_count (plan_of bs)) i)) _
          ∙ and_then_passed (need refusal.Coalition (between 1 (party_count (plan_of bs)) i)) _
          (need-true refusal.Coalition (between 1 (party_count (plan_of bs)) i) (rw (plan_n pl, le-leb 1 i l, le-leb i h.n m)))
          ∙ first_of-append (list_checks refusal.InputCount refusal.InputValue (plan_of bs).p (own_input_count (plan_of bs) i) inputs)
          (list_checks refusal.CoinCount refusal.CoinValue (plan_of bs).p (own_coin_count (plan_of bs) i) coins ++ triple_checks (plan_of bs).p (triple_numbers (plan_of bs)) triples)
          ∙ ap (λ (p : ℕ). and_then (inputs_of p (own_input_count (plan_of bs) i)) (rest_of p)) (plan_p pl)
          ∙ ap (λ (n : ℕ). and_then (inputs_of h.field.p n) (rest_of h.field.p)) (sym ek)
          ∙ ap (λ (d : Checked). and_then d (rest_of h.field.p)) (sym ec)

      pub own-inputs : (r : Refusal) → c ≡ Err r → Err r ≡ first_of (own_checks (plan_of bs) i inputs coins triples)
      own-inputs r e = sym (own-parts ∙ and_then_refused c _ r e)

      module _ (e : c ≡ (Ok tt)) (d : ℕ) (ed : d ≡ own_coin_count (plan_of bs) i) (r : Checked) (er : r ≡ first_of (list_checks refusal.CoinCount refusal.CoinValue h.field.p d coins)) where
        abbrev triples_of : ℕ → Checked
        triples_of n = first_of (triple_checks h.field.p n triples)

        coins-parts : first_of (own_checks (plan_of bs) i inputs coins triples) ≡ and_then r (triples_of (triple_numbers (plan_of bs)))
        coins-parts =
            own-parts
            ∙ and_then_passed c _ e
            ∙ first_of-append (list_checks refusal.CoinCount refusal.CoinValue h.field.p (own_coin_count (plan_of bs) i) coins) (triple_checks h.field.p (triple_numbers (plan_of bs)) triples)
            ∙ ap (λ (n : ℕ). and_then (first_of (list_checks refusal.CoinCount refusal.CoinValue h.field.p n coins)) (triples_of (triple_numbers (plan_of bs)))) (sym ed)
            ∙ ap (λ (q : Checked). and_then q (triples_of (triple_numbers (plan_of bs)))) (sym er)

        pub own-coins : (q : Refusal) → r ≡ Err q → Err q ≡ first_of (own_checks (plan_of bs) i inputs coins triples)
        own-coins q f = sym (coins-parts ∙ and_then_refused r _ q f)

        pub own-triples : r ≡ (Ok tt) → (n : ℕ) → n ≡ triple_numbers (plan_of bs) → (z : Checked) → z ≡ first_of (triple_checks h.field.p n triples) → z ≡ first_of (own_checks (plan_of bs) i inputs coins triples)
        own-triples f n en z ez = ez ∙ sym (coins-parts ∙ and_then_passed r _ f ∙ ap triples_of (sym en))

pub ruleset owning = (rules, own-outside, own-inputs, own-coins, own-triples)

-- refusals 17 to 20
pub list_below : (few : Refusal) (over : ℕ → Refusal) (p n : ℕ) (bs : List ℕ) (c : Checked) → c ≡ first_of (list_checks few over p n bs) → c ≡ (Ok tt) → all_below p (numbers bs) ≡ true
unfolding list_checks first_of
list_below few over p n bs c ec e =
    first_over-nothing p (numbers bs) (passed_found over (first_over p (numbers bs)) (passed_both _ _ (passed_both _ _ (sym ec ∙ e)).1).0)

pub mail_below : (p n : ℕ) (bs : List ℕ) (c : Checked) → c ≡ first_of (list_checks refusal.MailCount refusal.MailValue p n bs) → c ≡ (Ok tt) → all_below p (numbers bs) ≡ true
mail_below = list_below refusal.MailCount refusal.MailValue

module _ (bs : List ℕ) (h : Header) (pl : Planned bs h) (i k : ℕ) (mail : List ℕ) (room : ℕ) where
  module _ (n : ℕ) (en : n ≡ mail_count (plan_of bs) i k) (c : Checked) (ec : c ≡ first_of (list_checks refusal.MailCount refusal.MailValue h.field.p n mail)) where
    mail-parts : first_of (mail_checks (plan_of bs) i k mail room)
        ≡ and_then c (and_then (need refusal.BufferLength (eqb room (width * written_count (plan_of bs) i k))) (opening_check (plan_of bs) i k (numbers mail)))
    unfolding mail_checks
    mail-parts =
        first_of-append (list_checks refusal.MailCount refusal.MailValue (plan_of bs).p (mail_count (plan_of bs) i k) mail)
        (need refusal.BufferLength (eqb room (width * written_count (plan_of bs) i k)) ∷ opening_check (plan_of bs) i k (numbers mail) ∷ [])
        ∙ ap₂ and_then
        (ap₂ (λ (p m : ℕ). first_of (list_checks refusal.MailCount refusal.MailValue p m mail)) (plan_p pl) (sym en) ∙ sym ec)
        (first_of-cons _ _ ∙ ap (and_then (need refusal.BufferLength (eqb room (width * written_count (plan_of bs) i k)))) (first_of-cons _ _ ∙ ap (and_then (opening_check (plan_of bs) i k (numbers mail))) first_of-nil ∙ and_then_end (opening_check (plan_of bs) i k (numbers mail))))

    pub mail-refused : (r : Refusal) → c ≡ Err r → Err r ≡ first_of (mail_checks (plan_of bs) i k mail room)
    mail-refused r e = sym (mail-parts ∙ and_then_refused c _ r e)

    module _ (e : c ≡ (Ok tt)) (w : ℕ) (ew : w ≡ written_count (plan_of bs) i k) where
      room-parts : first_of (mail_checks (plan_of bs) i k mail room) ≡ and_then (need refusal.BufferLength (eqb room (width * w))) (opening_check (plan_of bs) i k (numbers mail))
      room-parts =
          mail-parts
          ∙ and_then_passed c _ e
          ∙ ap (λ (v : ℕ). and_then (need refusal.BufferLength (eqb room (width * v))) (opening_check (plan_of bs) i k (numbers mail))) (sym ew)

      pub mail-room : (room ≡ width * w → ⊥) → Err refusal.BufferLength ≡ first_of (mail_checks (plan_of bs) i k mail room)
      mail-room q = sym (room-parts ∙ and_then_refused _ _ refusal.BufferLength (need-false refusal.BufferLength (eqb room (width * w)) (ne_eqb room (width * w) q)))

      module _ (q : room ≡ width * w) (m : ℕ) (em : m ≡ last_call (plan_of bs)) where
        last-parts : first_of (mail_checks (plan_of bs) i k mail room) ≡ cond (eqb k m) (outs_check (plan_of bs) i (numbers mail)) (Ok tt)
        unfolding opening_check
        last-parts =
            room-parts
            ∙ and_then_passed _ _ (need-true refusal.BufferLength (eqb room (width * w)) (eq-eqb room (width * w) q))
            ∙ ap (λ (v : ℕ). cond (eqb k v) (outs_check (plan_of bs) i (numbers mail)) (Ok tt)) (sym em)

        pub mail-early : (k ≡ m → ⊥) → (Ok tt) ≡ first_of (mail_checks (plan_of bs) i k mail room)
        mail-early z = sym (last-parts ∙ rw (ne_eqb k m z))

        pub mail-last : k ≡ m → (r : Checked) → r ≡ outs_check (plan_of bs) i (numbers mail) → r ≡ first_of (mail_checks (plan_of bs) i k mail room)
        mail-last z r er = er ∙ sym (last-parts ∙ rw (eq-eqb k m z))

pub ruleset mailing = (rules, mail_below, mail-refused, mail-room, mail-early, mail-last)

-- refusals 9 to 20 and 29
module _ (bs : List ℕ) (h : Header) (pl : Planned bs h) (i : ℕ) (inputs coins triples state mail : List ℕ) (room : ℕ) where
  all-parts : first_of (party_checks (plan_of bs) i inputs coins triples state mail room)
      ≡ and_then (first_of (own_checks (plan_of bs) i inputs coins triples))
      (and_then (first_of (state_checks (plan_of bs).p (length (plan_of bs).gates) (last_call (plan_of bs)) state)) (first_of (mail_checks (plan_of bs) i (get_or (numbers state) 0 0) mail room)))
  unfolding party_checks own_checks state_checks mail_checks list_checks triple_checks
  all-parts =
      first_of-append (own_checks (plan_of bs) i inputs coins triples)
      (state_checks (plan_of bs).p (length (plan_of bs).gates) (last_call (plan_of bs)) state ++ mail_checks (plan_of bs) i (get_or (numbers state) 0 0) mail room)
      ∙ ap (and_then (first_of (own_checks (plan_of bs) i inputs coins triples)))
      (first_of-append (state_checks (plan_of bs).p (length (plan_of bs).gates) (last_call (plan_of bs)) state) (mail_checks (plan_of bs) i (get_or (numbers state) 0 0) mail room))

  module _ (a : Checked) (ea : a ≡ first_of (own_checks (plan_of bs) i inputs coins triples)) where
    pub check-own : (r : Refusal) → a ≡ Err r → Err r ≡ first_of (party_checks (plan_of bs) i inputs coins triples state mail room)
    check-own r e = sym (all-parts ∙ and_then_refused _ _ r (sym ea ∙ e))

    module _ (pa : a ≡ (Ok tt)) (m : ℕ) (em : m ≡ last_call (plan_of bs)) (b : Checked) (eb : b ≡ first_of (state_checks h.field.p h.gates m state)) where
      kept : b ≡ first_of (state_checks (plan_of bs).p (length (plan_of bs).gates) (last_call (plan_of bs)) state)
      kept = eb ∙ ap₂ (λ (p g : ℕ). first_of (state_checks p g m state)) (sym (plan_p pl)) (sym (plan_gates pl)) ∙ ap (λ (n : ℕ). first_of (state_checks (plan_of bs).p (length (plan_of bs).gates) n state)) em

      pub check-kept : (r : Refusal) → b ≡ Err r → Err r ≡ first_of (party_checks (plan_of bs) i inputs coins triples state mail room)
      check-kept r e = sym (all-parts ∙ and_then_passed _ _ (sym ea ∙ pa) ∙ and_then_refused _ _ r (sym kept ∙ e))

      pub check-all : b ≡ (Ok tt) → (k : ℕ) → k ≡ get_or (numbers state) 0 0 → (c : Checked) → c ≡ first_of (mail_checks (plan_of bs) i k mail room)
          → c ≡ first_of (party_checks (plan_of bs) i inputs coins triples state mail room)
      check-all pb k ek c ec =
          ec
          ∙ ap (λ (n : ℕ). first_of (mail_checks (plan_of bs) i n mail room)) ek
          ∙ sym (all-parts ∙ and_then_passed _ _ (sym ea ∙ pa) ∙ and_then_passed _ _ (sym kept ∙ pb))

pub ruleset ordering = (rules, check-own, check-kept, check-all)
