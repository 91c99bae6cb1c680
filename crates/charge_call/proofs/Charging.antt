-- The line charge: what each party sends by its dealings, and the call.
--     listing                what closes the needs of the functions that count and write
--     charging               what closes those of the call
-- Assumes nothing.
use Rattle.std.proofs.Common.{Result, Ok, Err}
use mathlib.Core.Path.{◌≡◌, refl, sym, ap, ap₂, ◌∙◌}
use mathlib.Core.Bool.{Bool, true, false, cond}
use mathlib.Core.List.{List}
use Prim.Native.Nat.{ℕ, suc, ◌+◌, ◌*◌, ◌/◌, ◌<◌, ◌≤◌}
use native.Mathlib.Nat.{mul-le-mul}
use native.Mathlib.Numerals.{add-one}
use native.Mathlib.Omega.{arith}
use borrow.Author.Rules.{rules}
use borrow.Author.Tests.{le-leb, lt-leb, eq-eqb, ne_eqb}
use lib.Dec.{eqb, leb}
use lib.ListN.{length, take, set, length-set}
use lib.Seq.{length-take-le, take_all}
use mir.Syntax.{w64}
use mir.Val.{bool_byte, Fits}
use Rattle.numbers.specs.Tables.{tab, total}
use Rattle.numbers.specs.Bytes.{width, bytes_of}
use Rattle.numbers.proofs.Fills.{fill_none, fill_next}
use Rattle.plan.specs.declared.Header.{Header}
use Rattle.plan.specs.declared.Refusal.{Refusal}
use Rattle.plan.specs.declared.Refusal.TheVariants as refusal
use Rattle.plan.specs.Refusals.{Checked}
use Rattle.plan.specs.Refusals.{and_then, first_of, need}
use Rattle.plan.specs.Plans.{party_count, kind_count, sent_count}
use Rattle.plan.specs.File.{plan_checks, plan_check, plan_of}
use Rattle.plan.specs.Planned.{Planned}
use Rattle.plan.proofs.Refusals.{first_of-append, and_then_passed, and_then_refused}
use Rattle.plan.proofs.Planned.{plan_n, plan_rule, plan_dealers, plan_outs}
use Rattle.plan.proofs.Valid.{valid}
use Rattle.plan.specs.declared.Rule.{Rule}
use Rattle.plan.specs.declared.Rule.TheVariants.{Reduction, Truncation}
use Rattle.plan_counts.specs.declared.Tally.{Tally}
use Rattle.plan_counts.proofs.Counts.{as_count, one_at_most}
use Rattle.plan_counts.specs.Counts.{Tallied}
use Rattle.seat_messages.specs.Calls.{unless_refused}
use Rattle.run_protocol.proofs.Few.{few-plan, sent-some}
use Rattle.charge_parts.specs.declared.Portion.{Portion}
use Rattle.charge_laws.specs.Charges.{pieces_by, elements_by, elements, bill_for, bill_of, charge_of, parts_of}
use Rattle.charge_laws.proofs.Elements.{elements-tab, elements-long, elements-each, elements-sent}
use Rattle.charge_laws.proofs.Parts.{bill_fits}
use Rattle.charge_call.specs.ChargeCalls.{price_checks, charge_answer, charged_of, charge_after}

-- ---- what a party sends
-- the first i of n numbers stand
pub record Listed (bs : List ℕ) (n : ℕ) (d : List ℕ) (i : ℕ) : Type 0 where
  pub within : i ≤ n
  pub long : length d ≡ n
  pub front : take i d ≡ tab (λ k. elements_by (plan_of bs) (suc k)) i

module _ (bs : List ℕ) (h : Header) (p : Planned bs h) where
  module _ (i : ℕ) where
    pub pieces_reduced : (rule : Rule) (r : ℕ) → rule ≡ Reduction → r ≡ bool_byte (leb i (h.t + h.t + 1)) → r ≡ pieces_by (plan_of bs) rule i
    unfolding pieces_by
    pieces_reduced rule r e q = rw (e, plan_dealers p) (as_count (leb i (h.t + h.t + 1)) q)

    pub pieces_truncated : (rule : Rule) → rule ≡ Truncation → 3 ≡ pieces_by (plan_of bs) rule i
    unfolding pieces_by
    pieces_truncated rule e = rw e

    module _ (c : Tally) (e : Tallied (plan_of bs).gates i c) (r : ℕ) (l : r ≤ 3) where
      few : c.own + c.multiplies * r + c.randoms + 2 * c.spends ≤ 3072
      few = omega (arith, e.few, e.own_few, mul-le-mul {n₁ = c.multiplies} {m₁ = r} {n₂ = c.multiplies} {m₂ = 3} (omega arith) l)

      all : h.n * (c.own + c.multiplies * r + c.randoms + 2 * c.spends) ≤ 46080
      all = mul-le-mul {n₁ = h.n} {m₁ = c.own + c.multiplies * r + c.randoms + 2 * c.spends} {n₂ = 15} {m₂ = 3072} p.n-high few

      pub pieces_fit : Fits w64 (c.multiplies * r)
      pieces_fit = record { fits = omega (arith, few) }

      pub dealt_fits : Fits w64 (c.own + c.multiplies * r)
      dealt_fits = record { fits = omega (arith, few) }

      pub drawn_fits : Fits w64 (c.own + c.multiplies * r + c.randoms)
      drawn_fits = record { fits = omega (arith, few) }

      pub each_fits : Fits w64 (c.own + c.multiplies * r + c.randoms + 2 * c.spends)
      each_fits = record { fits = omega (arith, few) }

      pub all_fit : Fits w64 (h.n * (c.own + c.multiplies * r + c.randoms + 2 * c.spends))
      all_fit = record { fits = omega (arith, all) }

      pub element_fits : Fits w64 (h.n * (c.own + c.multiplies * r + c.randoms + 2 * c.spends) + h.outs)
      element_fits = record { fits = omega (arith, all, p.outs-high) }

      pub element_is : r ≡ pieces_by (plan_of bs) h.rule i → h.n * (c.own + c.multiplies * r + c.randoms + 2 * c.spends) + h.outs ≡ elements_by (plan_of bs) i
      unfolding kind_count
      element_is q =
          let s : pieces_by (plan_of bs) (plan_of bs).rule i ≡ r = ap (λ (rule : Rule). pieces_by (plan_of bs) rule i) (plan_rule p) ∙ sym q in
          sym (elements-each (plan_of bs) i ∙ rw (s, plan_n p, plan_outs p, e.own, e.multiplies, e.randoms, e.spends))

  -- ---- the list of elements
  pub element_next : (i x : ℕ) → x ≡ elements_by (plan_of bs) (i + 1) → x ≡ elements_by (plan_of bs) (suc i)
  element_next i x e = rw add-one at e

  pub listed_none : (d : List ℕ) → length d ≡ h.n → Listed bs h.n d 0
  listed_none d e = record { within = omega arith; long = e; front = fill_none (λ k. elements_by (plan_of bs) (suc k)) d }

  module _ (d : List ℕ) (i : ℕ) (f : Listed bs h.n d i) where
    pub listed_next : (x : ℕ) → i < length d → x ≡ elements_by (plan_of bs) (i + 1) → Listed bs h.n (set d i x) (i + 1)
    listed_next x l e = record {
      within = omega (arith, f.long);
      long = length-set d i x ∙ f.long;
      front = fill_next (λ k. elements_by (plan_of bs) (suc k)) i d x l (element_next i x e) f.front;
    }

    pub listed_long : length d ≡ h.n
    listed_long = f.long

    pub listed : h.n ≤ i → d ≡ elements (plan_of bs)
    listed l =
        let e : i ≡ party_count (plan_of bs) = omega (arith, f.within, plan_n p) in
        sym (take_all i d (omega (arith, f.long))) ∙ f.front ∙ ap (tab (λ k. elements_by (plan_of bs) (suc k))) e ∙ sym (elements-tab (plan_of bs))

  -- ---- the whole
  module _ (es : List ℕ) (ee : es ≡ elements (plan_of bs)) (sent : ℕ) (is : sent ≡ sent_count (plan_of bs)) where
    pub sent_sum : sent ≡ total es
    sent_sum = is ∙ sym (ap total ee ∙ elements-sent (plan_of bs) (valid bs p.passes))

    pub shares_room : (portions : List Portion) → length portions ≡ h.n → length portions ≡ length es
    shares_room portions e = e ∙ sym (ap length ee ∙ elements-long (plan_of bs) ∙ plan_n p)

  pub sent_some : (sent : ℕ) → sent ≡ sent_count (plan_of bs) → 1 ≤ sent
  sent_some sent e = omega (arith, sent-some (plan_of bs) (few-plan bs p.passes))

  module _ (price bill sent : ℕ) (is : sent ≡ sent_count (plan_of bs)) (eb : bill ≡ bill_for sent price) where
    pub bill_is : bill ≡ bill_of (plan_of bs) price
    unfolding bill_of
    bill_is = eb ∙ ap (λ (s : ℕ). bill_for s price) is

    module _ (es parts : List ℕ) (ee : es ≡ elements (plan_of bs)) (ep : parts ≡ parts_of bill es) where
      charge_is : parts ≡ charge_of (plan_of bs) price
      unfolding charge_of
      charge_is = ep ∙ ap₂ parts_of bill_is ee

      pub bytes_are : (new : List ℕ) → new ≡ bytes_of parts → new ≡ bytes_of (charge_of (plan_of bs) price)
      bytes_are new e = e ∙ ap bytes_of charge_is

  -- ---- room for 15 parties
  pub room_part : (room : List ℕ) → length room ≡ 15 → length (take h.n room) ≡ h.n
  room_part room e = length-take-le h.n room (omega (arith, p.n-high))

  pub room_shares : (room : List Portion) → length room ≡ 15 → length (take h.n room) ≡ h.n
  room_shares room e = length-take-le h.n room (omega (arith, p.n-high))

-- ---- the bill
module _ (sent price : ℕ) (s : sent ≤ 692160) (q : price ≤ 1000000) where
  most : sent * price ≤ 692160 * 1000000
  most = mul-le-mul {n₁ = sent} {m₁ = price} {n₂ = 692160} {m₂ = 1000000} s q

  pub cents_fit : Fits w64 (sent * price)
  cents_fit = record { fits = omega (arith, most) }

  pub cents_up_fit : Fits w64 (sent * price + 999)
  cents_up_fit = record { fits = omega (arith, most) }

  pub cents_are : (sent * price + 999) / 1000 ≡ bill_for sent price
  unfolding bill_for
  cents_are = refl

  pub cents_below : (sent * price + 999) / 1000 < 4294967296
  unfolding bill_for
  cents_below = bill_fits sent price (omega (arith, s)) q

-- As it is: answers name this set, since the check leaves their goals open by `using` alone.
pub ruleset listing = (rules, one_at_most, pieces_reduced, pieces_truncated, pieces_fit, dealt_fits, drawn_fits, each_fits, all_fit, element_fits, element_is, listed_none, listed_next, listed_long, listed, sent_sum, shares_room, sent_some, bill_is, bytes_are, room_part, room_shares, cents_fit, cents_up_fit, cents_are, cents_below)

-- ---- the call
kept : (c : Checked) (r : Refusal) (new old : List ℕ) → c ≡ Err r → old ≡ unless_refused c new old
unfolding unless_refused
kept c r new old e = rw e

refused_is : (c : Checked) (r : Refusal) (bill : ℕ) → c ≡ Err r → Err r ≡ charged_of c bill
unfolding charged_of
refused_is c r bill e = rw e

module _ (bs : List ℕ) (price : ℕ) (out : List ℕ) where
  answer_parts : charge_answer bs price (length out) ≡ and_then (plan_check bs) (first_of (price_checks bs price (length out)))
  unfolding charge_answer plan_check
  answer_parts = first_of-append (plan_checks bs) (price_checks bs price (length out))

  module _ (q : Refusal) (e : plan_check bs ≡ Err q) where
    turned : charge_answer bs price (length out) ≡ Err q
    turned = answer_parts ∙ and_then_refused (plan_check bs) _ q e

    pub charge_no_plan : (b : Result ℕ Refusal) → b ≡ Err q → b ≡ charged_of (charge_answer bs price (length out)) (bill_of (plan_of bs) price)
    charge_no_plan b eb = eb ∙ refused_is (charge_answer bs price (length out)) q (bill_of (plan_of bs) price) turned

    pub kept_no_plan : out ≡ charge_after bs price out
    unfolding charge_after
    kept_no_plan = kept (charge_answer bs price (length out)) q _ out turned

  module _ (h : Header) (planned : Planned bs h) where
    pub room_fits : Fits w64 (width * h.n)
    room_fits = record { fits = omega (arith, planned.n-high) }

    past_plan : charge_answer bs price (length out) ≡ first_of (price_checks bs price (length out))
    past_plan = answer_parts ∙ and_then_passed (plan_check bs) _ planned.passes

    module _ (l : 1000000 < price) where
      dear : charge_answer bs price (length out) ≡ Err refusal.Price
      unfolding price_checks first_of and_then need
      dear = past_plan ∙ rw (lt-leb price 1000000 l)

      pub charge_dear : Err refusal.Price ≡ charged_of (charge_answer bs price (length out)) (bill_of (plan_of bs) price)
      charge_dear = refused_is (charge_answer bs price (length out)) refusal.Price (bill_of (plan_of bs) price) dear

      pub kept_dear : out ≡ charge_after bs price out
      unfolding charge_after
      kept_dear = kept (charge_answer bs price (length out)) refusal.Price _ out dear

    module _ (l : price ≤ 1000000) where
      past_price : charge_answer bs price (length out) ≡ need refusal.BufferLength (eqb (length out) (width * h.n))
      unfolding price_checks first_of and_then need
      past_price = past_plan ∙ rw (le-leb price 1000000 l, plan_n planned) (by (eqb (length out) (width * h.n)))
        where
          by : (t : Bool) → and_then (cond t (Ok tt) (Err refusal.BufferLength)) (Ok tt) ≡ cond t (Ok tt) (Err refusal.BufferLength)
          by true = refl
          by false = refl

      module _ (ne : length out ≡ width * h.n → ⊥) where
        short : charge_answer bs price (length out) ≡ Err refusal.BufferLength
        unfolding need
        short = past_price ∙ rw (ne_eqb (length out) (width * h.n) ne)

        pub charge_short : Err refusal.BufferLength ≡ charged_of (charge_answer bs price (length out)) (bill_of (plan_of bs) price)
        charge_short = refused_is (charge_answer bs price (length out)) refusal.BufferLength (bill_of (plan_of bs) price) short

        pub kept_short : out ≡ charge_after bs price out
        unfolding charge_after
        kept_short = kept (charge_answer bs price (length out)) refusal.BufferLength _ out short

      module _ (eq : length out ≡ width * h.n) where
        passed : charge_answer bs price (length out) ≡ (Ok tt)
        unfolding need
        passed = past_price ∙ rw (eq-eqb (length out) (width * h.n) eq)

        pub charge_billed : (bill : ℕ) → bill ≡ bill_of (plan_of bs) price → Ok bill ≡ charged_of (charge_answer bs price (length out)) (bill_of (plan_of bs) price)
        unfolding charged_of
        charge_billed bill e = rw (passed, e)

        pub charge_written : (new : List ℕ) → new ≡ bytes_of (charge_of (plan_of bs) price) → new ≡ charge_after bs price out
        unfolding charge_after unless_refused
        charge_written new e = rw passed e

-- As it is: answers name this set, since the check leaves their goals open by `using` alone.
pub ruleset charging = (rules, charge_no_plan, kept_no_plan, room_fits, charge_dear, kept_dear, charge_short, kept_short, charge_billed, charge_written)
