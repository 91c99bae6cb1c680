-- What each way through the checks of two runs together says of its definition.
--     counting, comparing      the joint list's count, and one of its numbers
--     coining                  the joint list, the preparing plan's shape and the buffer
--     checking                 all checks
--     jointly                  what the calls of the matching take, where they pass
-- Assumes nothing.
use Rattle.std.proofs.Common.{Option, Some, None, Ok, Err}
use mathlib.Core.Path.{◌≡◌, refl, sym, ap, ap₂, ◌∙◌}
use mathlib.Core.Bool.{Bool, true, false, cond}
use mathlib.Core.List.{List, ◌∷◌, ◌++◌}
use Prim.Native.Nat.{ℕ, ◌+◌, ◌*◌, ◌/◌, ◌<◌, ◌≤◌}
use borrow.Author.Rules.{rules}
use borrow.Author.Tests.{eqb-true, eq-eqb, ne_eqb, ltb-true, lt-ltb, le-ltb, not-true, not-false}
use lib.Dec.{ltb}
use lib.ListN.{length, get_or}
use Rattle.numbers.specs.Tables.{first_failing}
use Rattle.numbers.specs.Bytes.{width, numbers, holds_count, all_below}
use Rattle.numbers.proofs.Bytes.{numbers-length, holds-length}
use Rattle.numbers.proofs.Below.{at-all_below}
use Rattle.numbers.proofs.Truth.{both_true}
use Rattle.numbers.proofs.Searches.{nothing_passes}
use Rattle.plan.specs.declared.Header.{Header}
use Rattle.plan.specs.declared.Refusal.{Refusal}
use Rattle.plan.specs.declared.Refusal.TheVariants as refusal
use Rattle.plan.specs.Refusals.{Checked, and_then, first_of, need, unless_found}
use Rattle.plan.specs.Plans.{Plan, input_count, coin_count}
use Rattle.plan.specs.File.{plan_of}
use Rattle.plan.specs.Planned.{Planned}
use Rattle.plan.proofs.Planned.{plan_n, plan_t, plan_p}
use Rattle.plan.proofs.Refusals.{and_then_passed, and_then_refused, first_of-cons, first_of-append, need-true, need-false, passed_both, passed-need, passed_found}
use Rattle.plan_coalition.specs.Coalitions.{set_fits, set_ok}
use Rattle.run_protocol.specs.Preparing.{prepares}
use Rattle.run_protocol.proofs.Prepared.{is-preparing}
use Rattle.match_agreement.specs.MatchParts.{input_checks, agree_checks}
use Rattle.match_agreement.proofs.AgreeLaws.{Listed, listed, listed_first, listed_second}
use Rattle.match_prepared.specs.PreparedCalls.{preparing_count, joint_count, joint_below, joint_over, prepared_ok, joint_checks}
use Rattle.match_prepared.specs.PreparedParts.{joint_coin_checks, Jointly}

-- ---- the joint list
pub preparing_counted : (prep : Plan) (a b : ℕ) → a ≡ input_count prep → b ≡ coin_count prep → a + b ≡ preparing_count prep
unfolding preparing_count
preparing_counted prep a b ea eb = ap₂ ◌+◌ ea eb

pub joint_counted : (prep plan : Plan) (a b : ℕ) → a ≡ preparing_count prep → b ≡ coin_count plan → a + b ≡ joint_count prep plan
unfolding joint_count
joint_counted prep plan a b ea eb = ap₂ ◌+◌ ea eb

pub ruleset counting = (rules, preparing_counted, joint_counted)

module _ (prep bs : List ℕ) (h g : Header) (p : Planned prep h) (q : Planned bs g) (cs : List ℕ) (count i v : ℕ) (ec : count ≡ preparing_count (plan_of prep)) (ev : v ≡ get_or cs i 0) where
  pub below_own : i < count → ltb v h.field.p ≡ joint_below (plan_of prep) (plan_of bs) cs i
  unfolding joint_below
  below_own l = sym (rw (← ec, lt-ltb i count l, plan_p p, ev))

  pub below_main : count ≤ i → ltb v g.field.p ≡ joint_below (plan_of prep) (plan_of bs) cs i
  unfolding joint_below
  below_main l = sym (rw (← ec, le-ltb i count l, plan_p q, ev))

pub ruleset comparing = (rules, below_own, below_main)

-- ---- the joint list, the shape and the buffer
module _ (prep plan : Plan) (coins : List ℕ) (room : ℕ) (count : ℕ) (ec : count ≡ joint_count prep plan) (a : Bool) (ea : a ≡ holds_count count coins) where
  pub joint-count : a ≡ false → Err refusal.CoinCount ≡ first_of (joint_coin_checks prep plan coins room)
  unfolding joint_coin_checks first_of and_then need
  joint-count ha = rw (← ec, ← ea, ha)

  module _ (ha : a ≡ true) (f : Option ℕ) (ef : f ≡ first_failing (joint_below prep plan (numbers coins)) (length coins / width)) where
    over-is : joint_over prep plan (numbers coins) ≡ unless_found refusal.CoinValue f
    unfolding joint_over
    over-is =
        ap (λ (n : ℕ). unless_found refusal.CoinValue (first_failing (joint_below prep plan (numbers coins)) n)) (numbers-length coins)
        ∙ ap (unless_found refusal.CoinValue) (sym ef)

    pub joint-over : (i : ℕ) → f ≡ Some i → Err (refusal.CoinValue i) ≡ first_of (joint_coin_checks prep plan coins room)
    unfolding joint_coin_checks first_of and_then need unless_found
    joint-over i hf = rw (← ec, ← ea, ha, over-is, hf)

    module _ (hf : f ≡ None) (b : Bool) (eb : b ≡ prepared_ok prep plan) where
      pub joint-shape : b ≡ false → Err refusal.Triples ≡ first_of (joint_coin_checks prep plan coins room)
      unfolding joint_coin_checks first_of and_then need unless_found
      joint-shape hb = rw (← ec, ← ea, ha, over-is, hf, ← eb, hb)

      module _ (hb : b ≡ true) where
        pub joint-room : (room ≡ width * count → ⊥) → Err refusal.BufferLength ≡ first_of (joint_coin_checks prep plan coins room)
        unfolding joint_coin_checks first_of and_then need unless_found
        joint-room n = rw (← ec, ← ea, ha, over-is, hf, ← eb, hb, ne_eqb room (width * count) n)

        pub joint-all : room ≡ width * count → Ok tt ≡ first_of (joint_coin_checks prep plan coins room)
        unfolding joint_coin_checks first_of and_then need unless_found
        joint-all e = rw (← ec, ← ea, ha, over-is, hf, ← eb, hb, eq-eqb room (width * count) e)

pub ruleset coining = (rules, not-true, not-false, joint-count, joint-over, joint-shape, joint-room, joint-all)

-- ---- all checks
module _ (prep plan : Plan) (set : ℕ) (xs ys coins : List ℕ) (room : ℕ) where
  joint_parts :
      joint_checks prep plan set xs ys coins room
      ≡ need refusal.Coalition (set_ok prep set) ∷ (input_checks plan set xs ys ++ (joint_coin_checks prep plan coins room ++ agree_checks plan set (numbers xs) (numbers ys)))
  unfolding joint_checks input_checks joint_coin_checks agree_checks
  joint_parts = refl

  joint_first_of :
      first_of (joint_checks prep plan set xs ys coins room)
      ≡ and_then (need refusal.Coalition (set_ok prep set))
      (and_then (first_of (input_checks plan set xs ys)) (and_then (first_of (joint_coin_checks prep plan coins room)) (first_of (agree_checks plan set (numbers xs) (numbers ys)))))
  joint_first_of =
      ap first_of joint_parts
      ∙ first_of-cons (need refusal.Coalition (set_ok prep set)) _
      ∙ ap (and_then (need refusal.Coalition (set_ok prep set)))
      (first_of-append (input_checks plan set xs ys) _
      ∙ ap (and_then (first_of (input_checks plan set xs ys))) (first_of-append (joint_coin_checks prep plan coins room) (agree_checks plan set (numbers xs) (numbers ys))))

module _ (pb bs : List ℕ) (h : Header) (p : Planned pb h) (set : ℕ) (xs ys coins : List ℕ) (room : ℕ) (s : Bool) (es : s ≡ set_fits h.n h.t set) where
  set_is : set_ok (plan_of pb) set ≡ s
  unfolding set_ok
  set_is = rw (plan_n p, plan_t p) (sym es)

  pub joint-set : s ≡ false → Err refusal.Coalition ≡ first_of (joint_checks (plan_of pb) (plan_of bs) set xs ys coins room)
  joint-set hs = sym (joint_first_of (plan_of pb) (plan_of bs) set xs ys coins room ∙ and_then_refused _ _ refusal.Coalition (need-false refusal.Coalition _ (set_is ∙ hs)))

  module _ (hs : s ≡ true) (a : Checked) (ea : a ≡ first_of (input_checks (plan_of bs) set xs ys)) where
    after-set :
        first_of (joint_checks (plan_of pb) (plan_of bs) set xs ys coins room)
        ≡ and_then a (and_then (first_of (joint_coin_checks (plan_of pb) (plan_of bs) coins room)) (first_of (agree_checks (plan_of bs) set (numbers xs) (numbers ys))))
    after-set =
        joint_first_of (plan_of pb) (plan_of bs) set xs ys coins room
        ∙ and_then_passed _ _ (need-true refusal.Coalition _ (set_is ∙ hs))
        ∙ ap (λ (c : Checked). and_then c (and_then (first_of (joint_coin_checks (plan_of pb) (plan_of bs) coins room)) (first_of (agree_checks (plan_of bs) set (numbers xs) (numbers ys))))) (sym ea)

    pub joint-inputs : (r : Refusal) → a ≡ Err r → Err r ≡ first_of (joint_checks (plan_of pb) (plan_of bs) set xs ys coins room)
    joint-inputs r ha = sym (after-set ∙ and_then_refused a _ r ha)

    module _ (ha : a ≡ Ok tt) (b : Checked) (eb : b ≡ first_of (joint_coin_checks (plan_of pb) (plan_of bs) coins room)) where
      pub joint-coins : (r : Refusal) → b ≡ Err r → Err r ≡ first_of (joint_checks (plan_of pb) (plan_of bs) set xs ys coins room)
      joint-coins r hb = sym (after-set ∙ and_then_passed a _ ha ∙ and_then_refused _ _ r (sym eb ∙ hb))

      pub joint_on :
          (c : Checked) → b ≡ Ok tt → c ≡ first_of (agree_checks (plan_of bs) set (numbers xs) (numbers ys))
          → c ≡ first_of (joint_checks (plan_of pb) (plan_of bs) set xs ys coins room)
      joint_on c hb ec = sym (after-set ∙ and_then_passed a _ ha ∙ and_then_passed _ _ (sym eb ∙ hb) ∙ sym ec)

pub ruleset checking = (rules, not-true, not-false, joint-set, joint-inputs, joint-coins, joint_on, listed_first, listed_second)

-- ---- what two runs that pass are
same_below : (b : Bool) (p v : ℕ) → ltb v (cond b p p) ≡ ltb v p
same_below true p v = refl
same_below false p v = refl

module _ (prep plan : Plan) (same : prep.p ≡ plan.p) where
  joint-small : (cs : List ℕ) → joint_over prep plan cs ≡ Ok tt → all_below plan.p cs ≡ true
  unfolding joint_over joint_below
  joint-small cs e =
      at-all_below plan.p cs
      (λ i l.
      ltb-true (get_or cs i 0) plan.p
      (sym (same_below (ltb i (preparing_count prep)) plan.p (get_or cs i 0))
      ∙ sym (ap (λ (m : ℕ). ltb (get_or cs i 0) (cond (ltb i (preparing_count prep)) m plan.p)) same)
      ∙ nothing_passes (λ i. ltb (get_or cs i 0) (cond (ltb i (preparing_count prep)) prep.p plan.p)) (length cs) (passed_found refusal.CoinValue _ e) i l))

pub jointly :
    (pb bs : List ℕ) (set : ℕ) (xs ys coins : List ℕ) (room : ℕ) (c : Checked) → c ≡ first_of (joint_checks (plan_of pb) (plan_of bs) set xs ys coins room) → c ≡ Ok tt
    → Jointly pb bs set xs ys coins room
unfolding joint_coin_checks agree_checks first_of prepared_ok
jointly pb bs set xs ys coins room c e k =
    let z = passed_both _ _ (sym (joint_first_of (plan_of pb) (plan_of bs) set xs ys coins room) ∙ sym e ∙ k) in
    let a = passed_both _ _ z.1 in
    let b = passed_both _ _ a.1 in
    let l : Listed (plan_of bs) set xs ys = listed (plan_of bs) set xs ys a.0 in
    let d = passed_both _ _ b.0 in
    let f = passed_both _ _ d.1 in
    let s = passed_both _ _ f.1 in
    let w = passed_both _ _ s.1 in
    let m = passed_both _ _ b.1 in
    let ok : prepares (plan_of pb) (plan_of bs) ≡ true = (both_true _ _ (passed-need refusal.Triples _ s.0)).1 in
    record {
      prepared = ok;
      set_ok_first = passed-need refusal.Coalition _ z.0;
      set_ok_lem = l.set_ok_lem;
      first_long = l.first_long;
      second_long = l.second_long;
      first_below = l.first_below;
      second_below = l.second_below;
      coins_below = joint-small (plan_of pb) (plan_of bs) (ap (λ (r : Plan). r.p) (is-preparing (plan_of pb) (plan_of bs) ok)) (numbers coins) f.0;
      coins_long = holds-length (joint_count (plan_of pb) (plan_of bs)) coins (passed-need refusal.CoinCount _ d.0);
      room_long = eqb-true room (width * joint_count (plan_of pb) (plan_of bs)) (passed-need refusal.BufferLength _ w.0);
      agree = m.0;
    }
