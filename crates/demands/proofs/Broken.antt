-- Refusal 20 of a party's call: the party that is told, and the out in which its share is off.
--     split_at            the checks before the one that refuses, by their numbers
--     first_broken        the claim
-- Assumes nothing.
use Rattle.std.proofs.Common.{Option, Some, None, Ok, Err}
use Prim.Native.Nat.{ℕ, zero, suc, ◌+◌, ◌*◌, ◌<◌}
use mathlib.Core.Path.{◌≡◌, refl, sym, ◌∙◌}
use mathlib.Core.Logic.{◌↔◌}
use mathlib.Core.Bool.{Bool, true, false, cond}
use mathlib.Core.List.{List, [], ◌∷◌, ◌++◌}
use native.Mathlib.Omega.{arith}
use borrow.Author.Tests.{eq-eqb, ltb-true, ltb-false}
use lib.Dec.{eqb, ltb}
use lib.ListN.{length, get_or, take, drop, get_or-eq_default}
use Rattle.numbers.specs.Bytes.{numbers, first_over, all_below}
use Rattle.numbers.proofs.Tables.{length-tab}
use Rattle.numbers.proofs.Below.{all_below_at, all_below-tab, first_over-nothing}
use Rattle.field.proofs.Inverse.{pos}
use Rattle.sharing_laws.specs.Sharing.{first_off}
use Rattle.sharing_laws.specs.OffLine.{OnOne, OffAt}
use Rattle.sharing_laws.proofs.OffLine.{off-line}
use Rattle.plan.specs.declared.Refusal.{Refusal}
use Rattle.plan.specs.declared.Refusal.TheVariants as refusal
use Rattle.plan.specs.Refusals.{Checked}
use Rattle.plan.specs.Refusals.{number_of, place_of, and_then, first_of, unless_found}
use Rattle.plan.proofs.Refusals.{first_of-append, and_then_end, passed_both, passed_found, FirstRefused, first_refused}
use Rattle.plan.specs.Plans.{Plan, party_count, last_call, own_out_count}
use Rattle.plan.specs.File.{plan_checks, plan_check, plan_of}
use Rattle.plan.proofs.Valid.{Valid, valid}
use Rattle.seat_messages.specs.Messages.{from_each}
use Rattle.seat_messages.specs.Calls.{on_polynomial, outs_check, opening_check, party_checks, call_checks, call_answer}
use Rattle.demands.specs.Further.{shares_in, Broken, FirstBroken}
use Rattle.demands.proofs.First.{clash, same_number, same_place, Numbers, ◌▹◌, joined, plan_numbers, plan-numbers, party_numbers, party-numbers, first_passed}

-- ---- the checks before the one that refuses
unfoldable pub is_in : ℕ → List ℕ → Bool
is_in n [] = false
is_in n (m ∷ ms) = cond (eqb m n) true (is_in n ms)

true≢false : true ≡ false → ⊥
true≢false e = let z : ◌≡◌ {A = ℕ} 0 1 = cc in omega arith

not_first : (n m : ℕ) (b rest : Bool) → eqb m n ≡ b → cond b true rest ≡ false → (m ≡ n → ⊥) × (rest ≡ false)
not_first n m true rest e h = absurd (true≢false h)
not_first n m false rest e h = (λ q. true≢false (sym (eq-eqb m n q) ∙ e), h)

-- where the first k checks have other numbers than the refusal, they pass
pub split_at : (k : ℕ) (ns : List ℕ) (cs : List Checked) → Numbers ns cs → (r : Refusal) → is_in (number_of r) (take k ns) ≡ false → first_of cs ≡ Err r
    → (first_of (take k cs) ≡ Ok tt) × (first_of (drop k cs) ≡ Err r)
unfolding first_of and_then is_in
split_at (suc k) [] (_ ∷ cs) h r none e = elim h [ ]
split_at (suc k) (n ∷ ns) [] h r none e = elim h [ ]
split_at zero ns cs h r none e = (refl, e)
split_at (suc k) [] [] h r none e = clash r e
split_at (suc k) (n ∷ ns) ((Ok tt) ∷ cs) (◌▹◌ c h) r none e =
    split_at k ns cs h r (not_first (number_of r) n (eqb n (number_of r)) (is_in (number_of r) (take k ns)) refl none).1 e
split_at (suc k) (n ∷ ns) (Err s ∷ cs) (◌▹◌ c h) r none e =
    absurd ((not_first (number_of r) n (eqb n (number_of r)) (is_in (number_of r) (take k ns)) refl none).0 (sym (c.is s refl) ∙ same_number s r e))

cond_refused : (b : Bool) (c : Checked) (r : Refusal) → cond b c (Ok tt) ≡ Err r → c ≡ Err r
cond_refused true c r e = e
cond_refused false c r e = clash r e

-- ---- the shares of an out
-- refusal 20 tells the place that the search found, counted from 1
pub told : (place : ℕ) (f : Option ℕ) → unless_found (λ s. refusal.OffPolynomial (s + 1)) f ≡ Err (refusal.OffPolynomial place) → (s : ℕ) × (f ≡ Some s) × (place ≡ s + 1)
unfolding unless_found place_of
told place (Some s) e = (s, refl, sym (same_place (refusal.OffPolynomial (s + 1)) (refusal.OffPolynomial place) e))
told place None e = clash (refusal.OffPolynomial place) e

below_by : (p : ℕ) (xs : List ℕ) (i : ℕ) → 0 < p → all_below p xs ≡ true → (b : Bool) → ltb i (length xs) ≡ b → get_or xs i 0 < p
below_by p xs i pos h true e = all_below_at p xs i h (ltb-true i (length xs) e)
below_by p xs i pos h false e = rw (get_or-eq_default xs 0 {n = i} (ltb-false i (length xs) e)) pos

module _ (plan : Plan) (ok : Valid plan) (i : ℕ) (mail : List ℕ) (below : all_below plan.p mail ≡ true) where
  off : ℕ → Option ℕ
  off j = first_off plan.p plan.t plan.points (shares_in plan i mail j)

  law : (j : ℕ)
      → ((s : ℕ) → (off j ≡ Some s) ↔ OffAt plan.p plan.t plan.points (shares_in plan i mail j) s)
      × ((off j ≡ None) ↔ OnOne plan.p plan.t plan.points (shares_in plan i mail j))
  unfolding off from_each party_count
  law j =
      off-line plan.p plan.t plan.points (shares_in plan i mail j) ok.prime ok.distinct (omega (arith, ok.threshold))
      (length-tab (λ s. get_or mail (own_out_count plan i * s + j) 0) (length plan.points))
      (all_below-tab plan.p (λ s. get_or mail (own_out_count plan i * s + j) 0) (length plan.points)
      (λ s l. below_by plan.p mail (own_out_count plan i * s + j) (pos ok.prime) below (ltb (own_out_count plan i * s + j) (length mail)) refl))

  outs-broken : (place : ℕ) → outs_check plan i mail ≡ Err (refusal.OffPolynomial place) → Broken plan i mail place
  unfolding outs_check on_polynomial off
  outs-broken place e =
      let w : FirstRefused (λ j. on_polynomial plan.p plan.t plan.points (shares_in plan i mail j)) (own_out_count plan i) (refusal.OffPolynomial place) =
      first_refused _ _ _ e in
      let o = told place (off w.at) w.refuses in
      record {
        out = w.at;
        own = w.within;
        earlier = λ j l. (law j).1.0 (passed_found (λ s. refusal.OffPolynomial (s + 1)) (off j) (w.before j l));
        index = o.0;
        counted = o.2;
        off = ((law w.at).0 o.0).0 o.1;
      }

-- ---- a call that is refused with 20
module _ (bytes : List ℕ) (i : ℕ) (inputs coins triples state mail : List ℕ) (room place : ℕ)
    (e : call_answer bytes i inputs coins triples state mail room ≡ Err (refusal.OffPolynomial place)) where
  parts : (first_of (take 23 (call_checks bytes i inputs coins triples state mail room)) ≡ Ok tt) × (first_of (drop 23 (call_checks bytes i inputs coins triples state mail room)) ≡ Err (refusal.OffPolynomial place))
  unfolding call_answer call_checks number_of is_in
  parts =
      split_at 23 (plan_numbers ++ party_numbers) (call_checks bytes i inputs coins triples state mail room)
      (joined (plan-numbers bytes) (party-numbers (plan_of bytes) i inputs coins triples state mail room)) (refusal.OffPolynomial place) refl e

  passes : plan_check bytes ≡ Ok tt
  unfolding call_checks plan_check plan_checks party_checks
  passes = (passed_both (first_of (plan_checks bytes)) _ (sym (first_of-append (plan_checks bytes) (take 13 (party_checks (plan_of bytes) i inputs coins triples state mail room))) ∙ parts.0)).0

  below : all_below (plan_of bytes).p (numbers mail) ≡ true
  unfolding call_checks plan_checks party_checks
  below =
      first_over-nothing (plan_of bytes).p (numbers mail)
      (passed_found refusal.MailValue (first_over (plan_of bytes).p (numbers mail)) (first_passed (take 23 (call_checks bytes i inputs coins triples state mail room)) parts.0 21))

  opening : opening_check (plan_of bytes) i (get_or (numbers state) 0 0) (numbers mail) ≡ Err (refusal.OffPolynomial place)
  unfolding call_checks plan_checks party_checks first_of
  opening = sym (and_then_end (opening_check (plan_of bytes) i (get_or (numbers state) 0 0) (numbers mail))) ∙ parts.1

  broken : Broken (plan_of bytes) i (numbers mail) place
  unfolding opening_check
  broken =
      outs-broken (plan_of bytes) (valid bytes passes) i (numbers mail) below place
      (cond_refused (eqb (get_or (numbers state) 0 0) (last_call (plan_of bytes))) (outs_check (plan_of bytes) i (numbers mail)) (refusal.OffPolynomial place) opening)

pub first_broken : FirstBroken
first_broken = broken
