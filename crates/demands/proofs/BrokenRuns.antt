-- Refusal 20 of a run: the party that is told, and the out in which its share is off; and that with any triples nothing else is refused.
--     first_out_broken      a bench that refuses with 20
--     other_triples         a bench, and parties apart, with any triples
-- Assumes nothing.
use Rattle.std.proofs.Common.{Option, Some, None, Ok, Err}
use Prim.Native.Nat.{ℕ, ◌+◌, ◌*◌, ◌<◌}
use mathlib.Core.Path.{◌≡◌, refl, sym, ap, subst, ◌∙◌}
use mathlib.Core.Logic.{◌↔◌, inl, inr}
use mathlib.Core.Bool.{Bool, true, false, cond}
use mathlib.Core.List.{List, [], ◌∷◌, ◌++◌, map}
use native.Mathlib.Omega.{arith}
use lib.Dec.{eqb}
use lib.ListN.{length, get_or, take, drop}
use Rattle.numbers.specs.Tables.{tab}
use Rattle.numbers.specs.Bytes.{numbers, all_below}
use Rattle.numbers.proofs.Tables.{list-tab, tab-map}
use Rattle.numbers.proofs.Below.{map_below}
use Rattle.numbers.proofs.Bytes.{holds-numbers}
use Rattle.field.proofs.Inverse.{pos}
use Rattle.sharing_laws.specs.Sharing.{first_off}
use Rattle.sharing_laws.specs.OffLine.{OnOne, OffAt}
use Rattle.sharing_laws.proofs.OffLine.{off-line}
use Rattle.sharing_laws.proofs.Lists.{length-map}
use Rattle.plan.specs.declared.Output.{Output}
use Rattle.plan.specs.declared.Refusal.TheVariants as refusal
use Rattle.plan.specs.Refusals.{Checked, number_of, and_then, first_of, unless_found}
use Rattle.plan.proofs.Refusals.{first_of-append, and_then_end, passed_both, passed-need, passed_found, FirstRefused, first_refused}
use Rattle.plan.specs.Plans.{Plan, party_count, last_call, coin_count, own_out_count, triple_numbers}
use Rattle.plan.specs.File.{plan_checks, plan_check, plan_of}
use Rattle.plan.proofs.Valid.{Valid, valid}
use Rattle.seat_messages.specs.Messages.{Called, from_each}
use Rattle.seat_messages.specs.Calls.{on_polynomial, outs_check, opening_check}
use Rattle.run_protocol.specs.Rounds.{mail_to, after, at_end}
use Rattle.run_protocol.specs.Shares.{wire_at, share_table}
use Rattle.run_protocol.specs.Tables.{triples_of}
use Rattle.run_protocol.proofs.Below.{share-below}
use Rattle.run_protocol.proofs.Given.{tabled_list}
use Rattle.run_bench.specs.BenchCalls.{shares_at_end, broken_check, given_checks, run_checks, bench_answer}
use Rattle.run_bench.proofs.OutLaws.{wire_within, end_shares}
use Rattle.demands.specs.Further.{out_wire, BrokenRun, FirstOutBroken, Only20, OtherTriples}
use Rattle.demands.proofs.First.{joined, plan_numbers, plan-numbers, given_numbers, party_number, ended_numbers, first_passed}
use Rattle.demands.proofs.Broken.{is_in, split_at, told}
use Rattle.demands.proofs.Benches.{bench_is, view_is}
use Rattle.demands.proofs.Apart.{answer_is, early, answer_at}

-- ---- the shares of a wire at a run's end
module _ (plan : Plan) (ok : Valid plan) (xs cs ts : List ℕ) (full : length cs ≡ coin_count plan) (counted : length ts ≡ party_count plan * triple_numbers plan) where
  abbrev shares : ℕ → List ℕ
  shares w = shares_at_end plan (at_end plan xs cs ts) w

  abbrev table : List (ℕ → ℕ)
  table = share_table plan xs cs (triples_of plan ts)

  are : (w : ℕ) → w < length plan.gates → shares w ≡ map (wire_at table w) plan.points
  are w l = end_shares plan ok xs cs ts (triples_of plan ts) full (tabled_list plan ok ts counted) w l

  law : (w : ℕ) → w < length plan.gates
      → ((s : ℕ) → (first_off plan.p plan.t plan.points (shares w) ≡ Some s) ↔ OffAt plan.p plan.t plan.points (shares w) s)
      × ((first_off plan.p plan.t plan.points (shares w) ≡ None) ↔ OnOne plan.p plan.t plan.points (shares w))
  unfolding party_count
  law w l =
      off-line plan.p plan.t plan.points (shares w) ok.prime ok.distinct ok.threshold
      (ap length (are w l) ∙ length-map (wire_at table w) plan.points)
      (ap (all_below plan.p) (are w l) ∙ map_below plan.p (wire_at table w) plan.points (λ x. share-below plan (pos ok.prime) xs cs (triples_of plan ts) w x))

  -- the first out that breaks
  outs-broken : (place : ℕ) → broken_check plan (at_end plan xs cs ts) ≡ Err (refusal.OffPolynomial place) → BrokenRun plan (at_end plan xs cs ts) place
  unfolding broken_check on_polynomial
  outs-broken place e =
      let none : Output = record { party = 0; wire = 0 } in
      let check : Output → Checked = λ o. unless_found (λ s. refusal.OffPolynomial (s + 1)) (first_off plan.p plan.t plan.points (shares o.wire)) in
      let each : map check plan.outs ≡ tab (λ o. check (get_or plan.outs o none)) (length plan.outs) =
      ap (map check) (list-tab plan.outs none) ∙ tab-map check (λ o. get_or plan.outs o none) (length plan.outs) in
      let w : FirstRefused (λ o. check (get_or plan.outs o none)) (length plan.outs) (refusal.OffPolynomial place) = first_refused _ _ _ (ap first_of (sym each) ∙ e) in
      let o = told place (first_off plan.p plan.t plan.points (shares (out_wire plan w.at))) w.refuses in
      record {
        out = w.at;
        within = w.within;
        earlier = λ j l. (law (out_wire plan j) (wire_within plan ok j (omega (arith, l, w.within)))).1.0 (passed_found (λ s. refusal.OffPolynomial (s + 1)) _ (w.before j l));
        index = o.0;
        told = o.2;
        off = ((law (out_wire plan w.at) (wire_within plan ok w.at w.within)).0 o.0).0 o.1;
      }

-- ---- a bench that refuses with 20
module _ (bytes : List ℕ) (set : ℕ) (inputs coins triples : List ℕ) (room place : ℕ)
    (e : bench_answer bytes set inputs coins triples room ≡ Err (refusal.OffPolynomial place)) where
  abbrev checks : List Checked
  checks = plan_checks bytes ++ run_checks (plan_of bytes) set inputs coins triples room

  parts : (first_of (take 18 checks) ≡ Ok tt) × (first_of (drop 18 checks) ≡ Err (refusal.OffPolynomial place))
  unfolding bench_answer run_checks number_of is_in
  parts =
      split_at 18 (plan_numbers ++ (9 ∷ (given_numbers ++ (19 ∷ 20 ∷ [])))) checks
      (joined (plan-numbers bytes) (party_number _ (ended_numbers (plan_of bytes) inputs coins triples _ _))) (refusal.OffPolynomial place) refl e

  passes : plan_check bytes ≡ Ok tt
  unfolding plan_check plan_checks run_checks given_checks
  passes = (passed_both (first_of (plan_checks bytes)) _ (sym (first_of-append (plan_checks bytes) (take 8 (run_checks (plan_of bytes) set inputs coins triples room))) ∙ parts.0)).0

  coins_long : length (numbers coins) ≡ coin_count (plan_of bytes)
  unfolding plan_checks run_checks given_checks
  coins_long = holds-numbers (coin_count (plan_of bytes)) coins (passed-need refusal.CoinCount _ (first_passed (take 18 checks) parts.0 13))

  triples_long : length (numbers triples) ≡ party_count (plan_of bytes) * triple_numbers (plan_of bytes)
  unfolding plan_checks run_checks given_checks
  triples_long = holds-numbers (party_count (plan_of bytes) * triple_numbers (plan_of bytes)) triples (passed-need refusal.Triples _ (first_passed (take 18 checks) parts.0 16))

  breaks : broken_check (plan_of bytes) (at_end (plan_of bytes) (numbers inputs) (numbers coins) (numbers triples)) ≡ Err (refusal.OffPolynomial place)
  unfolding plan_checks run_checks given_checks first_of
  breaks = sym (and_then_end (broken_check (plan_of bytes) (at_end (plan_of bytes) (numbers inputs) (numbers coins) (numbers triples)))) ∙ parts.1

pub first_out_broken : FirstOutBroken
first_out_broken bytes set inputs coins triples room place e =
    outs-broken (plan_of bytes) (valid bytes (passes bytes set inputs coins triples room place e)) (numbers inputs) (numbers coins) (numbers triples)
    (coins_long bytes set inputs coins triples room place e) (triples_long bytes set inputs coins triples room place e) place (breaks bytes set inputs coins triples room place e)

-- ---- nothing but 20
found_20 : (f : Option ℕ) → Only20 (unless_found (λ s. refusal.OffPolynomial (s + 1)) f)
unfolding unless_found
found_20 (Some s) = inr (s + 1, refl)
found_20 None = inl refl

both_20 : (c d : Checked) → Only20 c → Only20 d → Only20 (and_then c d)
unfolding and_then
both_20 c d (inl e) h = rw e h
both_20 c d (inr q) h = inr (q.0, rw q.1 refl)

all_20 : {A : Type 0} (check : A → Checked) (xs : List A) → ((x : A) → Only20 (check x)) → Only20 (first_of (map check xs))
unfolding first_of
all_20 check [] h = inl refl
all_20 check (x ∷ xs) h = both_20 (check x) (first_of (map check xs)) (h x) (all_20 check xs h)

broken_20 : (plan : Plan) (calls : List Called) → Only20 (broken_check plan calls)
unfolding broken_check on_polynomial
broken_20 plan calls = all_20 _ plan.outs (λ o. found_20 (first_off plan.p plan.t plan.points (shares_at_end plan calls o.wire)))

opening_20 : (plan : Plan) (i k : ℕ) (mail : List ℕ) → Only20 (opening_check plan i k mail)
unfolding opening_check outs_check on_polynomial
opening_20 plan i k mail = by (eqb k (last_call plan))
  where
    check : ℕ → Checked
    check j = unless_found (λ s. refusal.OffPolynomial (s + 1)) (first_off plan.p plan.t plan.points (from_each (party_count plan) (own_out_count plan i) j mail))

    by : (b : Bool) → Only20 (cond b (first_of (tab check (own_out_count plan i))) (Ok tt))
    by true =
        subst (λ (cs : List Checked). Only20 (first_of cs)) (tab-map check (λ j. j) (own_out_count plan i))
        (all_20 check (tab (λ j. j) (own_out_count plan i)) (λ j. found_20 (first_off plan.p plan.t plan.points (from_each (party_count plan) (own_out_count plan i) j mail))))
    by false = inl refl

pub other_triples : OtherTriples
other_triples = record {
  bench = λ bytes xs coins ts set out filled ok fits. subst Only20 (sym (bench_is bytes xs coins ts filled set ok (length out) fits)) (broken_20 (plan_of bytes) (at_end (plan_of bytes) xs coins ts));
  written = λ bytes xs coins ts set out filled answer. view_is bytes xs coins ts filled set out answer;
  calls = λ bytes xs coins ts lent filled room k i l from1 upto.
      answer_at bytes xs coins ts lent filled room k i (omega (arith, l)) from1 upto ∙ early bytes xs coins ts lent filled room k i l from1 upto;
  last = λ bytes xs coins ts lent filled room i from1 upto.
      let k : ℕ = last_call (plan_of bytes) in
      subst Only20 (sym (answer_at bytes xs coins ts lent filled room k i (omega arith) from1 upto ∙ answer_is bytes xs coins ts lent filled room k i (omega arith) from1 upto))
      (opening_20 (plan_of bytes) i k (mail_to i (after (plan_of bytes) xs coins ts k)));
}
