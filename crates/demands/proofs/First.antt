-- Demand 1: the answer is the first refusal in checking order, C reads it whole, and a refused call leaves every buffer as it was lent.
--     Numbers, first_of                         a list of checks by their numbers, in checking order
--     Bounded, told                             places below 2^32, where the triples that are lent are no more
--     demand1                                   the claim
-- Assumes nothing.
use Rattle.std.proofs.Common.{Option, Some, None, Ok, Err}
use Prim.Native.Nat.{ℕ, zero, suc, ◌+◌, ◌*◌, ◌/◌, ◌%◌, ◌<◌, ◌≤◌}
use mathlib.Core.Path.{◌≡◌, refl, sym, ap, ◌∙◌}
use mathlib.Core.Bool.{Bool, true, false, cond, ◌&&◌}
use mathlib.Core.List.{List, [], ◌∷◌, ◌++◌, map}
use native.Mathlib.Omega.{arith}
use borrow.Author.Tests.{leb-true}
use lib.Dec.{eqb, leb}
use lib.ListN.{length, get_or}
use Rattle.numbers.specs.Tables.{tab, first_failing}
use Rattle.numbers.specs.Bytes.{width, limit, numbers, holds_count, first_over}
use Rattle.numbers.proofs.Truth.{both_true}
use Rattle.numbers.proofs.Searches.{first_failing_lem}
use Rattle.numbers.proofs.Below.{first_over_at}
use Rattle.numbers.proofs.Bytes.{numbers-length, holds-numbers}
use Rattle.sharing_laws.proofs.OffLine.{off_within}
use Rattle.plan.specs.declared.Refusal.{Refusal}
use Rattle.plan.specs.declared.Refusal.TheVariants as refusal
use Rattle.plan.specs.Refusals.{Checked}
use Rattle.plan.specs.Refusals.{number_of, place_of, code_of, and_then, first_of, need, unless_found}
use Rattle.plan.proofs.Refusals.{first_of-append, passed_both, passed-need, first_refused}
use Rattle.plan.specs.Plans.{Plan, party_count, last_call, input_count, own_input_count, coin_count, own_coin_count, own_out_count, mail_count, sent_count}
use Rattle.plan.specs.File.{gate_count_at, out_count_at, gate_kept, out_kept, layout_ok, majority_check, points_check, plan_checks, plan_check, plan_of}
use Rattle.plan.proofs.Planned.{between-true, Laid, laid}
use Rattle.seat_messages.specs.Messages.{Called, from_each}
use Rattle.seat_messages.specs.Calls.{on_polynomial, outs_check, opening_check, party_checks, call_checks, call_answer, unless_refused, state_after, triples_after, out_after}
use Rattle.run_bench.specs.BenchCalls.{shares_at_end, broken_check, given_checks, run_checks, bench_answer, benched_of, view_after, spent_after}
use Rattle.match_agreement.specs.MatchCalls.{inputs_agree, outs_agree, pair_checks, match_answer, matched_after}
use Rattle.match_prepared.specs.PreparedCalls.{in_turn, preparing_count, joint_count, joint_below, joint_over, joint_checks, prepared_checks, prepared_answer, prepared_after}
use Rattle.import_call.specs.Importing.{import_file, text_checks, import_checks, import_answer, import_after}
use Rattle.sheet_call.specs.Compiling as sheet
use Rattle.charge_laws.specs.Charges.{bill_of}
use Rattle.charge_call.specs.ChargeCalls.{price_checks, charge_answer, charged_of, charge_after}
use Rattle.seat_admission.specs.Parts.{list_checks}
use Rattle.record_laws.specs.Records.{record_checks, record_answer, record_after, record_spent, bench_read_checks, bench_read_answer, bench_read_after, plant_read_checks, plant_read_answer, plant_read_after}
use Rattle.count_laws.specs.Settings.{member_coins}
use Rattle.count_laws.specs.CountCalls.{member_checks, counting_checks, count_checks, count_answer, count_after}
use Rattle.count_laws.proofs.Owned.{members_others}
use Rattle.pool_answers.specs.Answers.{answer_of, billed_of}
use Rattle.demands.specs.Order.{checking_order, rank_in, rank_of}
use Rattle.demands.specs.Demands.{Short, Answers, Demand1}
use Rattle.demands.proofs.Turns.{turned_passed}
use Rattle.demands.proofs.Bounds.{outs_few, parties-few, inputs_few, own_few, own-coins-few, coins_few, mail-few, sent-few, bill-few}

infixr 5 ◌▹◌
infixr 5 ◌▸◌
-- ---- a check's number
pub clash : {A : Type 0} (q : Refusal) → ◌≡◌ {A = Checked} (Ok tt) (Err q) → A
clash q e = absurd cc

pub same_number : (r q : Refusal) → ◌≡◌ {A = Checked} (Err r) (Err q) → number_of r ≡ number_of q
same_number r q e = cc

-- where this check refuses, its number is n
pub record Numbered (n : ℕ) (c : Checked) : Type 0 where
  pub is : (q : Refusal) → c ≡ Err q → number_of q ≡ n

need_number : (r : Refusal) (ok : Bool) → Numbered (number_of r) (need r ok)
unfolding need
need_number r true = record { is = λ q e. clash q e }
need_number r false = record { is = λ q e. sym (same_number r q e) }

found_number : (r : ℕ → Refusal) (n : ℕ) (f : Option ℕ) → ((i : ℕ) → number_of (r i) ≡ n) → Numbered n (unless_found r f)
unfolding unless_found
found_number r n (Some i) h = record { is = λ q e. sym (same_number (r i) q e) ∙ h i }
found_number r n None h = record { is = λ q e. clash q e }

cond_number : (n : ℕ) (b : Bool) (c : Checked) → Numbered n c → Numbered n (cond b c (Ok tt))
cond_number n true c h = h
cond_number n false c h = record { is = λ q e. clash q e }

-- ---- a list of checks by their numbers
pub data Numbers : List ℕ → List Checked → Type 0 where
  none : Numbers [] []
  ◌▹◌ : {n : ℕ} {ns : List ℕ} {c : Checked} {cs : List Checked} → Numbered n c → Numbers ns cs → Numbers (n ∷ ns) (c ∷ cs)

pub joined : {ns ms : List ℕ} {cs ds : List Checked} → Numbers ns cs → Numbers ms ds → Numbers (ns ++ ms) (cs ++ ds)
joined none ds = ds
joined (c ▹ cs) ds = c ▹ joined cs ds

-- every number stands before those after it in checking order
before : ℕ → List ℕ → Bool
before n [] = true
before n (m ∷ ms) = leb (rank_in checking_order n) (rank_in checking_order m) && before n ms

ordered : List ℕ → Bool
ordered [] = true
ordered (n ∷ ns) = before n ns && ordered ns

ranked-after : (n : ℕ) {ns : List ℕ} {cs : List Checked} → before n ns ≡ true → Numbers ns cs
    → (k : ℕ) (q : Refusal) → get_or cs k (Ok tt) ≡ Err q → rank_in checking_order n ≤ rank_of q
unfolding before rank_of
ranked-after n b none k q e = clash q e
ranked-after n {ns = m ∷ ms} b (c ▹ cs) zero q e =
    let l : rank_in checking_order n ≤ rank_in checking_order m = leb-true _ _ (both_true _ (before n ms) b).0 in
    rw (c.is q e) l
ranked-after n {ns = m ∷ ms} b (c ▹ cs) (suc k) q e =
    ranked-after n (both_true (leb (rank_in checking_order n) (rank_in checking_order m)) (before n ms) b).1 cs k q e

pub first_passed : (cs : List Checked) → first_of cs ≡ Ok tt → (k : ℕ) → get_or cs k (Ok tt) ≡ Ok tt
unfolding first_of and_then
first_passed [] e k = refl
first_passed ((Ok tt) ∷ cs) e zero = refl
first_passed ((Ok tt) ∷ cs) e (suc k) = first_passed cs e k
first_passed (Err r ∷ cs) e k = clash r (sym e)

first_among : (cs : List Checked) (r : Refusal) → first_of cs ≡ Err r → (k : ℕ) × (k < length cs) × (get_or cs k (Ok tt) ≡ Err r)
unfolding first_of and_then
first_among [] r e = clash r e
first_among ((Ok tt) ∷ cs) r e = let o = first_among cs r e in (suc o.0, omega (arith, o.1), o.2)
first_among (Err q ∷ cs) r e = (0, omega arith, e)

first_ranked : {ns : List ℕ} (cs : List Checked) → Numbers ns cs → ordered ns ≡ true → (r : Refusal) → first_of cs ≡ Err r
    → (k : ℕ) (q : Refusal) → get_or cs k (Ok tt) ≡ Err q → rank_of r ≤ rank_of q
unfolding first_of and_then ordered rank_of
first_ranked [] none o r e k q h = clash r e
first_ranked ((Ok tt) ∷ cs) (c ▹ ns) o r e zero q h = clash q h
first_ranked {ns = n ∷ ms} ((Ok tt) ∷ cs) (c ▹ ns) o r e (suc k) q h = first_ranked cs ns (both_true (before n ms) (ordered ms) o).1 r e k q h
first_ranked (Err s ∷ cs) (c ▹ ns) o r e zero q h = rw (← same_number s r e, ← same_number s q h) (omega arith)
first_ranked {ns = n ∷ ms} (Err s ∷ cs) (c ▹ ns) o r e (suc k) q h =
    let m : number_of r ≡ n = sym (same_number s r e) ∙ c.is s refl in
    rw m (ranked-after n (both_true (before n ms) (ordered ms) o).0 ns k q h)

-- checks by a rule, each with the number n: so has the first of them that refuses
each_number : (n : ℕ) (check : ℕ → Checked) (m : ℕ) → ((k : ℕ) → Numbered n (check k)) → Numbered n (first_of (tab check m))
each_number n check m h = record { is = λ q e. let o = first_refused check m q e in (h o.at).is q o.refuses }

-- of two checks, and of one for each entry of a list
both_number : (n : ℕ) (c d : Checked) → Numbered n c → Numbered n d → Numbered n (and_then c d)
unfolding and_then
both_number n (Ok tt) d h k = k
both_number n (Err r) d h k = h

all_number : {A : Type 0} (n : ℕ) (check : A → Checked) (xs : List A) → ((x : A) → Numbered n (check x)) → Numbered n (first_of (map check xs))
unfolding first_of
all_number n check [] h = record { is = λ q e. clash q e }
all_number n check (x ∷ xs) h = both_number n (check x) (first_of (map check xs)) (h x) (all_number n check xs h)

-- ---- a check's place
number_range : (r : Refusal) → (1 ≤ number_of r) × (number_of r ≤ 31)
unfolding number_of
number_range refusal.CircuitText = (omega arith, omega arith)
number_range refusal.SheetText = (omega arith, omega arith)
number_range refusal.TooLarge = (omega arith, omega arith)
number_range refusal.Magic = (omega arith, omega arith)
number_range refusal.Version = (omega arith, omega arith)
number_range refusal.Parties = (omega arith, omega arith)
number_range refusal.Threshold = (omega arith, omega arith)
number_range refusal.Modulus = (omega arith, omega arith)
number_range refusal.Layout = (omega arith, omega arith)
number_range (refusal.GateRule g) = (omega arith, omega arith)
number_range (refusal.OutputRule o) = (omega arith, omega arith)
number_range refusal.Majority = (omega arith, omega arith)
number_range refusal.Points = (omega arith, omega arith)
number_range refusal.Price = (omega arith, omega arith)
number_range refusal.Record = (omega arith, omega arith)
number_range refusal.Coalition = (omega arith, omega arith)
number_range refusal.InputCount = (omega arith, omega arith)
number_range (refusal.InputValue i) = (omega arith, omega arith)
number_range refusal.CoinCount = (omega arith, omega arith)
number_range (refusal.CoinValue i) = (omega arith, omega arith)
number_range refusal.Triples = (omega arith, omega arith)
number_range refusal.Settings = (omega arith, omega arith)
number_range refusal.StateCount = (omega arith, omega arith)
number_range refusal.StateValue = (omega arith, omega arith)
number_range refusal.Finished = (omega arith, omega arith)
number_range refusal.MailCount = (omega arith, omega arith)
number_range (refusal.MailValue i) = (omega arith, omega arith)
number_range refusal.BufferLength = (omega arith, omega arith)
number_range (refusal.OffPolynomial o) = (omega arith, omega arith)
number_range (refusal.InputsDiffer i) = (omega arith, omega arith)
number_range (refusal.OutputsDiffer o) = (omega arith, omega arith)

pub same_place : (r q : Refusal) → ◌≡◌ {A = Checked} (Err r) (Err q) → place_of r ≡ place_of q
same_place r q e = cc

-- where this check refuses, its place is below 2^32
abbrev Small : Checked → Type 0
Small c = (q : Refusal) → c ≡ Err q → place_of q < 4294967296

need_small : (r : Refusal) (ok : Bool) → place_of r ≡ 0 → Small (need r ok)
unfolding need
need_small r true z q e = clash q e
need_small r false z q e = omega (arith, z, same_place r q e)

found_below : (r : ℕ → Refusal) (f : Option ℕ) → ((i : ℕ) → f ≡ Some i → place_of (r i) < 4294967296) → Small (unless_found r f)
unfolding unless_found
found_below r (Some i) l q e = omega (arith, l i refl, same_place (r i) q e)
found_below r None l q e = clash q e

found_small : (r : ℕ → Refusal) (f : Option ℕ) → ((i : ℕ) → place_of (r i) ≡ i) → ((i : ℕ) → f ≡ Some i → i < 4294967296) → Small (unless_found r f)
found_small r f z l = found_below r f (λ i e. omega (arith, z i, l i e))

each_small : (check : ℕ → Checked) (n : ℕ) → ((k : ℕ) → Small (check k)) → Small (first_of (tab check n))
each_small check n h q e = let o = first_refused check n q e in h o.at q o.refuses

both_small : (c d : Checked) → Small c → Small d → Small (and_then c d)
unfolding and_then
both_small (Ok tt) d h k q e = k q e
both_small (Err r) d h k q e = h q e

all_small : {A : Type 0} (check : A → Checked) (xs : List A) → ((x : A) → Small (check x)) → Small (first_of (map check xs))
unfolding first_of
all_small check [] h q e = clash q e
all_small check (x ∷ xs) h q e = both_small (check x) (first_of (map check xs)) (h x) (all_small check xs h) q e

cond_small : (b : Bool) (c : Checked) → Small c → Small (cond b c (Ok tt))
cond_small true c h q e = h q e
cond_small false c h q e = clash q e

-- a search among so many
search_small : (ok : ℕ → Bool) (n : ℕ) → n ≤ 4294967296 → (i : ℕ) → first_failing ok n ≡ Some i → i < 4294967296
search_small ok n l i e = omega (arith, (first_failing_lem ok n i e).within)

-- the numbers of a list that has so many
list_small : (few : Refusal) (over : ℕ → Refusal) (p n : ℕ) (bs : List ℕ) → ((i : ℕ) → place_of (over i) ≡ i) → n ≤ 4294967296
    → need few (holds_count n bs) ≡ Ok tt → Small (unless_found over (first_over p (numbers bs)))
list_small few over p n bs o l e =
    found_small over (first_over p (numbers bs)) o
    (λ i q. omega (arith, l, (first_over_at p (numbers bs) i q).within, holds-numbers n bs (passed-need few (holds_count n bs) e)))

-- the numbers of a list that is that short
short_small : (over : ℕ → Refusal) (p : ℕ) (bs : List ℕ) → ((i : ℕ) → place_of (over i) ≡ i) → length bs ≤ width * limit → Small (unless_found over (first_over p (numbers bs)))
short_small over p bs o l =
    found_small over (first_over p (numbers bs)) o (λ i q. omega (arith, l, (first_over_at p (numbers bs) i q).within, numbers-length bs))

-- ---- a list of checks, each of which may rest on those before it
data Bounded : List Checked → Type 0 where
  none : Bounded []
  ◌▸◌ : {c : Checked} {cs : List Checked} → Small c → (c ≡ Ok tt → Bounded cs) → Bounded (c ∷ cs)

bounded_first : {cs : List Checked} → Bounded cs → Small (first_of cs)
unfolding first_of and_then
bounded_first Bounded.none q e = clash q e
bounded_first (◌▸◌ {c = (Ok tt)} s rest) q e = bounded_first (rest refl) q e
bounded_first (◌▸◌ {c = Err r} s rest) q e = s q e

bounded-joined : {cs ds : List Checked} → Bounded cs → (first_of cs ≡ Ok tt → Bounded ds) → Bounded (cs ++ ds)
unfolding first_of and_then
bounded-joined Bounded.none h = h refl
bounded-joined (◌▸◌ {c = (Ok tt)} s rest) h = s ▸ λ e. bounded-joined (rest e) h
bounded-joined (◌▸◌ {c = Err r} s rest) h = s ▸ λ e. clash r (sym e)

-- ---- the answer to a list of checks
module _ {ns : List ℕ} {cs : List Checked} (S K : Type 0) (numbers : Numbers ns cs) (order : ordered ns ≡ true) (bounded : S → Bounded cs)
    (kept : (r : Refusal) → first_of cs ≡ Err r → K) where
  told_none : (a : Checked) → code_of a ≡ 0 → a ≡ Ok tt
  unfolding code_of
  told_none (Ok tt) e = refl
  told_none (Err q) e = absurd (omega (arith, (number_range q).0, e))

  told_number : (r : Refusal) → code_of (Err r) % 256 ≡ number_of r
  unfolding code_of
  told_number r = omega (arith, (number_range r).1)

  told_place : (r : Refusal) → place_of r < 4294967296 → code_of (Err r) / 256 ≡ place_of r
  unfolding code_of
  told_place r l = omega (arith, (number_range r).1, l)

  answers : Answers cs (first_of cs) S K
  answers = record {
    passed = first_passed cs;
    among = first_among cs;
    first = first_ranked cs numbers order;
    none = told_none (first_of cs);
    number = λ r e. ap (λ (a : Checked). code_of a % 256) e ∙ told_number r;
    place = λ s r e. ap (λ (a : Checked). code_of a / 256) e ∙ told_place r (bounded_first (bounded s) r e);
    kept = kept;
  }

-- ---- the checks of each call
abbrev pub plan_numbers : List ℕ
plan_numbers = 1 ∷ 2 ∷ 3 ∷ 4 ∷ 5 ∷ 6 ∷ 7 ∷ 8 ∷ 25 ∷ 26 ∷ []

abbrev pub party_numbers : List ℕ
party_numbers = 9 ∷ 10 ∷ 11 ∷ 12 ∷ 13 ∷ 13 ∷ 29 ∷ 14 ∷ 15 ∷ 16 ∷ 17 ∷ 18 ∷ 19 ∷ 20 ∷ []

abbrev pub given_numbers : List ℕ
given_numbers = 10 ∷ 11 ∷ 12 ∷ 13 ∷ 13 ∷ 29 ∷ []

abbrev pair_numbers : List ℕ
pair_numbers = 9 ∷ 10 ∷ 10 ∷ 11 ∷ 11 ∷ 12 ∷ 13 ∷ 29 ∷ 19 ∷ 21 ∷ 22 ∷ []

abbrev joint_numbers : List ℕ
joint_numbers = 9 ∷ pair_numbers

pub plan-numbers : (bs : List ℕ) → Numbers plan_numbers (plan_checks bs)
unfolding plan_checks majority_check points_check number_of
plan-numbers bs =
    need_number refusal.Magic _
    ▹ need_number refusal.Version _
    ▹ need_number refusal.Parties _
    ▹ need_number refusal.Threshold _
    ▹ need_number refusal.Modulus _
    ▹ need_number refusal.Layout _
    ▹ found_number refusal.GateRule 7 _ (λ i. refl)
    ▹ found_number refusal.OutputRule 8 _ (λ i. refl)
    ▹ found_number (λ g. refusal.Majority) 25 _ (λ i. refl)
    ▹ found_number (λ i. refusal.Points) 26 _ (λ i. refl)
    ▹ none

opening_number : (plan : Plan) (i k : ℕ) (mail : List ℕ) → Numbered 20 (opening_check plan i k mail)
unfolding opening_check outs_check on_polynomial number_of
opening_number plan i k mail =
    cond_number 20 (eqb k (last_call plan)) (outs_check plan i mail)
    (each_number 20 (λ j. on_polynomial plan.p plan.t plan.points (from_each (party_count plan) (own_out_count plan i) j mail)) (own_out_count plan i)
    (λ j. found_number (λ s. refusal.OffPolynomial (s + 1)) 20 _ (λ s. refl)))

inputs_number : (plan : Plan) (set : ℕ) (xs ys : List ℕ) → Numbered 21 (inputs_agree plan set xs ys)
unfolding inputs_agree number_of
inputs_number plan set xs ys = found_number refusal.InputsDiffer 21 _ (λ i. refl)

outs_number : (plan : Plan) (set : ℕ) (xs ys : List ℕ) → Numbered 22 (outs_agree plan set xs ys)
unfolding outs_agree number_of
outs_number plan set xs ys = found_number refusal.OutputsDiffer 22 _ (λ o. refl)

pub party-numbers : (plan : Plan) (i : ℕ) (inputs coins triples state mail : List ℕ) (room : ℕ) → Numbers party_numbers (party_checks plan i inputs coins triples state mail room)
unfolding party_checks number_of
party-numbers plan i inputs coins triples state mail room =
    need_number refusal.Coalition _
    ▹ need_number refusal.InputCount _
    ▹ found_number refusal.InputValue 11 _ (λ j. refl)
    ▹ need_number refusal.CoinCount _
    ▹ found_number refusal.CoinValue 13 _ (λ j. refl)
    ▹ found_number refusal.CoinValue 13 _ (λ j. refl)
    ▹ need_number refusal.Triples _
    ▹ need_number refusal.StateCount _
    ▹ need_number refusal.StateValue _
    ▹ need_number refusal.Finished _
    ▹ need_number refusal.MailCount _
    ▹ found_number refusal.MailValue 18 _ (λ j. refl)
    ▹ need_number refusal.BufferLength _
    ▹ opening_number plan i _ _
    ▹ none

pair-numbers : (plan : Plan) (set : ℕ) (xs ys coins : List ℕ) (room : ℕ) → Numbers pair_numbers (pair_checks plan set xs ys coins room)
unfolding pair_checks number_of
pair-numbers plan set xs ys coins room =
    need_number refusal.Coalition _
    ▹ need_number refusal.InputCount _
    ▹ need_number refusal.InputCount _
    ▹ found_number refusal.InputValue 11 _ (λ j. refl)
    ▹ found_number refusal.InputValue 11 _ (λ j. refl)
    ▹ need_number refusal.CoinCount _
    ▹ found_number refusal.CoinValue 13 _ (λ j. refl)
    ▹ need_number refusal.Triples _
    ▹ need_number refusal.BufferLength _
    ▹ inputs_number plan set _ _
    ▹ outs_number plan set _ _
    ▹ none

joint-numbers : (prep plan : Plan) (set : ℕ) (xs ys coins : List ℕ) (room : ℕ) → Numbers joint_numbers (joint_checks prep plan set xs ys coins room)
unfolding joint_checks joint_over joint_below number_of
joint-numbers prep plan set xs ys coins room =
    need_number refusal.Coalition _
    ▹ need_number refusal.Coalition _
    ▹ need_number refusal.InputCount _
    ▹ need_number refusal.InputCount _
    ▹ found_number refusal.InputValue 11 _ (λ j. refl)
    ▹ found_number refusal.InputValue 11 _ (λ j. refl)
    ▹ need_number refusal.CoinCount _
    ▹ found_number refusal.CoinValue 13 _ (λ j. refl)
    ▹ need_number refusal.Triples _
    ▹ need_number refusal.BufferLength _
    ▹ inputs_number plan set _ _
    ▹ outs_number plan set _ _
    ▹ none

-- two lists of checks in turn
turned : List ℕ → List ℕ → List ℕ
turned [] ms = ms
turned (n ∷ ns) [] = n ∷ ns
turned (n ∷ ns) (m ∷ ms) = n ∷ m ∷ turned ns ms

turned_numbers : {ns ms : List ℕ} {cs ds : List Checked} → Numbers ns cs → Numbers ms ds → Numbers (turned ns ms) (in_turn cs ds)
unfolding turned in_turn
turned_numbers none ds = ds
turned_numbers (c ▹ cs) none = c ▹ cs
turned_numbers (c ▹ cs) (d ▹ ds) = c ▹ (d ▹ turned_numbers cs ds)

text-numbers : (n t p : ℕ) (text : List ℕ) → Numbers (23 ∷ 24 ∷ plan_numbers) (text_checks n t p text)
unfolding text_checks number_of
text-numbers n t p text = need_number refusal.CircuitText _ ▹ need_number refusal.TooLarge _ ▹ plan-numbers (import_file n t p text)

sheet-numbers : (n t p i : ℕ) (text : List ℕ) → Numbers (27 ∷ 24 ∷ plan_numbers) (sheet.text_checks n t p i text)
unfolding sheet.text_checks number_of
sheet-numbers n t p i text = need_number refusal.SheetText _ ▹ need_number refusal.TooLarge _ ▹ plan-numbers (sheet.sheet_file n t p i text)

room_number : (ok : Bool) → Numbers (19 ∷ []) (need refusal.BufferLength ok ∷ [])
unfolding number_of
room_number ok = need_number refusal.BufferLength ok ▹ none

price-numbers : (bs : List ℕ) (price room : ℕ) → Numbers (31 ∷ 19 ∷ []) (price_checks bs price room)
unfolding price_checks number_of
price-numbers bs price room = need_number refusal.Price _ ▹ need_number refusal.BufferLength _ ▹ none

given-numbers : (plan : Plan) (xs coins triples : List ℕ) → Numbers given_numbers (given_checks plan xs coins triples)
unfolding given_checks number_of
given-numbers plan xs coins triples =
    need_number refusal.InputCount _
    ▹ found_number refusal.InputValue 11 _ (λ j. refl)
    ▹ need_number refusal.CoinCount _
    ▹ found_number refusal.CoinValue 13 _ (λ j. refl)
    ▹ found_number refusal.CoinValue 13 _ (λ j. refl)
    ▹ need_number refusal.Triples _
    ▹ none

broken_number : (plan : Plan) (cs : List Called) → Numbered 20 (broken_check plan cs)
unfolding broken_check on_polynomial number_of
broken_number plan cs =
    all_number 20 (λ o. on_polynomial plan.p plan.t plan.points (shares_at_end plan cs o.wire)) plan.outs (λ o. found_number (λ s. refusal.OffPolynomial (s + 1)) 20 _ (λ s. refl))

-- refusals 19 and 20 after those of what a run is given
pub ended_numbers : (plan : Plan) (xs coins triples : List ℕ) (cs : List Called) (ok : Bool)
    → Numbers (given_numbers ++ (19 ∷ 20 ∷ [])) (given_checks plan xs coins triples ++ (need refusal.BufferLength ok ∷ broken_check plan cs ∷ []))
unfolding number_of
ended_numbers plan xs coins triples cs ok = joined (given-numbers plan xs coins triples) (need_number refusal.BufferLength ok ▹ broken_number plan cs ▹ none)

record_number : (ok : Bool) {ns : List ℕ} {cs : List Checked} → Numbers ns cs → Numbers (28 ∷ ns) (need refusal.Record ok ∷ cs)
unfolding number_of
record_number ok rest = need_number refusal.Record ok ▹ rest

pub party_number : (ok : Bool) {ns : List ℕ} {cs : List Checked} → Numbers ns cs → Numbers (9 ∷ ns) (need refusal.Coalition ok ∷ cs)
unfolding number_of
party_number ok rest = need_number refusal.Coalition ok ▹ rest

counting-numbers : (plan : Plan) (set : ℕ) (xs coins : List ℕ) (room : ℕ) → Numbers (9 ∷ 10 ∷ 11 ∷ 12 ∷ 13 ∷ 30 ∷ 19 ∷ []) (counting_checks plan set xs coins room)
unfolding counting_checks member_checks list_checks number_of
counting-numbers plan set xs coins room =
    need_number refusal.Coalition _
    ▹ need_number refusal.InputCount _
    ▹ found_number refusal.InputValue 11 _ (λ j. refl)
    ▹ need_number refusal.CoinCount _
    ▹ found_number refusal.CoinValue 13 _ (λ j. refl)
    ▹ need_number refusal.Settings _
    ▹ need_number refusal.BufferLength _
    ▹ none

plan_bounded : (bs : List ℕ) → Bounded (plan_checks bs)
unfolding plan_checks majority_check points_check place_of
plan_bounded bs =
    need_small refusal.Magic _ refl
    ▸ λ e1. need_small refusal.Version _ refl
    ▸ λ e2. need_small refusal.Parties _ refl
    ▸ λ e3. need_small refusal.Threshold _ refl
    ▸ λ e4. need_small refusal.Modulus _ refl
    ▸ λ e5. need_small refusal.Layout (layout_ok bs) refl
    ▸ λ e6. gates_small (laid bs (passed-need refusal.Layout (layout_ok bs) e6))
    ▸ λ e7. outs_small (laid bs (passed-need refusal.Layout (layout_ok bs) e6))
    ▸ λ e8. found_below (λ g. refusal.Majority) _ (λ i q. omega arith)
    ▸ λ e9. found_below (λ i. refusal.Points) _ (λ i q. omega arith)
    ▸ λ e10. Bounded.none
  where
    gates_small : Laid bs → Small (unless_found refusal.GateRule (first_failing (gate_kept bs) (gate_count_at bs)))
    gates_small l = found_small refusal.GateRule _ (λ i. refl) (search_small (gate_kept bs) (gate_count_at bs) (omega (arith, (between-true 1 1024 (gate_count_at bs) l.gates).1)))

    outs_small : Laid bs → Small (unless_found refusal.OutputRule (first_failing (out_kept bs) (out_count_at bs)))
    outs_small l = found_small refusal.OutputRule _ (λ i. refl) (search_small (out_kept bs) (out_count_at bs) (omega (arith, leb-true (out_count_at bs) 64 l.outs)))

text_bounded : (n t p : ℕ) (text : List ℕ) → Bounded (text_checks n t p text)
unfolding text_checks place_of
text_bounded n t p text =
    need_small refusal.CircuitText _ refl
    ▸ λ e1. need_small refusal.TooLarge _ refl
    ▸ λ e2. plan_bounded (import_file n t p text)

sheet_bounded : (n t p i : ℕ) (text : List ℕ) → Bounded (sheet.text_checks n t p i text)
unfolding sheet.text_checks place_of
sheet_bounded n t p i text =
    need_small refusal.SheetText _ refl
    ▸ λ e1. need_small refusal.TooLarge _ refl
    ▸ λ e2. plan_bounded (sheet.sheet_file n t p i text)

room_bounded : (ok : Bool) → Bounded (need refusal.BufferLength ok ∷ [])
unfolding place_of
room_bounded ok = need_small refusal.BufferLength ok refl ▸ λ e. Bounded.none

turned_bounded : {cs ds : List Checked} → Bounded cs → Bounded ds → Bounded (in_turn cs ds)
unfolding in_turn
turned_bounded Bounded.none ds = ds
turned_bounded (s ▸ rest) Bounded.none = s ▸ rest
turned_bounded (s ▸ rest) (z ▸ more) = s ▸ λ e. z ▸ λ f. turned_bounded (rest e) (more f)

price_bounded : (bs : List ℕ) (price room : ℕ) → Bounded (price_checks bs price room)
unfolding price_checks place_of
price_bounded bs price room = need_small refusal.Price _ refl ▸ λ e0. need_small refusal.BufferLength _ refl ▸ λ e1. Bounded.none

-- checks with no place, and those after them
no_place : (r : Refusal) (ok : Bool) {cs : List Checked} → place_of r ≡ 0 → Bounded cs → Bounded (need r ok ∷ cs)
no_place r ok z rest = need_small r ok z ▸ λ e. rest

module _ (bs : List ℕ) (passes : plan_check bs ≡ Ok tt) where
  opening_small : (i k : ℕ) (mail : List ℕ) → Small (opening_check (plan_of bs) i k mail)
  unfolding opening_check outs_check on_polynomial place_of party_count
  opening_small i k mail =
      cond_small (eqb k (last_call (plan_of bs))) (outs_check (plan_of bs) i mail)
      (each_small (λ j. on_polynomial (plan_of bs).p (plan_of bs).t (plan_of bs).points (shares j)) (own_out_count (plan_of bs) i)
      (λ j. found_below (λ s. refusal.OffPolynomial (s + 1)) _
      (λ s e. omega (arith, off_within (plan_of bs).p (plan_of bs).t (plan_of bs).points (shares j) s e, parties-few bs passes))))
    where
      shares : ℕ → List ℕ
      shares j = from_each (party_count (plan_of bs)) (own_out_count (plan_of bs) i) j mail

  inputs_small : (set : ℕ) (xs ys : List ℕ) → Small (inputs_agree (plan_of bs) set xs ys)
  unfolding inputs_agree place_of
  inputs_small set xs ys = found_small refusal.InputsDiffer _ (λ i. refl) (search_small _ (input_count (plan_of bs)) (omega (arith, inputs_few bs passes)))

  outs_small : (set : ℕ) (vs ws : List ℕ) → Small (outs_agree (plan_of bs) set vs ws)
  unfolding outs_agree place_of
  outs_small set vs ws = found_small refusal.OutputsDiffer _ (λ o. refl) (search_small _ (length (plan_of bs).outs) (omega (arith, outs_few bs passes)))

  party_bounded : (i : ℕ) (inputs coins triples state mail : List ℕ) (room : ℕ) → Short triples → Bounded (party_checks (plan_of bs) i inputs coins triples state mail room)
  unfolding party_checks place_of
  party_bounded i inputs coins triples state mail room short =
      need_small refusal.Coalition _ refl
      ▸ λ e0. need_small refusal.InputCount _ refl
      ▸ λ e1. list_small refusal.InputCount refusal.InputValue (plan_of bs).p (own_input_count (plan_of bs) i) inputs (λ j. refl) (omega (arith, own_few bs passes i)) e1
      ▸ λ e2. need_small refusal.CoinCount _ refl
      ▸ λ e3. list_small refusal.CoinCount refusal.CoinValue (plan_of bs).p (own_coin_count (plan_of bs) i) coins (λ j. refl) (omega (arith, own-coins-few bs passes i)) e3
      ▸ λ e4. short_small refusal.CoinValue (plan_of bs).p triples (λ j. refl) short
      ▸ λ t0. need_small refusal.Triples _ refl
      ▸ λ t1. need_small refusal.StateCount _ refl
      ▸ λ e5. need_small refusal.StateValue _ refl
      ▸ λ e6. need_small refusal.Finished _ refl
      ▸ λ e7. need_small refusal.MailCount _ refl
      ▸ λ e8. list_small refusal.MailCount refusal.MailValue (plan_of bs).p (mail_count (plan_of bs) i (get_or (numbers state) 0 0)) mail (λ j. refl) (omega (arith, mail-few bs passes i (get_or (numbers state) 0 0))) e8
      ▸ λ e9. need_small refusal.BufferLength _ refl
      ▸ λ e10. opening_small i (get_or (numbers state) 0 0) (numbers mail)
      ▸ λ e11. Bounded.none

  given_bounded : (xs coins triples : List ℕ) → Short triples → Bounded (given_checks (plan_of bs) xs coins triples)
  unfolding given_checks place_of
  given_bounded xs coins triples short =
      need_small refusal.InputCount _ refl
      ▸ λ e1. list_small refusal.InputCount refusal.InputValue (plan_of bs).p (input_count (plan_of bs)) xs (λ j. refl) (omega (arith, inputs_few bs passes)) e1
      ▸ λ e2. need_small refusal.CoinCount _ refl
      ▸ λ e3. list_small refusal.CoinCount refusal.CoinValue (plan_of bs).p (coin_count (plan_of bs)) coins (λ j. refl) (omega (arith, coins_few bs passes)) e3
      ▸ λ e4. short_small refusal.CoinValue (plan_of bs).p triples (λ j. refl) short
      ▸ λ e5. need_small refusal.Triples _ refl
      ▸ λ e6. Bounded.none

  broken_small : (cs : List Called) → Small (broken_check (plan_of bs) cs)
  unfolding broken_check on_polynomial place_of party_count
  broken_small cs =
      all_small (λ o. on_polynomial (plan_of bs).p (plan_of bs).t (plan_of bs).points (shares_at_end (plan_of bs) cs o.wire)) (plan_of bs).outs
      (λ o. found_below (λ s. refusal.OffPolynomial (s + 1)) _
      (λ s e. omega (arith, off_within (plan_of bs).p (plan_of bs).t (plan_of bs).points (shares_at_end (plan_of bs) cs o.wire) s e, parties-few bs passes)))

  ended_bounded : (xs coins triples : List ℕ) (cs : List Called) (ok : Bool) → Short triples
      → Bounded (given_checks (plan_of bs) xs coins triples ++ (need refusal.BufferLength ok ∷ broken_check (plan_of bs) cs ∷ []))
  unfolding place_of
  ended_bounded xs coins triples cs ok short =
      bounded-joined (given_bounded xs coins triples short) (λ e. need_small refusal.BufferLength ok refl ▸ λ f. broken_small cs ▸ λ g. Bounded.none)

  counting_bounded : (set : ℕ) (xs coins : List ℕ) (room : ℕ) → Bounded (counting_checks (plan_of bs) set xs coins room)
  unfolding counting_checks member_checks list_checks place_of
  counting_bounded set xs coins room =
      need_small refusal.Coalition _ refl
      ▸ λ e0. need_small refusal.InputCount _ refl
      ▸ λ e1. list_small refusal.InputCount refusal.InputValue (plan_of bs).p (input_count (plan_of bs)) xs (λ j. refl) (omega (arith, inputs_few bs passes)) e1
      ▸ λ e2. need_small refusal.CoinCount _ refl
      ▸ λ e3. list_small refusal.CoinCount refusal.CoinValue (plan_of bs).p (member_coins (plan_of bs) set) coins (λ j. refl) (omega (arith, coins_few bs passes, members_others (plan_of bs) set)) e3
      ▸ λ e4. need_small refusal.Settings _ refl
      ▸ λ e5. need_small refusal.BufferLength _ refl
      ▸ λ e6. Bounded.none

  pair_bounded : (set : ℕ) (xs ys coins : List ℕ) (room : ℕ) → Bounded (pair_checks (plan_of bs) set xs ys coins room)
  unfolding pair_checks place_of
  pair_bounded set xs ys coins room =
      need_small refusal.Coalition _ refl
      ▸ λ e0. need_small refusal.InputCount _ refl
      ▸ λ e1. need_small refusal.InputCount _ refl
      ▸ λ e2. list_small refusal.InputCount refusal.InputValue (plan_of bs).p (input_count (plan_of bs)) xs (λ j. refl) (omega (arith, inputs_few bs passes)) e1
      ▸ λ e3. list_small refusal.InputCount refusal.InputValue (plan_of bs).p (input_count (plan_of bs)) ys (λ j. refl) (omega (arith, inputs_few bs passes)) e2
      ▸ λ e4. need_small refusal.CoinCount _ refl
      ▸ λ e5. list_small refusal.CoinCount refusal.CoinValue (plan_of bs).p (coin_count (plan_of bs)) coins (λ j. refl) (omega (arith, coins_few bs passes)) e5
      ▸ λ e6. need_small refusal.Triples _ refl
      ▸ λ e7. need_small refusal.BufferLength _ refl
      ▸ λ e8. inputs_small set (numbers xs) (numbers ys)
      ▸ λ e9. outs_small set _ _
      ▸ λ e10. Bounded.none

-- of two plans that pass
joint_bounded : (prep bs : List ℕ) → plan_check prep ≡ Ok tt → plan_check bs ≡ Ok tt → (set : ℕ) (xs ys coins : List ℕ) (room : ℕ)
    → Bounded (joint_checks (plan_of prep) (plan_of bs) set xs ys coins room)
unfolding joint_checks joint_over joint_below joint_count preparing_count place_of
joint_bounded prep bs first second set xs ys coins room =
    need_small refusal.Coalition _ refl
    ▸ λ e0. need_small refusal.Coalition _ refl
    ▸ λ e1. need_small refusal.InputCount _ refl
    ▸ λ e2. need_small refusal.InputCount _ refl
    ▸ λ e3. list_small refusal.InputCount refusal.InputValue (plan_of bs).p (input_count (plan_of bs)) xs (λ j. refl) (omega (arith, inputs_few bs second)) e2
    ▸ λ e4. list_small refusal.InputCount refusal.InputValue (plan_of bs).p (input_count (plan_of bs)) ys (λ j. refl) (omega (arith, inputs_few bs second)) e3
    ▸ λ e5. need_small refusal.CoinCount _ refl
    ▸ λ e6. found_small refusal.CoinValue _ (λ j. refl) (search_small _ (length (numbers coins)) (long e6))
    ▸ λ e7. need_small refusal.Triples _ refl
    ▸ λ e8. need_small refusal.BufferLength _ refl
    ▸ λ e9. inputs_small bs second set (numbers xs) (numbers ys)
    ▸ λ e10. outs_small bs second set _ _
    ▸ λ e11. Bounded.none
  where
    long : need refusal.CoinCount (holds_count (joint_count (plan_of prep) (plan_of bs)) coins) ≡ Ok tt → length (numbers coins) ≤ 4294967296
    long e =
        omega (
          arith,
          holds-numbers (joint_count (plan_of prep) (plan_of bs)) coins (passed-need refusal.CoinCount _ e),
          inputs_few prep first,
          coins_few prep first,
          coins_few bs second,
        )

-- ---- the claim
kept : (a : Checked) (r : Refusal) (new old : List ℕ) → a ≡ Err r → unless_refused a new old ≡ old
unfolding unless_refused
kept a r new old e = rw e refl

sent-whole : (bs : List ℕ) (a : Checked) → plan_check bs ≡ Ok tt → a ≡ Ok tt → answer_of (benched_of a (sent_count (plan_of bs))) ≡ 256 * sent_count (plan_of bs)
unfolding answer_of benched_of
sent-whole bs a p e = let l : sent_count (plan_of bs) ≤ 4294967295 = sent-few bs p in rw e (omega (arith, l))

sent-none : (s : ℕ) (a : Checked) (r : Refusal) → a ≡ Err r → answer_of (benched_of a s) ≡ code_of (Err r)
unfolding answer_of benched_of
sent-none s a r e = rw e refl

plan_passed : (bs : List ℕ) (rest : List Checked) → first_of (plan_checks bs ++ rest) ≡ Ok tt → plan_check bs ≡ Ok tt
unfolding plan_check
plan_passed bs rest e = (passed_both _ _ (sym (first_of-append (plan_checks bs) rest) ∙ e)).0

-- a charge that passes is of a plan that passes, at a price within its limit
pub charge_passed : (bs : List ℕ) (price room : ℕ) → charge_answer bs price room ≡ Ok tt → (plan_check bs ≡ Ok tt) × (price ≤ 1000000)
unfolding charge_answer plan_check price_checks first_of
charge_passed bs price room e =
    let a = passed_both _ _ (sym (first_of-append (plan_checks bs) (price_checks bs price room)) ∙ e) in
    (a.0, leb-true price 1000000 (passed-need refusal.Price _ (passed_both _ _ a.1).0))

bill-whole : (bs : List ℕ) (price : ℕ) (a : Checked) → plan_check bs ≡ Ok tt → price ≤ 1000000 → a ≡ Ok tt
    → billed_of (charged_of a (bill_of (plan_of bs) price)) ≡ 256 * bill_of (plan_of bs) price
unfolding answer_of charged_of
bill-whole bs price a p l e = let b : bill_of (plan_of bs) price < 4294967296 = bill-few bs p price l in rw e (omega (arith, b))

bill-none : (b : ℕ) (a : Checked) (r : Refusal) → a ≡ Err r → billed_of (charged_of a b) ≡ code_of (Err r)
unfolding answer_of charged_of
bill-none b a r e = rw e refl

-- what passes of two plans' checks in turn
both_plans : (prep bs : List ℕ) → first_of (in_turn (plan_checks prep) (plan_checks bs)) ≡ Ok tt → (plan_check prep ≡ Ok tt) × (plan_check bs ≡ Ok tt)
unfolding plan_check
both_plans prep bs e = turned_passed (plan_checks prep) (plan_checks bs) e

pub demand1 : Demand1
unfolding plan_check call_checks call_answer run_checks bench_answer match_answer prepared_checks prepared_answer import_checks import_answer sheet.sheet_checks sheet.sheet_answer charge_answer record_checks record_answer bench_read_checks bench_read_answer plant_read_checks plant_read_answer place_of state_after triples_after out_after view_after spent_after matched_after prepared_after import_after sheet.sheet_after charge_after record_after record_spent bench_read_after plant_read_after count_checks count_answer count_after ordered before rank_in checking_order turned
demand1 = record {
  plan = λ bs. answers Unit Unit (plan-numbers bs) refl (λ s. plan_bounded bs) (λ r e. tt);
  call = λ bs i inputs coins triples state mail out.
      answers (Short triples) _ (joined (plan-numbers bs) (party-numbers (plan_of bs) i inputs coins triples state mail (length out))) refl
      (λ s. bounded-joined (plan_bounded bs) (λ e. party_bounded bs e i inputs coins triples state mail (length out) s))
      (λ r e. (kept _ r _ state e, kept _ r _ triples e, kept _ r _ out e));
  bench = λ bs set xs coins triples out.
      answers (Short triples) _ (joined (plan-numbers bs) (party_number _ (ended_numbers (plan_of bs) xs coins triples _ _))) refl
      (λ s. bounded-joined (plan_bounded bs) (λ e. no_place refusal.Coalition _ refl (ended_bounded bs e xs coins triples _ _ s)))
      (λ r e. (kept _ r _ out e, kept _ r _ triples e));
  matching = λ bs set xs ys coins out.
      answers Unit _ (joined (plan-numbers bs) (pair-numbers (plan_of bs) set xs ys coins (length out))) refl
      (λ s. bounded-joined (plan_bounded bs) (λ e. pair_bounded bs e set xs ys coins (length out))) (λ r e. kept _ r _ out e);
  joint = λ prep bs set xs ys coins out.
      answers Unit _ (joined (turned_numbers (plan-numbers prep) (plan-numbers bs)) (joint-numbers (plan_of prep) (plan_of bs) set xs ys coins (length out))) refl
      (λ s. bounded-joined (turned_bounded (plan_bounded prep) (plan_bounded bs))
      (λ e. joint_bounded prep bs (both_plans prep bs e).0 (both_plans prep bs e).1 set xs ys coins (length out))) (λ r e. kept _ r _ out e);
  import = λ n t p text out.
      answers Unit _ (joined (text-numbers n t p text) (room_number _)) refl (λ s. bounded-joined (text_bounded n t p text) (λ e. room_bounded _)) (λ r e. kept _ r _ out e);
  sheet = λ n t p i text out.
      answers Unit _ (joined (sheet-numbers n t p i text) (room_number _)) refl (λ s. bounded-joined (sheet_bounded n t p i text) (λ e. room_bounded _)) (λ r e. kept _ r _ out e);
  charge = λ bs price out.
      answers Unit _ (joined (plan-numbers bs) (price-numbers bs price (length out))) refl
      (λ s. bounded-joined (plan_bounded bs) (λ e. price_bounded bs price (length out))) (λ r e. kept _ r _ out e);
  store = λ bs xs coins triples out.
      answers (Short triples) _ (joined (plan-numbers bs) (ended_numbers (plan_of bs) xs coins triples _ _)) refl
      (λ s. bounded-joined (plan_bounded bs) (λ e. ended_bounded bs e xs coins triples _ _ s))
      (λ r e. (kept _ r _ out e, kept _ r _ triples e));
  read_all = λ bs stored out.
      answers Unit _ (joined (plan-numbers bs) (record_number _ (room_number _))) refl
      (λ s. bounded-joined (plan_bounded bs) (λ e. no_place refusal.Record _ refl (room_bounded _))) (λ r e. kept _ r _ out e);
  read_one = λ bs stored i out.
      answers Unit _ (joined (plan-numbers bs) (record_number _ (party_number _ (room_number _)))) refl
      (λ s. bounded-joined (plan_bounded bs) (λ e. no_place refusal.Record _ refl (no_place refusal.Coalition _ refl (room_bounded _)))) (λ r e. kept _ r _ out e);
  count = λ bs set xs coins out.
      answers Unit _ (joined (plan-numbers bs) (counting-numbers (plan_of bs) set xs coins (length out))) refl
      (λ s. bounded-joined (plan_bounded bs) (λ e. counting_bounded bs e set xs coins (length out))) (λ r e. kept _ r _ out e);
  counted = λ bs set xs coins triples room e. sent-whole bs _ (plan_passed bs _ e) e;
  uncounted = λ bs set xs coins triples room r e. sent-none _ _ r e;
  billed = λ bs price room e. bill-whole bs price _ (charge_passed bs price room e).0 (charge_passed bs price room e).1 e;
  unbilled = λ bs price room r e. bill-none _ _ r e;
}
