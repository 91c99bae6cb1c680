-- How long the bench program's text can be.
--     digits_small, line_small, line_most       printed numbers and lines
--     member_lines_lem, out-lines, run_lines_lem        the lines of a run
--     fitting                                   the claim
--     whole                                     what the code writes
-- Assumes nothing.
use Rattle.std.proofs.Common.{Ok, Err}
use Prim.Native.Nat.{ℕ, zero, suc, ◌+◌, ◌*◌, ◌/◌, ◌%◌, ◌<◌, ◌≤◌}
use mathlib.Core.Path.{◌≡◌, refl, sym, ap, subst, ◌∙◌}
use mathlib.Core.Logic.{⊎_elim}
use mathlib.Core.Bool.{Bool, true, false, cond}
use mathlib.Core.List.{List, [], ◌∷◌, ◌++◌, map, flat_map}
use native.Mathlib.Nat.{mul-le-mul, mul-suc, mul-add, add-mul, mul-zero, zero-mul, mul_comm, mul_assoc}
use native.Mathlib.Omega.{arith}
use borrow.Author.Rules.{rules}
use borrow.Author.Tests.{lt-ltb, ltb-false}
use lib.Dec.{T, eqb, ltb}
use lib.ListN.{length, get_or, take, drop, length-append, length-drop, take-append-drop}
use lib.Seq.{take_all}
use Rattle.numbers.specs.Tables.{tab, count_where, total}
use Rattle.numbers.specs.Bytes.{width, limit, number_at, word_at, numbers_of, numbers, bytes_of, all_below}
use Rattle.numbers.proofs.Tables.{length-tab, tab-map}
use Rattle.numbers.proofs.Counts.{count_where-append}
use Rattle.numbers.proofs.Below.{all_below_at}
use Rattle.numbers.proofs.Bytes.{numbers-length, length-bytes_of}
use Rattle.std.proofs.lemmas.Bool.{or_parts}
use Rattle.field.proofs.Inverse.{pos}
use Rattle.sharing_laws.specs.Interp.{All}
use Rattle.sharing_laws.proofs.Alls.{all_append}
use Rattle.sharing_laws.proofs.Lists.{at_all}
use Rattle.plan.specs.declared.Header.{Header}
use Rattle.plan.specs.declared.Output.{Output}
use Rattle.plan.specs.Refusals.{Checked}
use Rattle.plan.specs.Refusals.{first_of, number_of, place_of}
use Rattle.plan.specs.Plans.{Plan, party_count, kind_count, input_owners, coin_owners, steps, step_at, last_call, received, input_count, coin_count, triple_numbers, own_out_count, own_inputs, own_coins, out_wires, out_wires_of, mail_count, sent_count}
use Rattle.plan.specs.File.{rule_for, version_at, plan_checks, plan_check, plan_of, n_at, t_at, p_at, gate_count_at, out_count_at}
use Rattle.plan.specs.Planned.{Planned}
use Rattle.plan.proofs.Refusals.{first_of-append, passed_both}
use Rattle.field.specs.Field.{Ready}
use Rattle.field.proofs.Primes.{prime_sound}
use Rattle.plan.proofs.Planned.{passing, modulus_prime, modulus_small, planned, plan_t, plan_n, plan_gates, plan_outs}
use Rattle.plan.proofs.Wires.{out_wires_few}
use Rattle.plan.proofs.Valid.{Valid, valid, sized, few_spends, none_or_majority}
use Rattle.plan_coalition.specs.Coalitions.{in_set, members, set_fits}
use Rattle.plan_coalition.proofs.Coalitions.{set_ok_lem, member_in, all-members, member_party}
use Rattle.plan_coalition.proofs.Owned.{own-most}
use Rattle.run_protocol.specs.Rounds.{mail_to, after, results, view_count}
use Rattle.run_protocol.specs.Settings.{Inputs, Coins}
use Rattle.run_protocol.specs.Tables.{Tabled, triples_of}
use Rattle.run_protocol.proofs.Given.{tabled_list}
use Rattle.run_protocol.proofs.Owners.{length-own}
use Rattle.run_protocol.proofs.Counts.{mail_count_lem}
use Rattle.run_protocol.proofs.Runs.{run-mail, steps-tab}
use Rattle.run_protocol.proofs.Accepted.{own_below, steps_few}
use Rattle.run_protocol.proofs.Below.{mail_below}
use Rattle.match_privacy.proofs.SetMembers.{set_few}
use Rattle.run_dealings.specs.Rows.{Given}
use Rattle.run_bench.specs.BenchCalls.{run_checks, bench_answer}
use Rattle.run_bench.specs.Checks.{lent_checks}
use Rattle.run_protocol.proofs.ViewCounts.{gate_mail, mail-total, coins-by-mail, calls-by-mail}
use Rattle.run_bench.proofs.BenchLaws.{passed-set, passed-given}
use Rattle.bench_text.specs.Decimals.{digits, decimal, field, line}
use Rattle.bench_lines.specs.Report.{plan_word, view_word, round_word, out_word, sent_word, refused_word, plan_line, view_line, round_line, member_lines, out_lines_from, run_lines, answer_lines, plan_part, set_part, figures_part, rest_part, coin_bytes, coins_part, triples_part, unreadable, bench_of, report, list_part, input_width, lent}
use Rattle.bench_report.proofs.Answering.{passed_lent, width_at_least}
use Rattle.bench_text.specs.Texts.{Reported}
use Rattle.bench_fitting.specs.Fitting.{longest, Fitting, Whole}

-- ---- printed numbers
digits_most : (k x : ℕ) → length (digits k x) ≤ k
unfolding digits
digits_most zero x = omega arith
digits_most (suc k) x = step (ltb x 10) (digits_most k (x / 10))
  where
    step : (b : Bool) → length (digits k (x / 10)) ≤ k → length (cond b ((48 + x) ∷ []) (digits k (x / 10) ++ ((48 + x % 10) ∷ []))) ≤ suc k
    step true l = omega arith
    step false l = omega (arith, length-append (digits k (x / 10)) ((48 + x % 10) ∷ []), l)

digits-one : (k x : ℕ) → x < 10 → length (digits k x) ≤ 1
unfolding digits
digits-one zero x l = omega arith
digits-one (suc k) x l = rw (lt-ltb x 10 l) (omega arith)

digits_next : (n b : ℕ) → ((k y : ℕ) → y < b → length (digits k y) ≤ n) → (k x : ℕ) → x < 10 * b → length (digits k x) ≤ suc n
unfolding digits
digits_next n b h zero x l = omega arith
digits_next n b h (suc k) x l = step (ltb x 10) (h k (x / 10) (omega arith))
  where
    step : (t : Bool) → length (digits k (x / 10)) ≤ n → length (cond t ((48 + x) ∷ []) (digits k (x / 10) ++ ((48 + x % 10) ∷ []))) ≤ suc n
    step true m = omega arith
    step false m = omega (arith, length-append (digits k (x / 10)) ((48 + x % 10) ∷ []), m)

-- n more digits
tenfold : ℕ → ℕ → ℕ
tenfold zero b = b
tenfold (suc n) b = tenfold n (10 * b)

digits_more : (n m b : ℕ) → ((k y : ℕ) → y < b → length (digits k y) ≤ m) → (k x : ℕ) → x < tenfold n b → length (digits k x) ≤ n + m
unfolding tenfold
digits_more zero m b h k x l = omega (arith, h k x l)
digits_more (suc n) m b h k x l = omega (arith, digits_more n (suc m) (10 * b) (digits_next m b h) k x l)

digits_small : (k x : ℕ) → x < 10000000000 → length (digits k x) ≤ 10
unfolding tenfold
digits_small k x l = digits_more 9 1 10 digits-one k x l

abbrev Short : List ℕ → Type 0
Short xs = All (λ x. x < 10000000000) xs

fields_small : (xs : List ℕ) → Short xs → length (flat_map field xs) ≤ 11 * length xs
unfolding flat_map field decimal
fields_small [] a = omega arith
fields_small (x ∷ xs) a =
    let l : length (field x) ≤ 11 = omega (arith, digits_small 20 x a.0) in
    omega (arith, length-append (field x) (flat_map field xs), l, fields_small xs a.1)

fields_most : (xs : List ℕ) → length (flat_map field xs) ≤ 21 * length xs
unfolding flat_map field decimal
fields_most [] = omega arith
fields_most (x ∷ xs) =
    let l : length (field x) ≤ 21 = omega (arith, digits_most 20 x) in
    omega (arith, length-append (field x) (flat_map field xs), l, fields_most xs)

line_small : (word xs : List ℕ) → Short xs → length (line word xs) ≤ length word + 11 * length xs + 1
unfolding line
line_small word xs a = omega (arith, length-append word (flat_map field xs ++ (10 ∷ [])), length-append (flat_map field xs) (10 ∷ []), fields_small xs a)

line_most : (word xs : List ℕ) → length (line word xs) ≤ length word + 21 * length xs + 1
unfolding line
line_most word xs = omega (arith, length-append word (flat_map field xs ++ (10 ∷ [])), length-append (flat_map field xs) (10 ∷ []), fields_most xs)

numbers_short : (p : ℕ) (xs : List ℕ) → p ≤ limit → all_below p xs ≡ true → Short xs
numbers_short p xs l h = at_all (λ x. x < 10000000000) xs (λ i m. omega (arith, all_below_at p xs i h m))

-- lists of `most` bytes, and 11 more for each number of a list that is i's
flat_most : (most : ℕ) (os : List ℕ) (f : ℕ → List ℕ) (is : List ℕ) → All (λ i. length (f i) ≤ most + 11 * count_where (eqb i) os) is
    → length (flat_map f is) ≤ most * length is + 11 * total (map (λ i. count_where (eqb i) os) is)
unfolding flat_map total
flat_most most os f [] a = omega arith
flat_most most os f (i ∷ is) a = omega (arith, length-append (f i) (flat_map f is), a.0, flat_most most os f is a.1, mul-suc most (length is))

-- lines of so many numbers and 17 bytes
rounds_bound : (f : ℕ → List ℕ) (c u : ℕ → ℕ) (n : ℕ) → ((k : ℕ) → k < n → length (f (u k)) ≤ 17 + 11 * c k) → length (flat_map f (tab u n)) ≤ 17 * n + 11 * total (tab c n)
unfolding flat_map tab total
rounds_bound f c u zero h = omega arith
rounds_bound f c u (suc n) h =
    omega (
      arith,
      h 0 (omega arith),
      length-append (f (u 0)) (flat_map f (tab (λ k. u (suc k)) n)),
      rounds_bound f (λ k. c (suc k)) (λ k. u (suc k)) n (λ k l. h (suc k) (omega arith)),
    )

-- ---- the contents of a plan that passes
prime : (bytes : List ℕ) → plan_check bytes ≡ (Ok tt) → Ready (p_at bytes)
prime bytes passes =
    let m = (passing bytes passes).modulus in
    record {
      prime = prime_sound (p_at bytes) (subst T (sym (modulus_prime (n_at bytes) (p_at bytes) m)) tt);
      small = omega (arith, modulus_small (n_at bytes) (p_at bytes) m);
    }

abbrev header : (bytes : List ℕ) → plan_check bytes ≡ (Ok tt) → Header
header bytes passes = record { n = n_at bytes; t = t_at bytes; field = record { p = p_at bytes; ready = prime bytes passes }; gates = gate_count_at bytes; outs = out_count_at bytes; rule = rule_for (version_at bytes) }

header_planned : (bytes : List ℕ) (passes : plan_check bytes ≡ (Ok tt)) → Planned bytes (header bytes passes)
header_planned bytes passes = planned bytes (header bytes passes) passes (record { n = refl; t = refl; p = refl; gates = refl; outs = refl; rule = refl })

-- ---- the lines of a run that passes, of a list of so many numbers
module _ (bytes xs cs ts : List ℕ) (passes : plan_check bytes ≡ (Ok tt)) (inputs : Inputs (plan_of bytes) xs) (settings : Coins (plan_of bytes) cs)
    (all_triples : length ts ≡ party_count (plan_of bytes) * triple_numbers (plan_of bytes))
    (few : input_count (plan_of bytes) + coin_count (plan_of bytes) + length ts ≤ 16384) where
  abbrev plan : Plan
  plan = plan_of bytes

  abbrev h : Header
  h = header bytes passes

  k : Planned bytes h
  k = header_planned bytes passes

  ok : Valid (plan_of bytes)
  ok = valid bytes passes

  above : 0 < plan.p
  above = pos ok.prime

  abbrev tf : List (ℕ → ℕ)
  tf = triples_of (plan_of bytes) ts

  tabled : Tabled (plan_of bytes) ts tf
  tabled = tabled_list (plan_of bytes) ok ts all_triples

  prime-few : plan.p ≤ limit
  prime-few = (sized bytes passes).few

  calls-few : last_call plan ≤ 3074
  calls-few = omega (arith, steps_few (plan_of bytes), plan_gates k, k.gates-high)

  own-outs-few : (i : ℕ) → own_out_count plan i ≤ 64
  unfolding own_out_count out_wires
  own-outs-few i = omega (arith, out_wires_few i plan.outs, plan_outs k, k.outs-high)

  -- whose the numbers of the list are
  abbrev owners : List ℕ
  owners = input_owners plan ++ coin_owners plan

  module _ (i : ℕ) (from1 : 1 ≤ i) (upto : i ≤ party_count plan) where
    view-line : length (view_line plan xs cs i) ≤ 16 + 11 * count_where (eqb i) owners
    unfolding view_line view_word own_inputs own_coins
    view-line =
        let s : Short (i ∷ (own_inputs plan i xs ++ own_coins plan i cs)) = (
          omega (arith, upto, plan_n k, k.n-high),
          all_append (λ x. x < 10000000000) (own_inputs plan i xs) (own_coins plan i cs)
              (numbers_short plan.p (own_inputs plan i xs) prime-few (own_below plan above i (input_owners plan) xs inputs.small))
              (numbers_short plan.p (own_coins plan i cs) prime-few (own_below plan above i (coin_owners plan) cs settings.small)),
        ) in
        omega (
          arith,
          line_small view_word (i ∷ (own_inputs plan i xs ++ own_coins plan i cs)) s,
          length-append (own_inputs plan i xs) (own_coins plan i cs),
          length-own i (input_owners plan) xs,
          length-own i (coin_owners plan) cs,
          count_where-append (eqb i) (input_owners plan) (coin_owners plan),
        )

    round-line : (r : ℕ) → r < last_call plan → length (round_line plan xs cs ts i r) ≤ 17 + 11 * received plan i (step_at plan r)
    unfolding round_line round_word mail_count
    round-line r l =
        let mail : List ℕ = mail_to i (after plan xs cs ts (suc r)) in
        let small : all_below plan.p mail ≡ true = rw (run-mail plan ok xs cs ts tf settings.count tabled r l i from1 upto) (mail_below plan above xs cs tf i (step_at plan r)) in
        let s : Short (r ∷ mail) = (omega (arith, calls-few), numbers_short plan.p mail prime-few small) in
        omega (arith, line_small round_word (r ∷ mail) s, mail_count_lem plan ok xs cs ts i from1 upto (suc r) (omega arith))

    rounds-most : length (flat_map (round_line plan xs cs ts i) (tab (λ r. r) (last_call plan))) ≤ 10560 + 17 * last_call plan + 11 * gate_mail plan
    rounds-most =
        let f : ℕ → ℕ = λ r. received plan i (step_at plan r) in
        let o : party_count plan * own_out_count plan i ≤ 960 = mul-le-mul {n₁ = party_count plan} {m₁ = own_out_count plan i} {n₂ = 15} {m₂ = 64} (omega (arith, plan_n k, k.n-high)) (own-outs-few i) in
        let all : total (map (received plan i) (steps plan)) ≡ total (tab f (last_call plan)) =
        ap total (ap (map (received plan i)) (steps-tab plan ok xs cs ts tf settings.count tabled) ∙ tab-map (received plan i) (step_at plan) (last_call plan)) in
        omega (arith, mail-total plan i, o, all, rounds_bound (round_line plan xs cs ts i) f (λ r. r) (last_call plan) round-line)

    member_lines_lem : length (member_lines plan xs cs ts i) ≤ 10576 + 17 * last_call plan + 11 * gate_mail plan + 11 * count_where (eqb i) owners
    unfolding member_lines
    member_lines_lem = omega (arith, view-line, rounds-most, length-append (view_line plan xs cs i) (flat_map (round_line plan xs cs ts i) (tab (λ r. r) (last_call plan))))

  out-lines : (set : ℕ) (os : List Output) (o : ℕ) (seen : List Output) → length (out_lines_from (plan_of bytes) set xs cs ts o seen os) ≤ 67 * length os
  unfolding out_lines_from out_word
  out-lines set [] o seen = omega arith
  out-lines set (x ∷ os) o seen =
      let ns : List ℕ = o ∷ x.party ∷ get_or (results (plan_of bytes) xs cs ts x.party) (length (out_wires_of x.party seen)) 0 ∷ [] in
      let l : length (cond (in_set set x.party) (line out_word ns) []) ≤ 67 = either (in_set set x.party) (line out_word ns) (omega (arith, line_most out_word ns)) in
      omega (arith, l, length-append (cond (in_set set x.party) (line out_word ns) []) (out_lines_from (plan_of bytes) set xs cs ts (suc o) (seen ++ (x ∷ [])) os), out-lines set os (suc o) (seen ++ (x ∷ [])))
    where
      either : (b : Bool) (l : List ℕ) → length l ≤ 67 → length (cond b l []) ≤ 67
      either true l m = m
      either false l m = omega arith

  -- ---- at most t members
  abbrev spent : ℕ
  spent = kind_count plan 7

  abbrev opened : ℕ
  opened = kind_count plan 7 * (2 * party_count plan)

  -- t coins for each number that the gates bring a member, but for what is opened
  calls-held : plan.t * last_call plan ≤ coin_count plan + 2 * plan.t + plan.t * spent
  calls-held =
      let more : plan.t * (last_call plan + opened) ≤ plan.t * (gate_mail plan + 2 + spent) =
      mul-le-mul {n₁ = plan.t} {m₁ = last_call plan + opened} {n₂ = plan.t} {m₂ = gate_mail plan + 2 + spent} (omega arith) (calls-by-mail plan (omega (arith, plan_n k, k.n_low))) in
      omega (
        arith,
        more,
        coins-by-mail plan,
        mul-add plan.t (last_call plan) opened,
        mul-add plan.t (gate_mail plan + 2) spent,
        mul-add plan.t (gate_mail plan) 2,
        mul_comm plan.t 2,
      )

  -- without gates that multiply, or with t below 8
  held-most : 10576 * plan.t + 17 * (plan.t * last_call plan) + 11 * (plan.t * gate_mail plan) + 11 * (input_count plan + coin_count plan) ≤ 943080
  unfolding triple_numbers
  held-most = ⊎_elim none some (none_or_majority plan ok)
    where
      none : (kind_count plan 5 ≡ 0) × (kind_count plan 7 ≡ 0) → 10576 * plan.t + 17 * (plan.t * last_call plan) + 11 * (plan.t * gate_mail plan) + 11 * (input_count plan + coin_count plan) ≤ 943080
      none z =
          let a : plan.t * spent ≡ 0 = ap (λ (m : ℕ). plan.t * m) z.1 ∙ mul-zero plan.t in
          let b : plan.t * opened ≡ 0 = ap (λ (m : ℕ). plan.t * (m * (2 * party_count plan))) z.1 ∙ ap (λ (m : ℕ). plan.t * m) (zero-mul (2 * party_count plan)) ∙ mul-zero plan.t in
          omega (arith, a, b, calls-held, coins-by-mail plan, few, plan_t k, k.threshold, k.n-high)

      some : plan.t + plan.t < party_count plan → 10576 * plan.t + 17 * (plan.t * last_call plan) + 11 * (plan.t * gate_mail plan) + 11 * (input_count plan + coin_count plan) ≤ 943080
      some two =
          let t_few : plan.t ≤ 7 = omega (arith, two, plan_n k, k.n-high) in
          let y : ℕ = kind_count plan 7 * party_count plan in
          let most : y ≤ 5115 = mul-le-mul {n₁ = spent} {m₁ = party_count plan} {n₂ = 341} {m₂ = 15} (few_spends bytes passes) (omega (arith, plan_n k, k.n-high)) in
          let a : plan.t * spent ≤ 2387 = mul-le-mul {n₁ = plan.t} {m₁ = spent} {n₂ = 7} {m₂ = 341} t_few (few_spends bytes passes) in
          let b : plan.t * opened ≤ 7 * opened = mul-le-mul {n₁ = plan.t} {m₁ = opened} {n₂ = 7} {m₂ = opened} t_few (omega arith) in
          let c : opened ≡ 2 * y = ap (λ (m : ℕ). kind_count plan 7 * m) (mul_comm 2 (party_count plan)) ∙ sym (mul_assoc (kind_count plan 7) (party_count plan) 2) ∙ mul_comm y 2 in
          let d : length ts ≡ 3 * y = all_triples ∙ mul_comm (party_count plan) (3 * kind_count plan 7) ∙ mul_assoc 3 (kind_count plan 7) (party_count plan) in
          omega (arith, t_few, most, a, b, c, d, calls-held, coins-by-mail plan, few)

  members-most : (set : ℕ) → set_fits h.n h.t set ≡ true → length (flat_map (member_lines plan xs cs ts) (members set)) ≤ 943080
  members-most set fits =
      let few-members : length (members set) ≤ plan.t = set_few plan set (sym (set_ok_lem bytes h set k) ∙ fits) in
      let calls : ℕ = last_call (plan_of bytes) in
      let mail : ℕ = gate_mail (plan_of bytes) in
      let each : ℕ = 10576 + 17 * calls + 11 * mail in
      omega (
        arith,
        flat_most each owners (member_lines plan xs cs ts) (members set)
            (all-members (λ i. length (member_lines plan xs cs ts i) ≤ each + 11 * count_where (eqb i) owners) (members set)
            (λ m w. member_lines_lem m (member_in set m w).from (rw (plan_n k) (member_party h.n h.t set fits m w)))),
        own-most set owners,
        length-append (input_owners plan) (coin_owners plan),
        owned,
        mul-le-mul {n₁ = each} {m₁ = length (members set)} {n₂ = each} {m₂ = plan.t} (omega arith) few-members,
        add-mul (10576 + 17 * calls) (11 * mail) plan.t,
        add-mul 10576 (17 * calls) plan.t,
        mul_assoc 17 calls plan.t,
        mul_assoc 11 mail plan.t,
        mul_comm calls plan.t,
        mul_comm mail plan.t,
        held-most,
      )
    where
      owned : length (input_owners plan) + length (coin_owners plan) ≡ input_count plan + coin_count plan
      owned = unfold input_count in unfold coin_count in refl

  run_lines_lem : (set : ℕ) → set_fits h.n h.t set ≡ true → length (run_lines plan set xs cs ts) ≤ longest
  unfolding run_lines plan_line plan_word sent_word
  run_lines_lem set fits =
      let ms : List ℕ = flat_map (member_lines plan xs cs ts) (members set) in
      let ol : List ℕ = out_lines_from plan set xs cs ts 0 [] plan.outs in
      let sl : List ℕ = line sent_word (sent_count plan ∷ []) in
      let ns : List ℕ = party_count plan ∷ plan.t ∷ plan.p ∷ length plan.gates ∷ length plan.outs ∷ [] in
      omega (
        arith,
        length-append (line plan_word ns) (ms ++ (ol ++ sl)),
        length-append ms (ol ++ sl),
        length-append ol sl,
        line_most plan_word ns,
        line_most sent_word (sent_count plan ∷ []),
        out-lines set plan.outs 0 [],
        plan_outs k,
        k.outs-high,
        members-most set fits,
      )

-- ---- the text
module _ (bytes : List ℕ) (set : ℕ) (figures coins triples : List ℕ) (room : ℕ) (short : length figures + length coins + length triples ≤ 65536)
    (passed : bench_answer bytes set figures coins triples room ≡ (Ok tt)) where
  both : (first_of (plan_checks bytes) ≡ (Ok tt)) × (first_of (run_checks (plan_of bytes) set figures coins triples room) ≡ (Ok tt))
  unfolding bench_answer
  both = passed_both _ _ (sym (first_of-append (plan_checks bytes) (run_checks (plan_of bytes) set figures coins triples room)) ∙ passed)

  plan-passes : plan_check bytes ≡ (Ok tt)
  unfolding plan_check
  plan-passes = both.0

  lists-pass : first_of (lent_checks (plan_of bytes) set figures coins triples room) ≡ (Ok tt)
  lists-pass = passed_lent (plan_of bytes) set figures coins triples room both.1

  given : Given (plan_of bytes) figures coins triples
  given = passed-given bytes set figures coins triples room _ refl lists-pass

  passed_lines : length (run_lines (plan_of bytes) set (numbers figures) (numbers coins) (numbers triples)) ≤ longest
  passed_lines =
      run_lines_lem bytes (numbers figures) (numbers coins) (numbers triples) plan-passes
      (record { count = omega (arith, numbers-length figures, given.inputs_count); small = given.inputs_below })
      (record { count = omega (arith, numbers-length coins, given.coins_count); small = given.coins_below })
      (omega (arith, numbers-length triples, given.triples_count))
      (omega (arith, short, given.inputs_count, given.coins_count, given.triples_count, numbers-length triples)) set
      (passed-set bytes set figures coins triples room _ refl lists-pass (header bytes plan-passes) (header_planned bytes plan-passes))

answer_lines_lem :
    (c : Checked) (plan : Plan) (set : ℕ) (xs cs ts : List ℕ) → (c ≡ (Ok tt) → length (run_lines plan set xs cs ts) ≤ longest)
    → length (answer_lines c plan set xs cs ts) ≤ longest
unfolding answer_lines refused_word
answer_lines_lem (Ok tt) plan set xs cs ts h = h refl
answer_lines_lem (Err r) plan set xs cs ts h = omega (arith, line_most refused_word (number_of r ∷ place_of r ∷ []))

-- the numbers after the set
parts_short : (bs : List ℕ) → unreadable bs ≡ false → length (figures_part bs) + length (coins_part bs) + length (triples_part bs) ≤ 65536
unfolding unreadable figures_part coins_part triples_part rest_part lent numbers_of list_part
parts_short bs e =
    let plan : List ℕ = plan_part bs in
    let list : List ℕ = drop (4 + word_at bs 0) bs in
    let n : ℕ = length list / input_width plan in
    let all : List ℕ = bytes_of (tab (λ i. number_at (input_width plan) list (input_width plan * i)) n) in
    let m : ℕ = width * input_count (plan_of plan) in
    let c : ℕ = coin_bytes (plan_of plan) (drop m all) in
    let few : length bs ≤ 32768 = ltb-false 32768 (length bs) (or_parts (ltb 32768 (length bs)) _ e).0 in
    omega (
      arith,
      few,
      length-drop (4 + word_at bs 0) bs,
      width_at_least plan list,
      length-bytes_of (tab (λ i. number_at (input_width plan) list (input_width plan * i)) n),
      length-tab (λ i. number_at (input_width plan) list (input_width plan * i)) n,
      ap length (take-append-drop m all),
      length-append (take m all) (drop m all),
      ap length (take-append-drop c (drop m all)),
      length-append (take c (drop m all)) (drop c (drop m all)),
    )

pub fitting : Fitting
unfolding report bench_of refused_word
fitting bs = step (unreadable bs) refl
  where
    step : (b : Bool) → unreadable bs ≡ b
        → length (cond b (line refused_word (1 ∷ 0 ∷ [])) (answer_lines (bench_of bs) (plan_of (plan_part bs)) (set_part bs) (numbers (figures_part bs)) (numbers (coins_part bs)) (numbers (triples_part bs)))) ≤ longest
    step true q = omega (arith, line_most refused_word (1 ∷ 0 ∷ []))
    step false q =
        answer_lines_lem (bench_of bs) (plan_of (plan_part bs)) (set_part bs) (numbers (figures_part bs)) (numbers (coins_part bs)) (numbers (triples_part bs))
        (λ e. passed_lines (plan_part bs) (set_part bs) (figures_part bs) (coins_part bs) (triples_part bs) (width * view_count (plan_of (plan_part bs)) (members (set_part bs))) (parts_short bs q) e)

-- ---- a text that is written as far as there is room is written whole
pub whole : (bs old new : List ℕ) (r : ℕ) → longest ≤ length old → Reported (report bs) old new r → Whole (report bs) new r
whole bs old new r room written =
    let fits : length (report bs) ≤ length old = omega (arith, fitting bs, room) in
    let all : take (length old) (report bs) ≡ report bs = take_all (length old) (report bs) fits in
    record { room = written.room; text = written.text ∙ all; count = written.count ∙ ap length all }

pub ruleset fitted = (rules, whole)
