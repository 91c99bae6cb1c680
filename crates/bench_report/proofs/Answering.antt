-- What each way through the report says of its definition.
--     benching_lines           a run's lines, or its refusal's
--     splitting                a list's figures, coins and triples
--     reading_plan             the plan's refusal
--     widening, lending        the numbers after the set, as a list that is lent
--     unreading, reporting     an input's parts
-- Assumes nothing.
use Rattle.std.proofs.Common.{Result, Ok, Err}
use mathlib.Core.Path.{◌≡◌, refl, sym, ap, ◌∙◌}
use mathlib.Core.Bool.{Bool, true, false, cond, ◌||◌, not}
use mathlib.Core.List.{List, [], ◌∷◌, Memᴰ}
use Prim.Native.Nat.{ℕ, ◌+◌, ◌-◌, ◌*◌, ◌/◌, ◌%◌, ◌^◌, ◌<◌, ◌≤◌, min}
use native.Mathlib.Omega.{arith}
use borrow.Author.Rules.{rules}
use borrow.Author.Tests.{not-true, not-false, eq-eqb, ne_eqb, lt-ltb, le-ltb, ltb-false}
use Rattle.std.proofs.lemmas.List.{take_min, drop_min, take-take, drop-take, drop-drop}
use Rattle.std.proofs.lemmas.Bool.{or_parts}
use lib.Dec.{eqb, ltb}
use lib.ListN.{length, get_or, take, drop, length-drop}
use lib.Seq.{take_all, take_at, length-take-le}
use mir.Syntax.{w64}
use mir.Val.{Fits}
use Rattle.numbers.specs.Tables.{tab, count_where}
use Rattle.numbers.specs.Bytes.{width, number_at, word_at, numbers_of, numbers, bytes_of, stored}
use Rattle.numbers.proofs.Tables.{length-tab}
use Rattle.numbers.proofs.Bytes.{word_number, numbers-length, get_or-numbers, length-bytes_of}
use Rattle.numbers.proofs.Fills.{Stored, store-none, store-next, stored-part}
use Rattle.plan.specs.declared.Header.{Header}
use Rattle.plan.specs.Refusals.{Checked}
use Rattle.plan.specs.declared.Refusal.{Refusal}
use Rattle.plan.specs.declared.Refusal.TheVariants as refusal
use Rattle.plan.specs.Refusals.{first_of, number_of, place_of}
use Rattle.plan.specs.Plans.{Plan, party_count, is_kind, kind_count, input_count, coin_count, triple_numbers, sent_count}
use Rattle.plan.specs.File.{between, plan_of, plan_check, plan_checks}
use Rattle.plan.specs.Planned.{Planned}
use Rattle.plan_coalition.specs.Coalitions.{members, set_fits, set_ok}
use Rattle.plan.proofs.Refusals.{and_then_passed, and_then_refused, first_of-append, passed_both, need-false}
use Rattle.plan.proofs.Planned.{plan_p, plan_n, plan_t}
use Rattle.plan.proofs.Ranges.{contains_is}
use Rattle.plan.proofs.Valid.{valid}
use Rattle.plan_coalition.proofs.Coalitions.{set_ok_lem, member_party, member_most}
use Rattle.plan_counts.specs.declared.Tally.{Tally}
use Rattle.plan_counts.specs.Counts.{Tallied}
use Rattle.seat_messages.specs.Calls.{unless_refused}
use Rattle.run_protocol.specs.Rounds.{at_end, view, view_count}
use Rattle.run_protocol.proofs.Few.{few-plan, views-most}
use Rattle.run_dealings.specs.Rows.{Given}
use Rattle.run_bench.specs.BenchCalls.{given_checks, broken_check, run_checks, bench_answer, benched_of, view_after}
use Rattle.run_bench.specs.Checks.{lent_checks}
use Rattle.run_bench.proofs.BenchLaws.{passed-set, passed-given}
use Rattle.bench_text.specs.Decimals.{line}
use Rattle.bench_lines.specs.Report.{refused_word, answer_lines, run_lines, plan_part, set_part, list_part, input_width, lent, figures_part, rest_part, coin_bytes, coins_part, triples_part, unreadable, bench_of, report}
use Rattle.bench_text.specs.Texts.{Put, Reported}
use Rattle.bench_lines.specs.Placed.{run_lines_in}
use Rattle.bench_report.specs.Answers.{answered, parted, listed}
use Rattle.bench_text.proofs.Appending.{put_as}
use Rattle.bench_lines.proofs.Viewed.{run-flat, view-back}

-- ---- what the bench answers
answer_sent : (c : Checked) (sent k : ℕ) → Ok k ≡ benched_of c sent → c ≡ (Ok tt)
unfolding benched_of
answer_sent (Ok tt) sent k e = refl
answer_sent (Err r) sent k e = let z : ◌≡◌ {A = ℕ} 0 1 = cc in absurd (omega arith)

answer_refused : (c : Checked) (sent : ℕ) (r : Refusal) → Err r ≡ benched_of c sent → c ≡ Err r
unfolding benched_of
answer_refused (Ok tt) sent r e = let z : ◌≡◌ {A = ℕ} 0 1 = cc in absurd (omega arith)
answer_refused (Err q) sent r e = cc

refused_lines : (c : Checked) (r : Refusal) (plan : Plan) (set : ℕ) (xs cs ts : List ℕ) → c ≡ Err r → line refused_word (number_of r ∷ place_of r ∷ []) ≡ answer_lines c plan set xs cs ts
unfolding answer_lines
refused_lines c r plan set xs cs ts e = rw e

passed_lines : (c : Checked) (plan : Plan) (set : ℕ) (xs cs ts : List ℕ) → c ≡ (Ok tt) → run_lines plan set xs cs ts ≡ answer_lines c plan set xs cs ts
unfolding answer_lines
passed_lines c plan set xs cs ts e = rw e

past_plan :
    (bs : List ℕ) (h : Header) (set : ℕ) (figures coins triples : List ℕ) (room : ℕ) → Planned bs h
    → bench_answer bs set figures coins triples room ≡ first_of (run_checks (plan_of bs) set figures coins triples room)
unfolding bench_answer plan_check
past_plan bs h set figures coins triples room p =
    first_of-append (plan_checks bs) (run_checks (plan_of bs) set figures coins triples room) ∙ and_then_passed (plan_check bs) _ p.passes

-- ---- the lines of a run
pub passed_lent :
    (plan : Plan) (set : ℕ) (figures coins triples : List ℕ) (room : ℕ) → first_of (run_checks plan set figures coins triples room) ≡ (Ok tt)
    → first_of (lent_checks plan set figures coins triples room) ≡ (Ok tt)
unfolding run_checks lent_checks given_checks
passed_lent plan set figures coins triples room e =
    let broken : Checked = broken_check plan (at_end plan (numbers figures) (numbers coins) (numbers triples)) in
    (passed_both _ _ (sym (first_of-append (lent_checks plan set figures coins triples room) (broken ∷ [])) ∙ e)).0

module _ (bs : List ℕ) (h : Header) (set : ℕ) (figures coins triples : List ℕ) (p : Planned bs h) where
  abbrev plan : Plan
  plan = plan_of bs

  abbrev seen : List ℕ
  seen = view plan (members set) (numbers figures) (numbers coins) (numbers triples)

  module _ (given : Given plan figures coins triples) (ok : set_fits h.n h.t set ≡ true) where
    full : length (numbers coins) ≡ coin_count plan
    full = omega (arith, numbers-length coins, given.coins_count)

    all_triples : length (numbers triples) ≡ party_count plan * triple_numbers plan
    all_triples = omega (arith, numbers-length triples, given.triples_count)

    upto : (m : ℕ) → Memᴰ m (members set) → m ≤ party_count plan
    upto m w = rw (plan_n p) (member_party h.n h.t set ok m w)

    given-lines : run_lines_in plan set (numbers (bytes_of seen)) ≡ run_lines plan set (numbers figures) (numbers coins) (numbers triples)
    given-lines =
        ap (run_lines_in plan set)
        (view-back plan (valid bs p.passes) (numbers figures) (numbers coins) (numbers triples) full all_triples set upto (rw (plan_p p) (omega (arith, p.p-high))) given.inputs_below given.coins_below)
        ∙ run-flat plan (valid bs p.passes) (numbers figures) (numbers coins) (numbers triples) full all_triples set upto (rw (plan_n p) (omega (arith, p.n-high)))

  lines_passed :
      (room : ℕ) → bench_answer bs set figures coins triples room ≡ (Ok tt)
      → run_lines_in plan set (numbers (bytes_of seen)) ≡ run_lines plan set (numbers figures) (numbers coins) (numbers triples)
  lines_passed room e =
      let c : first_of (lent_checks plan set figures coins triples room) ≡ (Ok tt) =
      passed_lent plan set figures coins triples room (sym (past_plan bs h set figures coins triples room p) ∙ e) in
      given-lines (passed-given bs set figures coins triples room _ refl c) (passed-set bs set figures coins triples room _ refl c h p)

  module _ (old : List ℕ) (room : length old ≡ width * view_count plan (members set)) (b : Result ℕ Refusal)
      (eb : b ≡ benched_of (bench_answer bs set figures coins triples (length old)) (sent_count plan)) where
    pub bench-refused-lines : (r : Refusal) (at e : ℕ) (t u : List ℕ) → b ≡ Err r → Put (line refused_word (number_of r ∷ place_of r ∷ [])) at t u e → Put (answered bs set figures coins triples) at t u e
    unfolding answered
    bench-refused-lines r at e t u f w =
        let c : bench_answer bs set figures coins triples (width * view_count plan (members set)) ≡ Err r =
        ap (bench_answer bs set figures coins triples) (sym room) ∙ answer_refused _ (sent_count plan) r (sym f ∙ eb) in
        put_as _ _ at e t u (refused_lines _ r plan set (numbers figures) (numbers coins) (numbers triples) c) w

    pub bench-run-lines :
        (k at e : ℕ) (t u new : List ℕ) → b ≡ Ok k → new ≡ view_after bs set figures coins triples old → Put (run_lines_in plan set (numbers new)) at t u e
        → Put (answered bs set figures coins triples) at t u e
    unfolding answered view_after unless_refused
    bench-run-lines k at e t u new f en w =
        let c : bench_answer bs set figures coins triples (length old) ≡ (Ok tt) = answer_sent _ (sent_count plan) k (sym f ∙ eb) in
        let q : new ≡ bytes_of seen = en ∙ rw c in
        let d : bench_answer bs set figures coins triples (width * view_count plan (members set)) ≡ (Ok tt) = ap (bench_answer bs set figures coins triples) (sym room) ∙ c in
        put_as _ _ at e t u (ap (λ (l : List ℕ). run_lines_in plan set (numbers l)) q ∙ lines_passed (length old) c ∙ passed_lines _ plan set (numbers figures) (numbers coins) (numbers triples) d) w

-- As it is: answers name this set, since the check leaves their goals open by `using` alone.
pub ruleset benching_lines = (rules, bench-refused-lines, bench-run-lines)

-- ---- figures, coins and triples
rest_all : (m : ℕ) (l : List ℕ) → take (length l - m) (drop m l) ≡ drop m l
rest_all m l = take_all (length l - m) (drop m l) (omega (arith, length-drop m l))

pub front_long : (m : ℕ) (l : List ℕ) → m ≤ length l → m ≡ length (take m l)
front_long m l h = sym (length-take-le m l h)

module _ (bs : List ℕ) (h : Header) (p : Planned bs h) (set : ℕ) (t : Bool) (et : t ≡ set_fits h.n h.t set) where
  -- 9 comes first of a run's refusals
  pub set_refused_lines :
      t ≡ false → (list : List ℕ) (at e : ℕ) (x u : List ℕ) → Put (line refused_word (number_of refusal.Coalition ∷ place_of refusal.Coalition ∷ [])) at x u e
      → Put (listed bs set list) at x u e
  unfolding listed parted answered run_checks first_of
  set_refused_lines f list at e x u w =
      let figures : List ℕ = take (width * input_count (plan_of bs)) list in
      let rest : List ℕ = drop (width * input_count (plan_of bs)) list in
      let coins : List ℕ = take (coin_bytes (plan_of bs) rest) rest in
      let triples : List ℕ = drop (coin_bytes (plan_of bs) rest) rest in
      let room : ℕ = width * view_count (plan_of bs) (members set) in
      let c : bench_answer bs set figures coins triples room ≡ Err refusal.Coalition =
      past_plan bs h set figures coins triples room p
      ∙ and_then_refused _ _ refusal.Coalition (need-false refusal.Coalition (set_ok (plan_of bs) set) (sym (et ∙ set_ok_lem bs h set p) ∙ f)) in
      put_as _ _ at e x u (refused_lines _ refusal.Coalition (plan_of bs) set (numbers figures) (numbers coins) (numbers triples) c) w

  -- of at most t members a view has room
  module _ (y : t ≡ true) (k : ℕ) (ek : k ≡ view_count (plan_of bs) (members set)) where
    view_few : k ≤ 524288
    view_few =
        omega (arith, ek, views-most (plan_of bs) (few-plan bs p.passes) (members set) (omega (arith, member_most h.n h.t set (sym et ∙ y), plan_t p)))

    pub view_within : (v : List ℕ) → length v ≡ 2097152 → width * k ≤ length v
    view_within v l = omega (arith, view_few)

    pub view_sized : (v : List ℕ) → length v ≡ 2097152 → length (take (width * k) v) ≡ width * view_count (plan_of bs) (members set)
    view_sized v l = length-take-le (width * k) v (view_within v l) ∙ ap (λ (x : ℕ). width * x) ek

    pub view_long : (v : List ℕ) → length v ≡ 2097152 → width * k ≡ length (take (width * k) v)
    view_long v l = sym (length-take-le (width * k) v (view_within v l))

-- ---- past the figures: coins, then triples
module _ (bs : List ℕ) (h : Header) (p : Planned bs h) (c : Tally) (i : ℕ) (tallied : Tallied (plan_of bs).gates i c) (rest : List ℕ) where
  pub coins-all : c.spends ≡ 0 → length rest ≡ min (coin_bytes (plan_of bs) rest) (length rest)
  unfolding coin_bytes kind_count
  coins-all e = rw (eq-eqb (count_where (is_kind 7) (plan_of bs).gates) 0 (sym tallied.spends ∙ e)) (omega arith)

  pub coins-full : (k r : ℕ) → (c.spends ≡ 0 → ⊥) → k ≡ coin_count (plan_of bs) → r ≡ min (width * k) (length rest) → r ≡ min (coin_bytes (plan_of bs) rest) (length rest)
  unfolding coin_bytes kind_count
  coins-full k r n e er = er ∙ rw (ne_eqb (count_where (is_kind 7) (plan_of bs).gates) 0 (λ q. n (tallied.spends ∙ q)), e)

pub coins_fit : (bs : List ℕ) (k : ℕ) → k ≤ 645120 → Fits w64 (width * k)
coins_fit bs k l = record { fits = omega arith }

module _ (bs : List ℕ) (set : ℕ) (list : List ℕ) (k m e : ℕ) (ek : k ≡ input_count (plan_of bs)) (em : m ≡ min (width * k) (length list))
    (f : ℕ) (ef : f ≡ min (coin_bytes (plan_of bs) (take (length list - m) (drop m list))) (length (take (length list - m) (drop m list)))) where
  abbrev rest : List ℕ
  rest = take (length list - m) (drop m list)

  rest-is : rest ≡ drop (width * input_count (plan_of bs)) list
  rest-is = rest_all m list ∙ rw (em, drop_min (width * k) list, ek)

  pub split-in : m + f ≤ length list
  split-in = omega (arith, em, ef, ap length (rest_all m list), length-drop m list)

  -- the list in two, its figures and coins, and its triples
  pub split_lines :
      (given triples : List ℕ) (at r : ℕ) (t u : List ℕ) → given ≡ take (m + f) list → triples ≡ drop (m + f) list
      → Put (answered bs set (take m given) (take (length given - m) (drop m given)) triples) at t u r → Put (listed bs set list) at t u r
  unfolding listed parted
  split_lines given triples at r t u eg et w =
      let b : ℕ = coin_bytes (plan_of bs) (drop (width * input_count (plan_of bs)) list) in
      let past : List ℕ = drop (width * input_count (plan_of bs)) list in
      let es : f ≡ min b (length past) = rw rest-is at ef in
      let figures : take m given ≡ take (width * input_count (plan_of bs)) list = ap (take m) eg ∙ take-take m (m + f) list (omega arith) ∙ rw (em, take_min (width * k) list, ek) in
      let tail : drop m list ≡ past = rw (em, drop_min (width * k) list, ek) in
      let coins : take (length given - m) (drop m given) ≡ take b past =
      rest_all m given ∙ ap (drop m) eg ∙ drop-take m f list ∙ ap (take f) tail ∙ rw (es, take_min b past) in
      let spare : triples ≡ drop b past = et ∙ sym (drop-drop f m list) ∙ ap (drop f) tail ∙ rw (es, drop_min b past) in
      put_as _ _ at r t u (rw (figures, coins, spare)) w

pub ruleset splitting = (rules, not-true, not-false, front_long, set_refused_lines, view_within, view_long, view_sized, coins-all, coins-full, coins_fit, split-in, split_lines)

-- ---- the plan's refusal
pub plan_refused_lines :
    (bs : List ℕ) (set : ℕ) (list : List ℕ) (r : Refusal) (at e : ℕ) (t u : List ℕ) → plan_check bs ≡ Err r
    → Put (line refused_word (number_of r ∷ place_of r ∷ [])) at t u e → Put (listed bs set list) at t u e
unfolding listed parted answered bench_answer plan_check
plan_refused_lines bs set list r at e t u f w =
    let figures : List ℕ = take (width * input_count (plan_of bs)) list in
    let rest : List ℕ = drop (width * input_count (plan_of bs)) list in
    let coins : List ℕ = take (coin_bytes (plan_of bs) rest) rest in
    let triples : List ℕ = drop (coin_bytes (plan_of bs) rest) rest in
    let checks : List Checked = run_checks (plan_of bs) set figures coins triples (width * view_count (plan_of bs) (members set)) in
    let c : bench_answer bs set figures coins triples (width * view_count (plan_of bs) (members set)) ≡ Err r =
    first_of-append (plan_checks bs) checks ∙ and_then_refused (plan_check bs) _ r f in
    put_as _ _ at e t u (refused_lines _ r (plan_of bs) set (numbers figures) (numbers coins) (numbers triples) c) w

pub ruleset reading_plan = (rules, plan_refused_lines)

-- ---- the numbers after the set
pub width_four : (plan : List ℕ) (b : ℕ) (t : Bool) → b ≡ get_or plan 4 0 → t ≡ between 3 4 b → t ≡ true → 4 ≡ input_width plan
unfolding input_width
width_four plan b t e f g = rw (← e, ← f, g)

pub width_two : (plan : List ℕ) (b : ℕ) (t : Bool) → b ≡ get_or plan 4 0 → t ≡ between 3 4 b → t ≡ false → 2 ≡ input_width plan
unfolding input_width
width_two plan b t e f g = rw (← e, ← f, g)

width_not_four : (plan : List ℕ) → (input_width plan ≡ 4 → ⊥) → 2 ≡ input_width plan
unfolding input_width
width_not_four plan = by (between 3 4 (get_or plan 4 0))
  where
    by : (b : Bool) → (◌≡◌ {A = ℕ} (cond b 4 2) 4 → ⊥) → ◌≡◌ {A = ℕ} 2 (cond b 4 2)
    by true f = absurd (f refl)
    by false f = refl

pub width_at_least : (plan list : List ℕ) → length list / input_width plan ≤ length list / 2
unfolding input_width
width_at_least plan list = by (between 3 4 (get_or plan 4 0))
  where
    by : (b : Bool) → length list / cond b 4 2 ≤ length list / 2
    by true = omega arith
    by false = omega arith

module _ (plan list : List ℕ) (w : ℕ) (e : w ≡ input_width plan) where
  pub read_four : (i x : ℕ) → w ≡ 4 → i < length list / input_width plan → x ≡ get_or (numbers list) i 0 → x ≡ number_at (input_width plan) list (input_width plan * i)
  read_four i x f l q = let z : input_width plan ≡ width = sym e ∙ f in rw z (q ∙ get_or-numbers list i (rw z at l))

  pub read-two : (i x : ℕ) → (w ≡ 4 → ⊥) → x ≡ word_at list (2 * i) → x ≡ number_at (input_width plan) list (input_width plan * i)
  read-two i x f q = rw (← width_not_four plan (λ g. f (e ∙ g))) (q ∙ word_number list (2 * i))

  pub read_fits : (i : ℕ) → i < length list / input_width plan → length list * 1 < 2 ^ 63 → Fits w64 (2 * i)
  read_fits i l m = record { fits = omega (arith, width_at_least plan list) }

-- the invariant at number i of n: those before it are stored
pub record Widened (plan list : List ℕ) (n : ℕ) (room₀ room : List ℕ) (i : ℕ) : Type 0 where
  pub within : i ≤ n
  pub long : length room ≡ length room₀
  pub is : Stored (λ k. number_at (input_width plan) list (input_width plan * k)) n room₀ room i

pub widen_next : (plan list : List ℕ) (n : ℕ) (room₀ room : List ℕ) (i : ℕ) → Widened plan list n room₀ room i → (x : ℕ) (new : List ℕ)
    → i < n → x ≡ number_at (input_width plan) list (input_width plan * i) → new ≡ stored room i x → Widened plan list n room₀ new (i + 1)
widen_next plan list n room₀ room i h x new l q to =
    let next = store-next _ n room₀ room i h.is x new l q to in
    record { within = next.within; long = next.long; is = next }

module _ (plan list : List ℕ) (w : ℕ) (e : w ≡ input_width plan) where
  abbrev count : ℕ
  count = length list / w

  pub widen_few : length list ≤ 32768 → width * (length list / w) ≤ 65536
  widen_few few = rw e (omega (arith, width_at_least plan list))

  pub widen_within : (i : ℕ) → i < length list / w → i < length list / input_width plan
  widen_within i l = rw e at l

  pub widen_none : (room : List ℕ) → length list ≤ 32768 → length room ≡ 65536 → Widened plan list (length list / w) room room 0
  widen_none room few long = record { within = omega arith; long = refl; is = store-none _ count room (omega (arith, widen_few few)) }

  module _ (room₀ room : List ℕ) (i : ℕ) (h : Widened plan list (length list / w) room₀ room i) where
    pub widened-room : length list ≤ 32768 → length room₀ ≡ 65536 → width * (length list / w) ≤ length room
    widened-room few long = omega (arith, widen_few few, h.long)

    pub widened : length list / w ≤ i → take (width * (length list / w)) room ≡ lent plan list
    unfolding lent numbers_of
    widened l =
        let f : ℕ → ℕ = λ k. number_at (input_width plan) list (input_width plan * k) in
        let long : length (bytes_of (tab f count)) ≡ width * count = length-bytes_of (tab f count) ∙ rw length-tab in
        ap (take (width * count)) (stored-part f count room₀ room i h.is l) ∙ take_at (bytes_of (tab f count)) (drop (width * count) room₀) (width * count) long ∙ rw e

-- As it is: answers name this set, since the check leaves their goals open by `using` alone.
pub ruleset widening = (rules, contains_is, width_four, width_two, read_four, read-two, read_fits, widen_few, widen_within, widen_none, widen_next, widened-room, widened)

pub lent_lines : (bs list : List ℕ) (set e : ℕ) (room : List ℕ) (at r : ℕ) (t u : List ℕ) → take e room ≡ lent bs list → Put (listed bs set (take e room)) at t u r → Put (listed bs set (lent bs list)) at t u r
lent_lines bs list set e room at r t u q w = rw q at w

pub ruleset lending = (rules, front_long, lent_lines)

-- ---- an input that cannot be read
module _ (bs : List ℕ) where
  pub too_long : 32768 < length bs → true ≡ unreadable bs
  unfolding unreadable
  too_long l = rw (lt-ltb 32768 (length bs) l)

  module _ (l : length bs ≤ 32768) (w : ℕ) (e : w ≡ word_at bs 0) where
    pub too_short : length bs < 2 + w + 2 → true ≡ unreadable bs
    unfolding unreadable
    too_short m = rw (le-ltb 32768 (length bs) l, ← e, lt-ltb (length bs) (4 + w) (omega arith))

    pub bytes_left : 2 + w + 2 ≤ length bs → (v : ℕ) → v ≡ input_width (take (2 + w - 2) (drop 2 bs)) → not (eqb ((length bs - (2 + w + 2)) % v) 0) ≡ unreadable bs
    unfolding unreadable list_part plan_part
    bytes_left m v ev =
        let q : 2 + w + 2 ≡ 4 + w = omega arith in
        let r : 2 + w - 2 ≡ w = omega arith in
        rw (le-ltb 32768 (length bs) l, ← e, le-ltb (length bs) (4 + w) (omega arith), length-drop (4 + w) bs, ev, q, r)

pub ruleset unreading = (rules, too_long, too_short, bytes_left)

-- ---- an input's parts
module _ (bs : List ℕ) (b : Bool) (eb : b ≡ unreadable bs) (f : b ≡ false) (w : ℕ) (ew : w ≡ word_at bs 0) where
  pub parts_long : 2 + w + 2 ≤ length bs
  unfolding unreadable
  parts_long =
      let short : Bool = ltb (length bs) (4 + word_at bs 0) in
      let left : Bool = not (eqb (length (list_part bs) % input_width (plan_part bs)) 0) in
      let o : short ≡ false = (or_parts short left (or_parts (ltb 32768 (length bs)) (short || left) (sym eb ∙ f)).1).0 in
      omega (arith, ew, ltb-false (length bs) (4 + word_at bs 0) o)

  pub parts_few : (at : ℕ) → length (take (length bs - at) (drop at bs)) ≤ 32768
  unfolding unreadable
  parts_few at =
      let few : length bs ≤ 32768 = ltb-false 32768 (length bs) (or_parts (ltb 32768 (length bs)) _ (sym eb ∙ f)).0 in
      rw (rest_all at bs, length-drop) (omega arith)

  whole : report bs ≡ listed (plan_part bs) (set_part bs) (lent (plan_part bs) (list_part bs))
  unfolding report listed parted answered bench_of figures_part rest_part coins_part triples_part
  whole = rw (← eb, f)

  pub plan_end : 2 + w ≤ length bs
  plan_end = omega (arith, parts_long)

  parts-report : (set : ℕ) → set ≡ word_at bs (2 + w)
      → listed (take (2 + w - 2) (drop 2 bs)) set (lent (take (2 + w - 2) (drop 2 bs)) (take (length bs - (2 + w + 2)) (drop (2 + w + 2) bs))) ≡ report bs
  unfolding plan_part set_part list_part
  parts-report set es =
      let q : 2 + w + 2 ≡ 4 + w = omega arith in
      let r : 2 + w - 2 ≡ w = omega arith in
      rw (rest_all (2 + w + 2) bs, es, q, r, ew) (sym whole)

-- ---- the whole report
magic-report : (bs : List ℕ) (b : Bool) → b ≡ unreadable bs → b ≡ true → line refused_word (number_of refusal.Magic ∷ place_of refusal.Magic ∷ []) ≡ report bs
unfolding report number_of place_of
magic-report bs b e f = rw (← e, f)

pub reported : (xs : List ℕ) (r : ℕ) (old new : List ℕ) → Put xs 0 old new r → Reported xs old new r
reported xs r old new h =
    let t : take r new ≡ take (length old) xs = h.text in
    let room : r ≤ length new = omega (arith, h.room, h.long) in
    record { room = room; text = t; count = sym (length-take-le r new room) ∙ ap length t }

module _ (bs : List ℕ) (b : Bool) (eb : b ≡ unreadable bs) (at r : ℕ) (old new : List ℕ) where
  pub unread : b ≡ true → Put (line refused_word (number_of refusal.Magic ∷ place_of refusal.Magic ∷ [])) at old new r → Put (report bs) at old new r
  unread f h = put_as _ (report bs) at r old new (magic-report bs b eb f) h

  pub parsed : b ≡ false → (w : ℕ) → w ≡ word_at bs 0 → (set : ℕ) → set ≡ word_at bs (2 + w)
      → Put (listed (take (2 + w - 2) (drop 2 bs)) set (lent (take (2 + w - 2) (drop 2 bs)) (take (length bs - (2 + w + 2)) (drop (2 + w + 2) bs)))) at old new r
      → Put (report bs) at old new r
  parsed f w ew set es h = put_as _ (report bs) at r old new (parts-report bs b eb f w ew set es) h

pub ruleset reporting = (rules, parts_long, parts_few, plan_end, unread, parsed, reported)
