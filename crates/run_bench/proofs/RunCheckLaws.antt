-- What each way through the checks of a run says of its definition.
--     sizing                   how long a view is
--     Sizing                   the loop over the parties
--     giving, running          the checks of what a run is given, and all of them
-- Assumes nothing.
use Rattle.std.proofs.Common.{Ok, Err}
use mathlib.Core.Path.{◌≡◌, sym, ap, ap₂, ◌∙◌}
use mathlib.Core.Logic.{⊎_elim}
use mathlib.Core.Bool.{Bool, true, false, cond}
use mathlib.Core.List.{List, [], ◌∷◌, ◌++◌}
use Prim.Native.Nat.{ℕ, suc, ◌+◌, ◌-◌, ◌*◌, ◌<◌, ◌≤◌}
use native.Mathlib.Numerals.{add-one}
use native.Mathlib.Nat.{mul-zero, zero-mul, mul-le-mul}
use native.Mathlib.Omega.{arith}
use borrow.Author.Rules.{rules}
use borrow.Author.Tests.{not-true, not-false, eq-eqb, ne_eqb}
use lib.Dec.{eqb}
use mir.Syntax.{w64}
use mir.Val.{Fits}
use Rattle.numbers.specs.Tables.{count_where, total}
use Rattle.numbers.specs.Bytes.{width}
use Rattle.plan.specs.declared.Header.{Header}
use Rattle.plan.specs.Refusals.{Checked}
use Rattle.plan.specs.declared.Refusal.{Refusal}
use Rattle.plan.specs.declared.Refusal.TheVariants as refusal
use Rattle.plan.specs.Refusals.{and_then, first_of, need}
use Rattle.plan.specs.declared.Rule.{Rule}
use Rattle.plan.specs.declared.Rule.TheVariants.{Reduction, Truncation}
use Rattle.plan.specs.Plans.{Plan, party_count, dealer_count, is_kind, kind_count, input_owners, coin_owners, input_count, own_input_count, coin_count, own_coin_count, own_out_count, triple_numbers, per_multiply}
use Rattle.plan.specs.Kinds.{own_multiply_coins, own_draws, own_random_coins}
use Rattle.plan.specs.File.{between, plan_of}
use Rattle.plan.specs.Planned.{Planned}
use Rattle.plan_coalition.specs.Coalitions.{in_set, members_from, members, set_fits, set_ok}
use Rattle.plan.proofs.Refusals.{and_then_passed, and_then_refused, and_then_end, first_of-append, need-true, need-false}
use Rattle.plan.proofs.Planned.{plan_p, plan_n, plan_t}
use Rattle.plan.proofs.Valid.{planned_or}
use Rattle.plan.proofs.KindCounts.{own-inputs-of, own-coins-of}
use Rattle.plan_counts.specs.declared.Tally.{Tally}
use Rattle.plan_counts.specs.Counts.{Tallied}
use Rattle.plan_coalition.proofs.Coalitions.{set_ok_lem}
use Rattle.seat_admission.specs.Parts.{list_checks, triple_checks}
use Rattle.run_bench.specs.Checks.{lent_checks}
use Rattle.run_protocol.specs.Rounds.{view_count_of, view_count}
use Rattle.run_protocol.proofs.ViewCounts.{view-count-by}
use Rattle.run_bench.specs.BenchCalls.{given_checks}

-- ---- how long a party's view is
-- what a multiply gate has of a party's view, at most, where 2t is below n
multiply-coins-few : (plan : Plan) (i : ℕ) (rule : Rule) → 3 * plan.t ≤ 21 → own_multiply_coins plan rule i ≤ 21
unfolding own_multiply_coins
multiply-coins-few plan i rule l = by rule
  where
    some : (b : Bool) (c : ℕ) → c ≤ 21 → cond b c 0 ≤ 21
    some true c m = m
    some false c m = omega arith

    by : (r : Rule) → own_multiply_coins plan r i ≤ 21
    by Reduction = some (between 1 (dealer_count plan) i) plan.t (omega arith)
    by Truncation = some (between 1 (party_count plan) i) (3 * plan.t) l

multiply-mail-few : (plan : Plan) (rule : Rule) → party_count plan ≤ 15 → 2 * plan.t < party_count plan → per_multiply plan rule ≤ 45
unfolding per_multiply dealer_count
multiply-mail-few plan Reduction l m = omega arith
multiply-mail-few plan Truncation l m = omega arith

module _ (bs : List ℕ) (h : Header) (pl : Planned bs h) where
  abbrev plan : Plan
  plan = plan_of bs

  few_outs : (o : ℕ) → o ≤ 64 → h.n * o ≤ 960
  few_outs o l = mul-le-mul {n₂ = 15} {m₂ = 64} pl.n-high l

  pub outs_fits : (o : ℕ) → o ≤ 64 → Fits w64 (h.n * o)
  outs_fits o l = record { fits = omega (arith, few_outs o l) }

  module _ (i : ℕ) (c : Tally) (t : Tallied plan.gates i c) where
    times : (a b k : ℕ) → b ≤ k → a * b ≤ a * k
    times a b k q = mul-le-mul {n₁ = a} {m₁ = b} {n₂ = a} {m₂ = k} (omega arith) q

    by_times : (a b k : ℕ) → a ≤ k → a * b ≤ k * b
    by_times a b k q = mul-le-mul {n₁ = a} {m₁ = b} {n₂ = k} {m₂ = b} q (omega arith)

    if_few : (b : Bool) (k m : ℕ) → k ≤ m → cond b k 0 ≤ m
    if_few true k m l = l
    if_few false k m l = omega arith

    abbrev mail : ℕ
    mail = kind_count plan 1 + kind_count plan 5 * per_multiply plan plan.rule + kind_count plan 6 * party_count plan + kind_count plan 7 * (2 * party_count plan)

    -- a multiply gate's coins and mail
    abbrev multiplied : ℕ
    multiplied = own_multiply_coins plan plan.rule i * c.multiplies + c.multiplies * per_multiply plan plan.rule

    multiplied-few : multiplied ≤ 66 * c.multiplies
    unfolding kind_count
    multiplied-few = ⊎_elim none majority (planned_or bs h pl)
      where
        none : kind_count plan 5 ≡ 0 → multiplied ≤ 66 * c.multiplies
        none e = let z : c.multiplies ≡ 0 = t.multiplies ∙ e in rw z (omega (arith, mul-zero (own_multiply_coins plan plan.rule i), zero-mul (per_multiply plan plan.rule)))

        majority : 2 * h.t < h.n → multiplied ≤ 66 * c.multiplies
        majority two =
            let least : 3 * plan.t ≤ 21 = omega (arith, plan_t pl, pl.n-high) in
            let mail-least : per_multiply plan plan.rule ≤ 45 = multiply-mail-few plan plan.rule (omega (arith, plan_n pl, pl.n-high)) (omega (arith, plan_t pl, plan_n pl)) in
            omega (
              arith,
              by_times (own_multiply_coins plan plan.rule i) c.multiplies 21 (multiply-coins-few plan i plan.rule least),
              times c.multiplies (per_multiply plan plan.rule) 45 mail-least,
            )

    module _ (m k x : ℕ) (em : m ≡ mail) (ek : k ≡ own_coin_count plan i) (ex : x ≡ own_input_count plan i) where
      coins-by : k ≡ plan.t * c.own + own_multiply_coins plan plan.rule i * c.multiplies + own_random_coins plan i * c.randoms
      unfolding own_coin_count coin_owners
      coins-by =
          ek ∙ own-coins-of plan i plan.gates
          ∙ sym (rw (t.own, t.multiplies, t.randoms) (omega (arith, zero-mul (count_where (is_kind 7) plan.gates))))

      inputs-by : x ≡ c.own + own_draws plan i * c.randoms
      unfolding own_input_count input_owners
      inputs-by =
          ex ∙ own-inputs-of plan i plan.gates
          ∙ sym (rw (t.own, t.randoms) (omega (arith, zero-mul (count_where (is_kind 7) plan.gates), zero-mul (count_where (is_kind 5) plan.gates))))

      mail-by : m ≡ c.inputs + c.multiplies * per_multiply plan plan.rule + c.randoms * party_count plan + c.spends * (2 * party_count plan)
      unfolding kind_count
      mail-by = em ∙ sym (rw (t.inputs, t.multiplies, t.randoms, t.spends) (omega arith))

      gates-few : m + k + x ≤ 67584
      unfolding own_draws own_random_coins
      gates-few =
          let high : party_count plan ≤ 15 = omega (arith, plan_n pl, pl.n-high) in
          let least : plan.t ≤ 14 = omega (arith, plan_t pl, pl.threshold, pl.n-high) in
          omega (
            arith,
            mail-by,
            coins-by,
            inputs-by,
            multiplied-few,
            t.few,
            t.own_few,
            by_times plan.t c.own 14 least,
            times c.randoms (party_count plan) 15 high,
            times c.spends (2 * party_count plan) 30 (omega (arith, high)),
            by_times (cond (between 1 (party_count plan) i) plan.t 0) c.randoms 14 (if_few (between 1 (party_count plan) i) plan.t 14 least),
            by_times (cond (between 1 (party_count plan) i) 1 0) c.randoms 1 (if_few (between 1 (party_count plan) i) 1 1 (omega arith)),
          )

      module _ (o : ℕ) (lo : o ≤ 64) where
        few : x + (k + (m + h.n * o + o)) ≤ 68608
        few = omega (arith, gates-few, few_outs o lo)

        pub mail-fits : Fits w64 (m + h.n * o)
        mail-fits = record { fits = omega (arith, few) }

        pub rest-fits : Fits w64 (m + h.n * o + o)
        rest-fits = record { fits = omega (arith, few) }

        pub drawn-fits : Fits w64 (k + (m + h.n * o + o))
        drawn-fits = record { fits = omega (arith, few) }

        pub view_fits : Fits w64 (x + (k + (m + h.n * o + o)))
        view_fits = record { fits = omega (arith, few) }

        pub view-few : x + (k + (m + h.n * o + o)) ≤ 68608
        view-few = few

        pub view-is : o ≡ own_out_count plan i → x + (k + (m + h.n * o + o)) ≡ view_count_of plan i
        view-is eo =
            let brought : h.n * o ≡ party_count plan * own_out_count plan i = ap₂ (λ (a b : ℕ). a * b) (sym (plan_n pl)) eo in
            omega (arith, view-count-by plan i)

-- As it is: answers name this set, since the check leaves their goals open by `using` alone.
pub ruleset sizing = (rules, outs_fits, mail-fits, rest-fits, drawn-fits, view_fits, view-few, view-is)

-- ---- a member's
module _ (set i k : ℕ) (b : Bool) (e : b ≡ in_set set i) where
  pub size-not : b ≡ false → 0 ≡ cond (in_set set i) k 0
  size-not y = rw (← e, y)

  pub size_member : (r : ℕ) → b ≡ true → r ≡ k → r ≡ cond (in_set set i) k 0
  size_member r y q = q ∙ rw (← e, y)

pub ruleset sizing_one = (rules, not-true, not-false, size-not, size_member)

-- ---- the loop over the parties
pub record Sizing (plan : Plan) (set k i : ℕ) : Type 0 where
  pub low : 1 ≤ i
  pub high : i ≤ 17
  pub few : k + 68608 ≤ 68608 * i
  pub is : k + view_count plan (members_from set i (17 - i)) ≡ view_count plan (members set)

pub size_none : (plan : Plan) (set : ℕ) → Sizing plan set 0 1
unfolding members
size_none plan set = record { low = omega arith; high = omega arith; few = omega arith; is = omega arith }

size_step : (plan : Plan) (b : Bool) (i k : ℕ) (is : List ℕ) → k + view_count plan (cond b (i ∷ is) is) ≡ k + cond b (view_count_of plan i) 0 + view_count plan is
unfolding view_count total
size_step plan true i k is = omega arith
size_step plan false i k is = omega arith

module _ (plan : Plan) (set k i : ℕ) (s : Sizing plan set k i) where
  members_step : i ≤ 16 → members_from set i (17 - i) ≡ cond (in_set set i) (i ∷ members_from set (i + 1) (17 - (i + 1))) (members_from set (i + 1) (17 - (i + 1)))
  unfolding members_from
  members_step l =
      let q : 17 - i ≡ suc (17 - (i + 1)) = omega arith in
      ap (members_from set i) q ∙ ap (λ (j : ℕ). cond (in_set set i) (i ∷ members_from set j (17 - (i + 1))) (members_from set j (17 - (i + 1)))) (sym (add-one i))

  pub size_next : (d : ℕ) → i ≤ 16 → d ≡ cond (in_set set i) (view_count_of plan i) 0 → d ≤ 68608 → Sizing plan set (k + d) (i + 1)
  size_next d l e m = record {
    low = omega arith;
    high = omega arith;
    few = omega (arith, s.few);
    is = rw e (sym (size_step plan (in_set set i) i k (members_from set (i + 1) (17 - (i + 1))))) ∙ ap (λ (ms : List ℕ). k + view_count plan ms) (sym (members_step l)) ∙ s.is;
  }

  pub size_done : 16 < i → k ≡ view_count plan (members set)
  unfolding members_from view_count total
  size_done l =
      let q : 17 - i ≡ 0 = omega (arith, s.high) in
      let e : k + view_count plan (members_from set i 0) ≡ view_count plan (members set) = ap (λ (j : ℕ). k + view_count plan (members_from set i j)) (sym q) ∙ s.is in
      omega (arith, e)

  pub size_most : k ≤ 1097728
  size_most = omega (arith, s.few, s.high)

-- As it is: answers name this set, since the check leaves their goals open by `using` alone.
pub ruleset sizing_all = (rules, size_none, size_next, size_done, size_most)

-- ---- what a run is given
module _ (bs : List ℕ) (h : Header) (pl : Planned bs h) (inputs coins triples : List ℕ) where
  inputs_of : ℕ → ℕ → Checked
  inputs_of p n = first_of (list_checks refusal.InputCount refusal.InputValue p n inputs)

  coins_of_lem : ℕ → ℕ → Checked
  coins_of_lem p n = first_of (list_checks refusal.CoinCount refusal.CoinValue p n coins)

  triples_by : ℕ → ℕ → Checked
  triples_by p n = first_of (triple_checks p n triples)

  module _ (k : ℕ) (ek : k ≡ input_count (plan_of bs)) (c : Checked) (ec : c ≡ first_of (list_checks refusal.InputCount refusal.InputValue h.field.p k inputs)) where
    abbrev triples_end : Checked
    triples_end = triples_by h.field.p (party_count (plan_of bs) * triple_numbers (plan_of bs))

    given-parts : first_of (given_checks (plan_of bs) inputs coins triples) ≡ and_then c (and_then (coins_of_lem h.field.p (coin_count (plan_of bs))) triples_end)
    unfolding given_checks inputs_of coins_of_lem triples_by list_checks triple_checks
    given-parts =
        first_of-append (list_checks refusal.InputCount refusal.InputValue (plan_of bs).p (input_count (plan_of bs)) inputs)
        (list_checks refusal.CoinCount refusal.CoinValue (plan_of bs).p (coin_count (plan_of bs)) coins ++ triple_checks (plan_of bs).p (party_count (plan_of bs) * triple_numbers (plan_of bs)) triples)
        ∙ ap (and_then (inputs_of (plan_of bs).p (input_count (plan_of bs))))
        (first_of-append (list_checks refusal.CoinCount refusal.CoinValue (plan_of bs).p (coin_count (plan_of bs)) coins) (triple_checks (plan_of bs).p (party_count (plan_of bs) * triple_numbers (plan_of bs)) triples))
        ∙ ap (λ (p : ℕ). and_then (inputs_of p (input_count (plan_of bs))) (and_then (coins_of_lem p (coin_count (plan_of bs))) (triples_by p (party_count (plan_of bs) * triple_numbers (plan_of bs))))) (plan_p pl)
        ∙ ap (λ (n : ℕ). and_then (inputs_of h.field.p n) (and_then (coins_of_lem h.field.p (coin_count (plan_of bs))) triples_end)) (sym ek)
        ∙ ap (λ (d : Checked). and_then d (and_then (coins_of_lem h.field.p (coin_count (plan_of bs))) triples_end)) (sym ec)

    pub given-inputs : (r : Refusal) → c ≡ Err r → ◌≡◌ {A = Checked} (Err r) (first_of (given_checks (plan_of bs) inputs coins triples))
    given-inputs r e = sym (given-parts ∙ and_then_refused c _ r e)

    module _ (e : c ≡ (Ok tt)) (m : ℕ) (em : m ≡ coin_count (plan_of bs)) (d : Checked) (ed : d ≡ first_of (list_checks refusal.CoinCount refusal.CoinValue h.field.p m coins)) where
      past-inputs : first_of (given_checks (plan_of bs) inputs coins triples) ≡ and_then d triples_end
      unfolding coins_of_lem
      past-inputs =
          given-parts ∙ and_then_passed c _ e ∙ ap (λ (n : ℕ). and_then (coins_of_lem h.field.p n) triples_end) (sym em) ∙ ap (λ (x : Checked). and_then x triples_end) (sym ed)

      pub given-coins : (r : Refusal) → d ≡ Err r → ◌≡◌ {A = Checked} (Err r) (first_of (given_checks (plan_of bs) inputs coins triples))
      given-coins r f = sym (past-inputs ∙ and_then_refused d _ r f)

      pub given-triples : d ≡ (Ok tt) → (n : ℕ) → n ≡ party_count (plan_of bs) * triple_numbers (plan_of bs) → (r : Checked) → r ≡ first_of (triple_checks h.field.p n triples)
          → r ≡ first_of (given_checks (plan_of bs) inputs coins triples)
      unfolding triples_by
      given-triples f n en r er =
          er ∙ sym (past-inputs ∙ and_then_passed d _ f ∙ ap (triples_by h.field.p) (sym en))

pub ruleset giving = (rules, given-inputs, given-coins, given-triples)

-- ---- all checks
pub lent_parts : (bs : List ℕ) (set : ℕ) (inputs coins triples : List ℕ) (room : ℕ) → first_of (lent_checks (plan_of bs) set inputs coins triples room)
    ≡ and_then (need refusal.Coalition (set_ok (plan_of bs) set)) (and_then (first_of (given_checks (plan_of bs) inputs coins triples)) (need refusal.BufferLength (eqb room (width * view_count (plan_of bs) (members set)))))
unfolding lent_checks first_of
lent_parts bs set inputs coins triples room =
    ap (and_then (need refusal.Coalition (set_ok (plan_of bs) set)))
    (first_of-append (given_checks (plan_of bs) inputs coins triples) (need refusal.BufferLength (eqb room (width * view_count (plan_of bs) (members set))) ∷ [])
    ∙ ap (and_then (first_of (given_checks (plan_of bs) inputs coins triples))) (and_then_end (need refusal.BufferLength (eqb room (width * view_count (plan_of bs) (members set))))))

module _ (bs : List ℕ) (h : Header) (pl : Planned bs h) (set : ℕ) (inputs coins triples : List ℕ) (room : ℕ) (t : Bool) (et : t ≡ set_fits h.n h.t set) where
  set_is : t ≡ set_ok (plan_of bs) set
  set_is = et ∙ set_ok_lem bs h set pl

  pub run-set : t ≡ false → Err refusal.Coalition ≡ first_of (lent_checks (plan_of bs) set inputs coins triples room)
  run-set e = sym (lent_parts bs set inputs coins triples room ∙ and_then_refused (need refusal.Coalition (set_ok (plan_of bs) set)) _ refusal.Coalition (need-false refusal.Coalition (set_ok (plan_of bs) set) (sym set_is ∙ e)))

  module _ (y : t ≡ true) (c : Checked) (ec : c ≡ first_of (given_checks (plan_of bs) inputs coins triples)) where
    past-set : first_of (lent_checks (plan_of bs) set inputs coins triples room) ≡ and_then c (need refusal.BufferLength (eqb room (width * view_count (plan_of bs) (members set))))
    past-set =
        lent_parts bs set inputs coins triples room ∙ and_then_passed (need refusal.Coalition (set_ok (plan_of bs) set)) _ (need-true refusal.Coalition (set_ok (plan_of bs) set) (sym set_is ∙ y))
        ∙ ap (λ (d : Checked). and_then d (need refusal.BufferLength (eqb room (width * view_count (plan_of bs) (members set))))) (sym ec)

    pub run-given : (r : Refusal) → c ≡ Err r → ◌≡◌ {A = Checked} (Err r) (first_of (lent_checks (plan_of bs) set inputs coins triples room))
    run-given r e = sym (past-set ∙ and_then_refused c _ r e)

    module _ (e : c ≡ (Ok tt)) (k : ℕ) (ek : k ≡ view_count (plan_of bs) (members set)) where
      past-given : first_of (lent_checks (plan_of bs) set inputs coins triples room) ≡ need refusal.BufferLength (eqb room (width * view_count (plan_of bs) (members set)))
      past-given = past-set ∙ and_then_passed c _ e

      pub run_room : (room ≡ width * k → ⊥) → Err refusal.BufferLength ≡ first_of (lent_checks (plan_of bs) set inputs coins triples room)
      run_room n = sym (past-given ∙ need-false refusal.BufferLength (eqb room (width * view_count (plan_of bs) (members set))) (rw (← ek) (ne_eqb room (width * k) n)))

      pub run-passed : room ≡ width * k → (Ok tt) ≡ first_of (lent_checks (plan_of bs) set inputs coins triples room)
      run-passed q = sym (past-given ∙ need-true refusal.BufferLength (eqb room (width * view_count (plan_of bs) (members set))) (rw (← ek) (eq-eqb room (width * k) q)))

pub ruleset running = (rules, not-true, not-false, run-set, run-given, run_room, run-passed)
