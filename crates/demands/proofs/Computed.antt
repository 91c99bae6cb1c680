-- The matching's calls answer under demand 3's premises, and the bench writes the same bytes for both runs.
--     prime_of, points_of, spends-none          a preparing plan has the main plan's, and spends no triple
--     same_written                              two runs of which the coalition has the same view
--     given_alone                               a run of a plan that spends no triple
--     match-passes, match-written               the matching of a plan alone
--     preparing_given, main_given               the two runs of a joint list
--     views_same                the coalition's views of both
--     joint-passes, joint-written               the matching of two runs together
--     demand3                                   the claim
-- Assumes nothing.
use Rattle.std.proofs.Common.{Ok}
use Prim.Native.Nat.{ℕ, ◌*◌, ◌<◌, ◌≤◌}
use mathlib.Core.Path.{◌≡◌, refl, sym, ap, ap₂, subst, ◌∙◌}
use mathlib.Core.Bool.{Bool, true, false, cond}
use mathlib.Core.List.{List, [], map}
use native.Mathlib.Omega.{arith}
use borrow.Author.Tests.{eq-eqb, lt-ltb}
use lib.Dec.{leb, ltb}
use lib.ListN.{length, get_or}
use Rattle.numbers.specs.Tables.{first_failing}
use Rattle.numbers.specs.Bytes.{width, limit, numbers, bytes_of}
use Rattle.numbers.proofs.Below.{all_below_at}
use Rattle.numbers.proofs.Bytes.{bytes_of-nil}
use Rattle.numbers.proofs.Searches.{passes-nothing}
use Rattle.numbers.proofs.Truth.{both_true}
use Rattle.plan.specs.declared.Refusal.TheVariants as refusal
use Rattle.plan.specs.declared.Rule.{Rule}
use Rattle.plan.specs.Refusals.{unless_found}
use Rattle.plan.proofs.Refusals.{first_of-nil, need-true, found_nothing, next_passes, both_pass}
use Rattle.plan.specs.Plans.{Plan, party_count, kind_count, input_count, coin_count, own_coins}
use Rattle.plan.specs.File.{plan_checks, plan_check, plan_of}
use Rattle.plan.proofs.Valid.{Valid, valid}
use Rattle.plan_coalition.specs.Coalitions.{members, set_ok}
use Rattle.run_protocol.specs.Rounds.{view, view_count}
use Rattle.run_protocol.specs.Settings.{Full, Inputs, Coins, Triples}
use Rattle.run_protocol.specs.Ideal.{values}
use Rattle.run_protocol.specs.Preparing.{preparing, prepares}
use Rattle.run_protocol.proofs.Accepted.{back, values_pass}
use Rattle.run_protocol.proofs.Prepared.{is-preparing, no-kind-7}
use Rattle.match_privacy.specs.Matching.{matched_coins}
use Rattle.match_privacy.specs.Bijections as Bijections
use Rattle.match_privacy.proofs.Private.{Agreeing}
use Rattle.match_agreement.specs.MatchCalls.{pair_checks, inputs_agree, outs_agree, match_answer, matched_after}
use Rattle.match_joint.specs.JointLists.{draws_of, preparing_coins, main_coins, joint_triples, joint_held}
use Rattle.match_joint.specs.Joint.{matched_joint, joint_view, JointlyPrivate}
use Rattle.match_joint.proofs.Joint.{Parts, parts}
use Rattle.match_prepared.specs.PreparedCalls.{in_turn, preparing_count, joint_count, joint_below, joint_over, prepared_ok, joint_checks, prepared_checks, prepared_answer, prepared_after}
use Rattle.demands.specs.Demands.{Given, Alike, SameBytes, PrivateAlone, PrivatePrepared, Demand3}
use Rattle.demands.proofs.Turns.{first_past}
use Rattle.demands.proofs.Second.{small_prime, no_spends, whole}
use Rattle.demands.proofs.Third.{each_member, front_same, back_same, agreeing, runs_private}
use Rattle.demands.proofs.Benches.{kept, count_passes, bench_passes, view-written}
use Rattle.demands.proofs.Bounds.{parties-few}
use Rattle.demands.proofs.Agreeing.{inputs-agree, outs-agree}

-- ---- two runs of which the coalition has the same view
pub same_written : (bytes : List ℕ) (set : ℕ) → set_ok (plan_of bytes) set ≡ true
    → (xs c ts ys d us out out' : List ℕ) → Given bytes xs c ts → Given bytes ys d us
    → view (plan_of bytes) (members set) xs c ts ≡ view (plan_of bytes) (members set) ys d us
    → length out ≡ width * view_count (plan_of bytes) (members set) → length out' ≡ width * view_count (plan_of bytes) (members set)
    → SameBytes bytes set (bytes_of xs) (bytes_of c) (bytes_of ts) (bytes_of ys) (bytes_of d) (bytes_of us) out out'
same_written bytes set ok xs c ts ys d us out out' first second same room room' = record {
  first_answers = bench_passes bytes xs c ts first set ok (length out) room;
  second_answers = bench_passes bytes ys d us second set ok (length out') room';
  same = view-written bytes xs c ts first set ok out room ∙ ap bytes_of same ∙ sym (view-written bytes ys d us second set ok out' room');
}

pub given_alone : (bytes xs c : List ℕ) → plan_check bytes ≡ Ok tt → kind_count (plan_of bytes) 7 ≡ 0 → Inputs (plan_of bytes) xs → Coins (plan_of bytes) c → Given bytes xs c []
given_alone bytes xs c passes none inputs settings =
    record { passes = passes; inputs = inputs; settings = settings; triples = no_spends (plan_of bytes) (valid bytes passes) none }

-- of such runs
pub same_alone : (bytes : List ℕ) (set : ℕ) → set_ok (plan_of bytes) set ≡ true
    → (xs c ys d out out' : List ℕ) → Given bytes xs c [] → Given bytes ys d []
    → view (plan_of bytes) (members set) xs c [] ≡ view (plan_of bytes) (members set) ys d []
    → length out ≡ width * view_count (plan_of bytes) (members set) → length out' ≡ width * view_count (plan_of bytes) (members set)
    → SameBytes bytes set (bytes_of xs) (bytes_of c) [] (bytes_of ys) (bytes_of d) [] out out'
same_alone bytes set ok xs c ys d out out' first second same room room' =
    subst (λ (t : List ℕ). SameBytes bytes set (bytes_of xs) (bytes_of c) t (bytes_of ys) (bytes_of d) t out out') bytes_of-nil
    (same_written bytes set ok xs c [] ys d [] out out' first second same room room')

-- ---- a plan that prepares another
makes : (prep plan : Plan) → prepared_ok prep plan ≡ true → prepares prep plan ≡ true
unfolding prepared_ok
makes prep plan shape = (both_true (leb 1 (kind_count plan 7)) _ shape).1

pub prime_of : (prep plan : Plan) → prepared_ok prep plan ≡ true → prep.p ≡ plan.p
prime_of prep plan shape = ap (λ (q : Plan). q.p) (is-preparing prep plan (makes prep plan shape))

pub points_of : (prep plan : Plan) → prepared_ok prep plan ≡ true → prep.points ≡ plan.points
points_of prep plan shape = ap (λ (q : Plan). q.points) (is-preparing prep plan (makes prep plan shape))

pub spends-none : (prep plan : Plan) → prepared_ok prep plan ≡ true → kind_count prep 7 ≡ 0
spends-none prep plan shape = ap (λ (q : Plan). kind_count q 7) (is-preparing prep plan (makes prep plan shape)) ∙ no-kind-7 plan prep.rule

-- ---- a joint list in its parts
record Cut (prep plan : Plan) (c : List ℕ) : Type 0 where
  draws : Inputs prep (draws_of prep c)
  coins : Coins prep (preparing_coins prep c)
  main : Coins plan (main_coins prep c)

cut_preparing : (plan : Plan) → Valid plan → (rule : Rule) (ms : List ℕ) → length ms ≤ plan.t → (c : List ℕ)
    → Full plan.p (joint_count (preparing plan rule) plan) c → Cut (preparing plan rule) plan c
unfolding joint_count preparing_count
cut_preparing plan ok rule ms few c full =
    let f : Parts plan ok rule ms few c = parts plan ok rule ms few c full in
    record { draws = f.draws; coins = f.coins; main = f.main }

-- ---- two lists that a demand takes, as bytes
module _ (bytes : List ℕ) (set : ℕ) (xs ys : List ℕ) (alike : Alike bytes set xs ys) where
  abbrev plan : Plan
  plan = plan_of bytes

  passes : plan_check bytes ≡ Ok tt
  passes = alike.passes

  few : plan.p ≤ limit
  few = small_prime bytes passes

  parties : party_count plan ≤ 16
  parties = omega (arith, parties-few bytes passes)

  read_first : numbers (bytes_of xs) ≡ xs
  read_first = back plan.p xs few alike.first.small

  read-second : numbers (bytes_of ys) ≡ ys
  read-second = back plan.p ys few alike.second.small

  inputs_pass : inputs_agree plan set (numbers (bytes_of xs)) (numbers (bytes_of ys)) ≡ Ok tt
  inputs_pass = ap₂ (inputs_agree plan set) read_first read-second ∙ inputs-agree plan (valid bytes passes) parties set xs ys alike.agree

  outs_pass : outs_agree plan set (values plan (numbers (bytes_of xs))) (values plan (numbers (bytes_of ys))) ≡ Ok tt
  outs_pass = ap₂ (λ (a b : List ℕ). outs_agree plan set (values plan a) (values plan b)) read_first read-second ∙ outs-agree plan (valid bytes passes) parties set xs ys alike.grants

  -- ---- a plan that spends no triple, alone
  module _ (none : kind_count (plan_of bytes) 7 ≡ 0) (c : List ℕ) (settings : Coins (plan_of bytes) c) where
    match-passes : (room : ℕ) → room ≡ width * coin_count plan → match_answer bytes set (bytes_of xs) (bytes_of ys) (bytes_of c) room ≡ Ok tt
    unfolding match_answer pair_checks plan_check
    match-passes room fits =
        both_pass (plan_checks bytes) _ passes
        (next_passes _ _ (need-true refusal.Coalition (set_ok plan set) alike.set_passes)
        (next_passes _ _ (count_passes refusal.InputCount (input_count plan) xs alike.first.count)
        (next_passes _ _ (count_passes refusal.InputCount (input_count plan) ys alike.second.count)
        (next_passes _ _ (values_pass refusal.InputValue plan.p xs few alike.first.small)
        (next_passes _ _ (values_pass refusal.InputValue plan.p ys few alike.second.small)
        (next_passes _ _ (count_passes refusal.CoinCount (coin_count plan) c settings.count)
        (next_passes _ _ (values_pass refusal.CoinValue plan.p c few settings.small)
        (next_passes _ _ (need-true refusal.Triples _ (eq-eqb (kind_count plan 7) 0 none))
        (next_passes _ _ (need-true refusal.BufferLength _ (eq-eqb room (width * coin_count plan) fits))
        (next_passes _ _ inputs_pass (next_passes _ _ outs_pass first_of-nil)))))))))))

    match-written : (out : List ℕ) → length out ≡ width * coin_count plan
        → matched_after bytes set (bytes_of xs) (bytes_of ys) (bytes_of c) out ≡ bytes_of (matched_coins plan (members set) xs ys c)
    unfolding matched_after
    match-written out fits =
        kept _ _ out (match-passes (length out) fits)
        ∙ ap₂ (λ (a b : List ℕ). bytes_of (matched_coins plan (members set) a b (numbers (bytes_of c)))) read_first read-second
        ∙ ap (λ (d : List ℕ). bytes_of (matched_coins plan (members set) xs ys d)) (back plan.p c few settings.small)

    same_bytes : (out view view' : List ℕ) → length out ≡ width * coin_count plan
        → length view ≡ width * view_count plan (members set) → length view' ≡ width * view_count plan (members set)
        → SameBytes bytes set (bytes_of xs) (bytes_of c) [] (bytes_of ys) (matched_after bytes set (bytes_of xs) (bytes_of ys) (bytes_of c) out) [] view view'
    same_bytes out view view' fits room room' =
        let v : Bijections.Private plan (members set) xs ys = runs_private.alone bytes set xs ys none alike in
        subst (λ (d : List ℕ). SameBytes bytes set (bytes_of xs) (bytes_of c) [] (bytes_of ys) d [] view view') (sym (match-written out fits))
        (same_alone bytes set alike.set_passes xs c ys (matched_coins plan (members set) xs ys c) view view' (given_alone bytes xs c passes none alike.first settings)
        (given_alone bytes ys (matched_coins plan (members set) xs ys c) passes none alike.second (v.full c settings)) (v.same_view c settings) room room')

  -- ---- with the preparing plan whose triples it spends
  module _ (prep : List ℕ) (prep_passes : plan_check prep ≡ Ok tt) (shape : prepared_ok (plan_of prep) (plan_of bytes) ≡ true) where
    abbrev first_plan : Plan
    first_plan = plan_of prep

    made : prepares first_plan plan ≡ true
    made = makes first_plan plan shape

    is : first_plan ≡ preparing plan first_plan.rule
    is = is-preparing first_plan plan made

    same_prime : first_plan.p ≡ plan.p
    same_prime = prime_of first_plan plan shape

    pub prep_set : set_ok first_plan set ≡ true
    unfolding set_ok party_count
    prep_set = ap (λ (q : Plan). set_ok q set) is ∙ alike.set_passes

    prep_none : kind_count first_plan 7 ≡ 0
    prep_none = spends-none first_plan plan shape

    pub private : JointlyPrivate first_plan plan (members set) xs ys
    private = runs_private.prepared prep bytes set xs ys made alike

    agreed : Agreeing plan (members set) xs ys
    agreed = agreeing bytes set xs ys alike

    -- what is matched has the members' own and is a joint list again
    matched_full : (c : List ℕ) → Full plan.p (joint_count first_plan plan) c → Full plan.p (joint_count first_plan plan) (matched_joint first_plan plan (members set) xs ys c)
    unfolding joint_count preparing_count
    matched_full c full = private.full c full

    module _ (c : List ℕ) (full : Full (plan_of bytes).p (joint_count (plan_of prep) (plan_of bytes)) c) where
      cut : Cut first_plan plan c
      cut =
          subst (λ (q : Plan). Full plan.p (joint_count q plan) c → Cut q plan c) (sym is)
          (cut_preparing plan (valid bytes passes) first_plan.rule (members set) agreed.few c) full

      pub preparing_given : Given prep (draws_of first_plan c) (preparing_coins first_plan c) []
      preparing_given = given_alone prep (draws_of first_plan c) (preparing_coins first_plan c) prep_passes prep_none cut.draws cut.coins

      joint_right : Triples plan (joint_triples first_plan c)
      joint_right = record {
        prep = first_plan;
        draws = draws_of first_plan c;
        coins = preparing_coins first_plan c;
        prepared = made;
        draws_full = cut.draws;
        coins_full = cut.coins;
        are = refl;
      }

      pub main_given : (zs : List ℕ) → Inputs plan zs → Given bytes zs (main_coins first_plan c) (joint_triples first_plan c)
      main_given zs inputs = record { passes = passes; inputs = inputs; settings = cut.main; triples = joint_right }

      preparing_long : length (view first_plan (members set) (draws_of first_plan c) (preparing_coins first_plan c) []) ≡ view_count first_plan (members set)
      preparing_long =
          (whole prep (draws_of first_plan c) (preparing_coins first_plan c) [] preparing_given).seen (members set)
          (each_member (λ i. (1 ≤ i) × (i ≤ party_count first_plan)) first_plan set prep_set (λ i l u e. (l, u)))

      -- ---- the call
      coins_back : numbers (bytes_of c) ≡ c
      coins_back = back plan.p c few full.small

      over_none : joint_over first_plan plan (numbers (bytes_of c)) ≡ Ok tt
      unfolding joint_over joint_below
      over_none =
          ap (λ (l : List ℕ). unless_found refusal.CoinValue (first_failing (λ i. ltb (get_or l i 0) (cond (ltb i (preparing_count first_plan)) first_plan.p plan.p)) (length l))) coins_back
          ∙ found_nothing refusal.CoinValue _
          (passes-nothing (λ i. ltb (get_or c i 0) (cond (ltb i (preparing_count first_plan)) first_plan.p plan.p)) (length c)
          (λ i l. either (get_or c i 0) (ltb i (preparing_count first_plan)) (all_below_at plan.p c i full.small l)))
        where
          either : (x : ℕ) (b : Bool) → x < plan.p → ltb x (cond b first_plan.p plan.p) ≡ true
          either x true l = lt-ltb x first_plan.p (omega (arith, same_prime, l))
          either x false l = lt-ltb x plan.p l

      joint-passes : (room : ℕ) → room ≡ width * joint_count first_plan plan → prepared_answer prep bytes set (bytes_of xs) (bytes_of ys) (bytes_of c) room ≡ Ok tt
      unfolding prepared_answer prepared_checks joint_checks plan_check
      joint-passes room fits =
          both_pass (in_turn (plan_checks prep) (plan_checks bytes)) _ (first_past (plan_checks prep) (plan_checks bytes) prep_passes ∙ passes)
          (next_passes _ _ (need-true refusal.Coalition (set_ok first_plan set) prep_set)
          (next_passes _ _ (need-true refusal.Coalition (set_ok plan set) alike.set_passes)
          (next_passes _ _ (count_passes refusal.InputCount (input_count plan) xs alike.first.count)
          (next_passes _ _ (count_passes refusal.InputCount (input_count plan) ys alike.second.count)
          (next_passes _ _ (values_pass refusal.InputValue plan.p xs few alike.first.small)
          (next_passes _ _ (values_pass refusal.InputValue plan.p ys few alike.second.small)
          (next_passes _ _ (count_passes refusal.CoinCount (joint_count first_plan plan) c full.count)
          (next_passes _ _ over_none
          (next_passes _ _ (need-true refusal.Triples (prepared_ok first_plan plan) shape)
          (next_passes _ _ (need-true refusal.BufferLength _ (eq-eqb room (width * joint_count first_plan plan) fits))
          (next_passes _ _ inputs_pass (next_passes _ _ outs_pass first_of-nil))))))))))))

      joint-written : (out : List ℕ) → length out ≡ width * joint_count first_plan plan
          → prepared_after prep bytes set (bytes_of xs) (bytes_of ys) (bytes_of c) out ≡ bytes_of (matched_joint first_plan plan (members set) xs ys c)
      unfolding prepared_after
      joint-written out fits =
          kept _ _ out (joint-passes (length out) fits)
          ∙ ap₂ (λ (a b : List ℕ). bytes_of (matched_joint first_plan plan (members set) a b (numbers (bytes_of c)))) read_first read-second
          ∙ ap (λ (d : List ℕ). bytes_of (matched_joint first_plan plan (members set) xs ys d)) coins_back

    -- ---- the coalition's views of both runs
    pub views_same : (c : List ℕ) → Full plan.p (joint_count first_plan plan) c → (d : List ℕ) → d ≡ matched_joint first_plan plan (members set) xs ys c
        → (view first_plan (members set) (draws_of first_plan c) (preparing_coins first_plan c) [] ≡ view first_plan (members set) (draws_of first_plan d) (preparing_coins first_plan d) [])
        × (view plan (members set) xs (main_coins first_plan c) (joint_triples first_plan c) ≡ view plan (members set) ys (main_coins first_plan d) (joint_triples first_plan d))
    unfolding joint_count preparing_count
    views_same c full d e =
        let f : Full plan.p (joint_count first_plan plan) d = subst (λ (l : List ℕ). Full plan.p (joint_count first_plan plan) l) (sym e) (private.full c full) in
        let long = preparing_long c full ∙ sym (preparing_long d f) in
        let both = private.same_view c full ∙ ap (joint_view first_plan plan (members set) ys) (sym e) in
        (front_same _ _ _ _ long both, back_same _ _ _ _ long both)

    pub moved_full : (c d : List ℕ) → Full plan.p (joint_count first_plan plan) c → d ≡ matched_joint first_plan plan (members set) xs ys c → Full plan.p (joint_count first_plan plan) d
    moved_full c d full e = subst (λ (l : List ℕ). Full plan.p (joint_count first_plan plan) l) (sym e) (matched_full c full)

    both_matched : PrivatePrepared prep bytes set xs ys
    unfolding joint_count preparing_count
    both_matched = record {
      matches = record {
        matched = matched_joint first_plan plan (members set) xs ys;
        answers = λ c out full fits. joint-passes c full (length out) fits;
        writes = λ c out full fits. joint-written c full out fits;
        among = λ own c full e. (private.full c full, private.keeps c full ∙ e);
        one_to_one = private.one_to_one;
        onto = λ own d full e.
            let o = private.onto d full in
            (o.0, o.1, sym (private.keeps o.0 o.1) ∙ ap (joint_held first_plan plan (members set)) o.2 ∙ e, o.2);
      };
      same_preparing = λ c d view view' full e room room'.
          same_alone prep set prep_set (draws_of first_plan c) (preparing_coins first_plan c) (draws_of first_plan d) (preparing_coins first_plan d) view view'
          (preparing_given c full) (preparing_given d (moved_full c d full e)) (views_same c full d e).0 room room';
      same_main = λ c d view view' full e room room'.
          same_written bytes set alike.set_passes xs (main_coins first_plan c) (joint_triples first_plan c) ys (main_coins first_plan d) (joint_triples first_plan d) view view'
          (main_given c full xs alike.first) (main_given d (moved_full c d full e) ys alike.second) (views_same c full d e).1 room room';
    }

  matched_alone : kind_count (plan_of bytes) 7 ≡ 0 → PrivateAlone bytes set xs ys
  matched_alone none =
      let v : Bijections.Private plan (members set) xs ys = runs_private.alone bytes set xs ys none alike in
      record {
        matches = record {
          matched = matched_coins plan (members set) xs ys;
          answers = λ c out s fits. match-passes none c s (length out) fits;
          writes = λ c out s fits. match-written none c s out fits;
          among = λ own c s e. (v.full c s, v.keeps c s ∙ e);
          one_to_one = v.one_to_one;
          onto = λ own d s e.
              let o = v.onto d s in
              (o.0, o.1, sym (v.keeps o.0 o.1) ∙ ap (λ (c : List ℕ). map (λ i. own_coins plan i c) (members set)) o.2 ∙ e, o.2);
        };
        same_view = λ c out view view' s. same_bytes none c s out view view';
      }

pub demand3 : Demand3
demand3 = record {
  alone = λ bytes set xs ys is-bytes none alike. matched_alone bytes set xs ys alike none;
  prepared = λ prep bytes set xs ys prep-bytes is-bytes prep_passes shape alike. both_matched bytes set xs ys alike prep prep_passes shape;
}
