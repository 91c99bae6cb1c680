-- Where the matching refuses nothing, its two lists meet the premises of demand 3.
--     outs-left                                 what refusal 22 leaves
--     matched_bytes                             the claim of a plan alone, on any bytes
--     draws_are, coins_are, main_are            the parts of a joint list in bytes
--     joint_bytes                               the claim of two runs together, on any bytes
-- Assumes nothing.
use Rattle.std.proofs.Common.{Ok}
use Prim.Native.Nat.{ℕ, suc, ◌+◌, ◌*◌, ◌<◌, ◌≤◌}
use mathlib.Core.Path.{◌≡◌, refl, sym, ap, ap₂, subst, ◌∙◌}
use mathlib.Core.Bool.{Bool, true, false, cond, not, ◌||◌}
use mathlib.Core.List.{List, [], ◌∷◌, map}
use native.Mathlib.Omega.{arith}
use borrow.Author.Tests.{eqb-true, ltb-true}
use lib.Dec.{eqb, ltb}
use lib.ListN.{length, take, drop, get_or}
use Rattle.numbers.specs.Bytes.{width, limit, numbers, first_over, bytes_of, all_below, holds_count}
use Rattle.numbers.proofs.Searches.{nothing_passes}
use Rattle.numbers.proofs.Below.{all_below_at, at-all_below, first_over-nothing}
use Rattle.numbers.proofs.Bytes.{holds-length, holds-numbers, take-bytes_of, drop-bytes_of, bytes_of-numbers}
use Rattle.plan.specs.declared.Output.{Output}
use Rattle.plan.specs.declared.Refusal.{Refusal}
use Rattle.plan.specs.declared.Refusal.TheVariants as refusal
use Rattle.plan.specs.Refusals.{first_of, unless_found}
use Rattle.plan.proofs.Refusals.{first_of-append, passed_both, passed-need, passed_found}
use Rattle.plan.specs.Plans.{Plan, kind_count, input_count, coin_count, out_wires_of, out_wires}
use Rattle.plan.specs.File.{plan_checks, plan_check, plan_of}
use Rattle.plan_coalition.specs.Coalitions.{in_set, members, set_ok}
use Rattle.run_protocol.specs.Ideal.{values, granted}
use Rattle.run_protocol.specs.Rounds.{view_count}
use Rattle.run_protocol.specs.Settings.{Full, Coins}
use Rattle.run_protocol.proofs.Accepted.{back}
use Rattle.sharing_laws.proofs.Lists.{map-all}
use Rattle.match_agreement.specs.MatchCalls.{outs_agree, pair_checks, match_answer, matched_after}
use Rattle.match_agreement.proofs.Agreed.{either_back, own-inputs}
use Rattle.match_joint.specs.JointLists.{draws_of, preparing_coins, main_coins, joint_triples, joint_held}
use Rattle.match_prepared.specs.PreparedCalls.{in_turn, preparing_count, joint_count, joint_below, joint_over, prepared_ok, joint_checks, prepared_checks, prepared_answer, prepared_after}
use Rattle.demands.specs.Demands.{Alike, SameBytes, PrivatePrepared}
use Rattle.demands.specs.Further.{draw_bytes, preparing_bytes, main_bytes, triple_bytes, MatchedBytes, JointlyMatched, JointBytes}
use Rattle.demands.proofs.Turns.{turned_passed}
use Rattle.demands.proofs.Second.{small_prime}
use Rattle.demands.proofs.Third.{each_member}
use Rattle.demands.proofs.First.{first_passed}
use Rattle.demands.proofs.Computed.{prime_of, demand3}

-- ---- what refusal 22 leaves
module _ (set i : ℕ) (on : in_set set i ≡ true) where
  outs_same : (f g : ℕ → ℕ) (os : List Output)
      → ((o : ℕ) → o < length os → in_set set (get_or os o (record { party = 0; wire = 0 })).party ≡ true → f (get_or os o (record { party = 0; wire = 0 })).wire ≡ g (get_or os o (record { party = 0; wire = 0 })).wire)
      → map f (out_wires_of i os) ≡ map g (out_wires_of i os)
  unfolding out_wires_of
  outs_same f g [] h = refl
  outs_same f g (x ∷ os) h = step (eqb i x.party) refl (outs_same f g os (λ o l e. h (suc o) (omega arith) e))
    where
      step : (b : Bool) → eqb i x.party ≡ b → map f (out_wires_of i os) ≡ map g (out_wires_of i os)
          → map f (cond b (x.wire ∷ out_wires_of i os) (out_wires_of i os)) ≡ map g (cond b (x.wire ∷ out_wires_of i os) (out_wires_of i os))
      step true e r = ap₂ (λ (v : ℕ) (l : List ℕ). v ∷ l) (h 0 (omega arith) (ap (in_set set) (sym (eqb-true i x.party e)) ∙ on)) r
      step false e r = r

module _ (plan : Plan) (set : ℕ) (ok : set_ok plan set ≡ true) (xs ys : List ℕ) where
  outs-left : outs_agree plan set (values plan xs) (values plan ys) ≡ Ok tt → map (granted plan xs) (members set) ≡ map (granted plan ys) (members set)
  unfolding outs_agree granted out_wires
  outs-left e =
      map-all (granted plan xs) (granted plan ys) (members set)
      (each_member (λ i. granted plan xs i ≡ granted plan ys i) plan set ok
      (λ i l m on. outs_same set i on (λ w. get_or (values plan xs) w 0) (λ w. get_or (values plan ys) w 0) plan.outs
      (λ o q. either_back (in_set set (get_or plan.outs o (record { party = 0; wire = 0 })).party)
      (get_or (values plan xs) (get_or plan.outs o (record { party = 0; wire = 0 })).wire 0) (get_or (values plan ys) (get_or plan.outs o (record { party = 0; wire = 0 })).wire 0)
      (nothing_passes
      (λ o. not (in_set set (get_or plan.outs o (record { party = 0; wire = 0 })).party) || eqb (get_or (values plan xs) (get_or plan.outs o (record { party = 0; wire = 0 })).wire 0) (get_or (values plan ys) (get_or plan.outs o (record { party = 0; wire = 0 })).wire 0))
      (length plan.outs) (passed_found refusal.OutputsDiffer _ e) o q))))

-- ---- bytes that passed their checks are the bytes of their numbers
whole_bytes : (k : ℕ) (bs : List ℕ) → all_below 256 bs ≡ true → holds_count k bs ≡ true → bytes_of (numbers bs) ≡ bs
whole_bytes k bs b h = bytes_of-numbers k bs (holds-length k bs h) (λ i l. all_below_at 256 bs i b l)

full_of : (p k : ℕ) (bs : List ℕ) (r : ℕ → Refusal) → holds_count k bs ≡ true → unless_found r (first_over p (numbers bs)) ≡ Ok tt → Full p k (numbers bs)
full_of p k bs r h e = record { count = holds-numbers k bs h; small = first_over-nothing p (numbers bs) (passed_found r _ e) }

-- ---- a plan alone
module _ (bytes : List ℕ) (set : ℕ) (first second coins out view view' : List ℕ) (is-bytes : all_below 256 bytes ≡ true)
    (b1 : all_below 256 first ≡ true) (b2 : all_below 256 second ≡ true) (b3 : all_below 256 coins ≡ true)
    (passed : match_answer bytes set first second coins (length out) ≡ Ok tt) where
  abbrev plan : Plan
  plan = plan_of bytes

  two : (first_of (plan_checks bytes) ≡ Ok tt) × (first_of (pair_checks plan set first second coins (length out)) ≡ Ok tt)
  unfolding match_answer
  two = passed_both _ _ (sym (first_of-append (plan_checks bytes) (pair_checks plan set first second coins (length out))) ∙ passed)

  each : (k : ℕ) → get_or (pair_checks plan set first second coins (length out)) k (Ok tt) ≡ Ok tt
  each = first_passed _ two.1

  set_passes : set_ok plan set ≡ true
  unfolding pair_checks
  set_passes = passed-need refusal.Coalition _ (each 0)

  first_count : holds_count (input_count plan) first ≡ true
  unfolding pair_checks
  first_count = passed-need refusal.InputCount _ (each 1)

  second-count : holds_count (input_count plan) second ≡ true
  unfolding pair_checks
  second-count = passed-need refusal.InputCount _ (each 2)

  coin-count : holds_count (coin_count plan) coins ≡ true
  unfolding pair_checks
  coin-count = passed-need refusal.CoinCount _ (each 5)

  settings : Coins plan (numbers coins)
  unfolding pair_checks
  settings = full_of plan.p (coin_count plan) coins refusal.CoinValue coin-count (each 6)

  none : kind_count plan 7 ≡ 0
  unfolding pair_checks
  none = eqb-true (kind_count plan 7) 0 (passed-need refusal.Triples _ (each 7))

  out_long : length out ≡ width * coin_count plan
  unfolding pair_checks
  out_long = eqb-true (length out) (width * coin_count plan) (passed-need refusal.BufferLength _ (each 8))

  alike : Alike bytes set (numbers first) (numbers second)
  unfolding pair_checks plan_check
  alike = record {
    passes = two.0;
    set_passes = set_passes;
    first = full_of plan.p (input_count plan) first refusal.InputValue first_count (each 3);
    second = full_of plan.p (input_count plan) second refusal.InputValue second-count (each 4);
    agree = own-inputs plan set (numbers first) (numbers second) (each 9);
    grants = outs-left plan set set_passes (numbers first) (numbers second) (each 10);
  }

  Same : List ℕ → List ℕ → List ℕ → Type 0
  Same f s c = SameBytes bytes set f c [] s (matched_after bytes set f s c out) [] view view'

  both : length view ≡ width * view_count plan (members set) → length view' ≡ width * view_count plan (members set) → SameBytes bytes set first coins [] second (matched_after bytes set first second coins out) [] view view'
  unfolding Same
  both room room' =
      subst (λ (f : List ℕ). Same f second coins) (whole_bytes (input_count plan) first b1 first_count)
      (subst (λ (s : List ℕ). Same (bytes_of (numbers first)) s coins) (whole_bytes (input_count plan) second b2 second-count)
      (subst (λ (c : List ℕ). Same (bytes_of (numbers first)) (bytes_of (numbers second)) c) (whole_bytes (coin_count plan) coins b3 coin-count)
      ((demand3.alone bytes set (numbers first) (numbers second) is-bytes none alike).same_view (numbers coins) out view view' settings out_long room room')))

pub matched_bytes : MatchedBytes
matched_bytes bytes set first second coins out view view' is-bytes b1 b2 b3 passed room room' = both bytes set first second coins out view view' is-bytes b1 b2 b3 passed room room'

-- ---- the parts of a joint list in bytes
module _ (prep : Plan) (c : List ℕ) where
  draws_are : draw_bytes prep (bytes_of c) ≡ bytes_of (draws_of prep c)
  unfolding draw_bytes draws_of
  draws_are = take-bytes_of (input_count prep) c

  coins_are : preparing_bytes prep (bytes_of c) ≡ bytes_of (preparing_coins prep c)
  unfolding preparing_bytes preparing_coins
  coins_are = ap (take (width * coin_count prep)) (drop-bytes_of (input_count prep) c) ∙ take-bytes_of (coin_count prep) (drop (input_count prep) c)

  main_are : main_bytes prep (bytes_of c) ≡ bytes_of (main_coins prep c)
  unfolding main_bytes main_coins
  main_are = drop-bytes_of (input_count prep + coin_count prep) c

-- ---- two runs together
module _ (prep bytes : List ℕ) (set : ℕ) (first second coins out : List ℕ) (prep-bytes : all_below 256 prep ≡ true) (is-bytes : all_below 256 bytes ≡ true)
    (b1 : all_below 256 first ≡ true) (b2 : all_below 256 second ≡ true) (b3 : all_below 256 coins ≡ true)
    (passed : prepared_answer prep bytes set first second coins (length out) ≡ Ok tt) where
  abbrev main_plan : Plan
  main_plan = plan_of bytes

  abbrev prep_plan : Plan
  prep_plan = plan_of prep

  parts : (first_of (in_turn (plan_checks prep) (plan_checks bytes)) ≡ Ok tt) × (first_of (joint_checks prep_plan main_plan set first second coins (length out)) ≡ Ok tt)
  unfolding prepared_answer prepared_checks
  parts = passed_both _ _ (sym (first_of-append (in_turn (plan_checks prep) (plan_checks bytes)) (joint_checks prep_plan main_plan set first second coins (length out))) ∙ passed)

  plans : (plan_check prep ≡ Ok tt) × (plan_check bytes ≡ Ok tt)
  unfolding plan_check
  plans = turned_passed (plan_checks prep) (plan_checks bytes) parts.0

  each_of : (k : ℕ) → get_or (joint_checks prep_plan main_plan set first second coins (length out)) k (Ok tt) ≡ Ok tt
  each_of = first_passed _ parts.1

  main_set : set_ok main_plan set ≡ true
  unfolding joint_checks
  main_set = passed-need refusal.Coalition _ (each_of 1)

  count_first : holds_count (input_count main_plan) first ≡ true
  unfolding joint_checks
  count_first = passed-need refusal.InputCount _ (each_of 2)

  count_second : holds_count (input_count main_plan) second ≡ true
  unfolding joint_checks
  count_second = passed-need refusal.InputCount _ (each_of 3)

  count_coins : holds_count (joint_count prep_plan main_plan) coins ≡ true
  unfolding joint_checks
  count_coins = passed-need refusal.CoinCount _ (each_of 6)

  pub shape : prepared_ok prep_plan main_plan ≡ true
  unfolding joint_checks
  shape = passed-need refusal.Triples _ (each_of 8)

  room : length out ≡ width * joint_count prep_plan main_plan
  unfolding joint_checks
  room = eqb-true (length out) (width * joint_count prep_plan main_plan) (passed-need refusal.BufferLength _ (each_of 9))

  demanded : Alike bytes set (numbers first) (numbers second)
  unfolding joint_checks
  demanded = record {
    passes = plans.1;
    set_passes = main_set;
    first = full_of main_plan.p (input_count main_plan) first refusal.InputValue count_first (each_of 4);
    second = full_of main_plan.p (input_count main_plan) second refusal.InputValue count_second (each_of 5);
    agree = own-inputs main_plan set (numbers first) (numbers second) (each_of 10);
    grants = outs-left main_plan set main_set (numbers first) (numbers second) (each_of 11);
  }

  -- every number of the joint list is below the one prime
  coin_below : (i : ℕ) → i < length (numbers coins) → get_or (numbers coins) i 0 < main_plan.p
  unfolding joint_checks joint_over joint_below
  coin_below i l =
      ltb-true (get_or (numbers coins) i 0) main_plan.p
      (ap (ltb (get_or (numbers coins) i 0)) (one_prime (ltb i (preparing_count prep_plan)))
      ∙ nothing_passes (λ i. ltb (get_or (numbers coins) i 0) (cond (ltb i (preparing_count prep_plan)) prep_plan.p main_plan.p)) (length (numbers coins)) (passed_found refusal.CoinValue _ (each_of 7)) i l)
    where
      one_prime : (b : Bool) → main_plan.p ≡ cond b prep_plan.p main_plan.p
      one_prime true = sym (prime_of prep_plan main_plan shape)
      one_prime false = refl

  joint_list : Full main_plan.p (joint_count prep_plan main_plan) (numbers coins)
  joint_list = record { count = holds-numbers (joint_count prep_plan main_plan) coins count_coins; small = at-all_below main_plan.p (numbers coins) coin_below }

  together : PrivatePrepared prep bytes set (numbers first) (numbers second)
  together = demand3.prepared prep bytes set (numbers first) (numbers second) prep-bytes is-bytes plans.0 shape demanded

  -- what is written
  abbrev moved : List ℕ
  moved = together.matches.matched (numbers coins)

  written : prepared_after prep bytes set first second coins out ≡ bytes_of moved
  written =
      ap₂ (λ (f s : List ℕ). prepared_after prep bytes set f s coins out) (sym (whole_bytes (input_count main_plan) first b1 count_first)) (sym (whole_bytes (input_count main_plan) second b2 count_second))
      ∙ ap (λ (c : List ℕ). prepared_after prep bytes set (bytes_of (numbers first)) (bytes_of (numbers second)) c out) (sym (whole_bytes (joint_count prep_plan main_plan) coins b3 count_coins))
      ∙ together.matches.writes (numbers coins) out joint_list room

  moved_small : all_below main_plan.p moved ≡ true
  moved_small = (together.matches.among (joint_held prep_plan main_plan (members set) (numbers coins)) (numbers coins) joint_list refl).0.small

  few : main_plan.p ≤ limit
  few = small_prime bytes plans.1

  triples_are : (c : List ℕ) → all_below main_plan.p c ≡ true → triple_bytes prep_plan (bytes_of c) ≡ bytes_of (joint_triples prep_plan c)
  unfolding triple_bytes
  triples_are c h = ap (λ (l : List ℕ). bytes_of (joint_triples prep_plan l)) (back main_plan.p c few h)

  coins_whole : bytes_of (numbers coins) ≡ coins
  coins_whole = whole_bytes (joint_count prep_plan main_plan) coins b3 count_coins

  Preparing : List ℕ → List ℕ → List ℕ → List ℕ → Type 0
  Preparing view view' c d =
      SameBytes prep set (draw_bytes prep_plan c) (preparing_bytes prep_plan c) [] (draw_bytes prep_plan d) (preparing_bytes prep_plan d) [] view view'

  Main : List ℕ → List ℕ → List ℕ → List ℕ → List ℕ → List ℕ → Type 0
  Main view view' f s c d =
      SameBytes bytes set f (main_bytes prep_plan c) (triple_bytes prep_plan c) s (main_bytes prep_plan d) (triple_bytes prep_plan d) view view'

  preparing_same : (view view' : List ℕ) → length view ≡ width * view_count prep_plan (members set) → length view' ≡ width * view_count prep_plan (members set)
      → Preparing view view' (bytes_of (numbers coins)) (bytes_of moved)
  unfolding Preparing
  preparing_same view view' l l' =
      rw (draws_are prep_plan (numbers coins), coins_are prep_plan (numbers coins), draws_are prep_plan moved, coins_are prep_plan moved)
      (together.same_preparing (numbers coins) moved view view' joint_list refl l l')

  main_same : (view view' : List ℕ) → length view ≡ width * view_count main_plan (members set) → length view' ≡ width * view_count main_plan (members set)
      → Main view view' (bytes_of (numbers first)) (bytes_of (numbers second)) (bytes_of (numbers coins)) (bytes_of moved)
  unfolding Main
  main_same view view' l l' =
      rw (main_are prep_plan (numbers coins), triples_are (numbers coins) joint_list.small, main_are prep_plan moved, triples_are moved moved_small)
      (together.same_main (numbers coins) moved view view' joint_list refl l l')

  same_both : JointlyMatched prep bytes set first second coins (prepared_after prep bytes set first second coins out)
  unfolding Preparing Main
  same_both = record {
    preparing = λ view view' l l'.
        subst (λ (c : List ℕ). Preparing view view' c (prepared_after prep bytes set first second coins out)) coins_whole
        (subst (λ (d : List ℕ). Preparing view view' (bytes_of (numbers coins)) d) (sym written) (preparing_same view view' l l'));
    main = λ view view' l l'.
        subst (λ (f : List ℕ). Main view view' f second coins (prepared_after prep bytes set first second coins out)) (whole_bytes (input_count main_plan) first b1 count_first)
        (subst (λ (s : List ℕ). Main view view' (bytes_of (numbers first)) s coins (prepared_after prep bytes set first second coins out)) (whole_bytes (input_count main_plan) second b2 count_second)
        (subst (λ (c : List ℕ). Main view view' (bytes_of (numbers first)) (bytes_of (numbers second)) c (prepared_after prep bytes set first second coins out)) coins_whole
        (subst (λ (d : List ℕ). Main view view' (bytes_of (numbers first)) (bytes_of (numbers second)) (bytes_of (numbers coins)) d) (sym written) (main_same view view' l l'))));
  }

pub joint_bytes : JointBytes
joint_bytes prep bytes set first second coins out prep-bytes is-bytes b1 b2 b3 passed = same_both prep bytes set first second coins out prep-bytes is-bytes b1 b2 b3 passed
