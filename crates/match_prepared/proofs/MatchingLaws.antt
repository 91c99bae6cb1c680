-- Two runs matched together: what each call of the matching takes, and what it gives.
--     draws-start, spending-start       the two pairs of runs, of any plan that prepares
--     draws-done                        the moved draws
--     preparing-runs, preparing-done    the preparing run's coins
--     main-runs, main-done              the main run's coins
--     drawing, spending_triples         what closes the other needs; answers give the laws above by path, since search gives up over their records
-- Assumes nothing.
use mathlib.Core.Path.{◌≡◌, refl, sym, ap, ap₂, ◌∙◌, subst}
use mathlib.Core.Bool.{true}
use mathlib.Core.List.{List, [], map, flat_map}
use Prim.Native.Nat.{ℕ, suc, ◌*◌, ◌/◌, ◌≤◌}
use native.Mathlib.Nat.{mul-zero, mul-le-mul}
use native.Mathlib.Omega.{arith}
use borrow.Author.Rules.{rules}
use lib.ListN.{length, get_or, take, length-map, length-take}
use lib.Seq.{length-take-le, take_all}
use mir.Syntax.{w8, w64}
use mir.Val.{Fits}
use Rattle.numbers.specs.Tables.{tab}
use Rattle.numbers.specs.Bytes.{width, limit, numbers_of, numbers, bytes_of, all_below}
use Rattle.numbers.proofs.Bytes.{numbers-length, bytes_of-numbers, length-bytes_of, fits_below}
use Rattle.field.proofs.Inverse.{pos}
use Rattle.sharing_laws.proofs.Alls.{below_canon, canon_below}
use Rattle.plan.specs.declared.Header.{Header}
use Rattle.plan.specs.Plans.{Plan, party_count, parties, kind_count, input_count, coin_count, own_inputs, triple_numbers}
use Rattle.plan.specs.File.{plan_of}
use Rattle.plan.specs.Planned.{Planned}
use Rattle.plan.proofs.Planned.{plan_n, plan_p}
use Rattle.plan.proofs.Valid.{Valid, valid, planned-ready}
use Rattle.plan_coalition.specs.Coalitions.{members}
use Rattle.run_protocol.specs.Ideal.{values}
use Rattle.run_protocol.specs.Rounds.{triples_from}
use Rattle.run_protocol.specs.Shares.{share_table, start_of}
use Rattle.run_protocol.specs.Tables.{Tabled}
use Rattle.run_protocol.specs.Preparing.{preparing, prepares}
use Rattle.run_protocol.specs.Settings.{Inputs, Coins}
use Rattle.run_protocol.proofs.Prepared.{is-preparing, no-kind-7}
use Rattle.run_protocol.proofs.Accepted.{back}
use Rattle.run_protocol.proofs.Given.{tabled-none, tabled-prepared, prepared-below, prepared-count}
use Rattle.run_dealings.specs.Rows.{Given}
use Rattle.match_privacy.specs.Matching.{is_member, lowest_of, lowest, matched_with, matched_coins}
use Rattle.match_privacy.proofs.SetMembers.{set_few, set-parties}
use Rattle.match_privacy.proofs.Bijections.{full}
use Rattle.match_privacy.proofs.Views.{Start}
use Rattle.match_joint.specs.JointLists.{draws_of}
use Rattle.match_joint.specs.Joint.{wire_change, spent_wires, spent_changes, moved_draws, matched_draws}
use Rattle.match_joint.proofs.Moved.{length_moved, moved_canon, input_count_lem, spent_count}
use Rattle.match_joint.proofs.Joint.{prepared-start, main-start}
use Rattle.match_call.specs.MatchSteps.{Following, Runnable, MatchedBy}
use Rattle.match_agreement.proofs.Agreed.{own-inputs}
use Rattle.match_call.proofs.AloneLaws.{following}
use Rattle.match_prepared.specs.PreparedParts.{Put}
use Rattle.match_prepared.specs.MatchingParts.{new_draws, new_coins, new_main, Parted}
use Rattle.match_prepared.proofs.DrawLaws.{values_small, changes_small, changes_long, draws_count, draws_written}

-- ---- any plan that prepares
module _ (prep plan : Plan) (ok : Valid plan) (e : prepares prep plan ≡ true) where
  prep-is : prep ≡ preparing plan prep.rule
  prep-is = is-preparing prep plan e

  pub same_p : prep.p ≡ plan.p
  same_p = ap (λ (r : Plan). r.p) prep-is

  pub no-spend : kind_count prep 7 ≡ 0
  no-spend = ap (λ (r : Plan). kind_count r 7) prep-is ∙ no-kind-7 plan prep.rule

  module _ (ms xs ys : List ℕ) where
    changes-length : length (spent_changes plan xs ys) ≡ 2 * kind_count plan 7
    unfolding spent_changes kind_count
    changes-length = length-map (flat_map spent_wires plan.gates) (wire_change plan (values plan xs) (values plan ys)) ∙ spent_count plan.gates

    -- as many moved draws as draws
    draws-count : party_count plan * length (spent_changes plan xs ys) ≡ input_count prep
    draws-count = ap (λ (k : ℕ). party_count plan * k) changes-length ∙ sym (input_count_lem plan prep.rule) ∙ sym (ap input_count prep-is)

    abbrev moved : List ℕ → List ℕ
    moved d = moved_draws plan.p (party_count plan) (lowest plan ms) (spent_changes plan xs ys) d

    pub moved_full : (d : List ℕ) → Inputs prep d → Inputs prep (moved_draws plan.p (party_count plan) (lowest plan ms) (spent_changes plan xs ys) d)
    moved_full d f = record {
      count = length_moved plan.p (party_count plan) (lowest plan ms) (spent_changes plan xs ys) d ∙ draws-count;
      small =
          rw same_p
          (canon_below plan.p (pos ok.prime) _
          (moved_canon plan.p (party_count plan) (lowest plan ms) (spent_changes plan xs ys) d (below_canon plan.p d (rw same_p at f.small))));
    }

    module _ (few : length ms ≤ plan.t) (only : (i : ℕ) → is_member i ms ≡ true → i ≤ party_count plan) (fx : Inputs plan xs) (fy : Inputs plan ys)
        (own : map (λ i. own_inputs plan i xs) ms ≡ map (λ i. own_inputs plan i ys) ms) where
      pub draws-start :
          (d q : List ℕ) → Inputs prep d → Coins prep q
          → Start prep ms d (moved_draws plan.p (party_count plan) (lowest plan ms) (spent_changes plan xs ys) d) q [] [] [] []
      draws-start d q =
          subst (λ (r : Plan). Inputs r d → Coins r q → Start r ms d (moved d) q [] [] [] []) (sym prep-is)
          (prepared-start plan ok prep.rule ms few only xs ys fx fy own d q)

      pub spending-start :
          (d q m : List ℕ) → Inputs prep d → Coins prep q → Coins plan m
          → Start plan ms xs ys m (share_table prep d q [])
          (share_table prep (moved_draws plan.p (party_count plan) (lowest plan ms) (spent_changes plan xs ys) d) (matched_coins prep ms d (moved_draws plan.p (party_count plan) (lowest plan ms) (spent_changes plan xs ys) d) q) [])
          (values prep d) (values prep (moved_draws plan.p (party_count plan) (lowest plan ms) (spent_changes plan xs ys) d))
      spending-start d q m =
          subst (λ (r : Plan). Inputs r d → Coins r q → Coins plan m
          → Start plan ms xs ys m (share_table r d q []) (share_table r (moved d) (matched_coins r ms d (moved d) q) []) (values r d) (values r (moved d))) (sym prep-is)
          (main-start plan ok prep.rule ms few only xs ys fx fy own d q m)

-- ---- the parts of a joint list
module _ {pb bs : List ℕ} {h g : Header} (p : Planned pb h) (q : Planned bs g) {set : ℕ} {xs ys draws coins main : List ℕ} (w : Parted pb bs set xs ys draws coins main) where
  ok : Valid (plan_of bs)
  ok = valid bs q.passes

  p-low : (plan_of bs).p ≤ limit
  p-low = omega (arith, q.p-high, plan_p q)

  own : map (λ i. own_inputs (plan_of bs) i (numbers xs)) (members set) ≡ map (λ i. own_inputs (plan_of bs) i (numbers ys)) (members set)
  own = own-inputs (plan_of bs) set (numbers xs) (numbers ys) w.agree

  prep-p : (plan_of pb).p ≡ (plan_of bs).p
  prep-p = same_p (plan_of pb) (plan_of bs) ok w.prepared

  pub none-spends : kind_count (plan_of pb) 7 ≡ 0
  none-spends = no-spend (plan_of pb) (plan_of bs) ok w.prepared

  new-full : Inputs (plan_of pb) (new_draws bs set xs ys draws)
  unfolding new_draws
  new-full = moved_full (plan_of pb) (plan_of bs) ok w.prepared (members set) (numbers xs) (numbers ys) (numbers draws) w.draws_full

  made-full : Coins (plan_of pb) (new_coins pb bs set xs ys draws coins)
  unfolding new_coins matched_coins
  made-full =
      full (plan_of pb) (valid pb p.passes) (members set) (set_few (plan_of pb) set w.set_ok_first) [] [] (numbers draws) (new_draws bs set xs ys draws) (numbers coins) w.coins_full

  start : Start (plan_of pb) (members set) (numbers draws) (new_draws bs set xs ys draws) (numbers coins) [] [] [] []
  unfolding new_draws
  start =
      draws-start (plan_of pb) (plan_of bs) ok w.prepared (members set) (numbers xs) (numbers ys) (set_few (plan_of bs) set w.set_ok_lem) (set-parties (plan_of bs) set w.set_ok_lem)
      w.first_full w.second_full own (numbers draws) (numbers coins) w.draws_full w.coins_full

  spending : Start (plan_of bs) (members set) (numbers xs) (numbers ys) (numbers main) (share_table (plan_of pb) (numbers draws) (numbers coins) [])
      (share_table (plan_of pb) (new_draws bs set xs ys draws) (new_coins pb bs set xs ys draws coins) []) (values (plan_of pb) (numbers draws)) (values (plan_of pb) (new_draws bs set xs ys draws))
  unfolding new_draws new_coins
  spending =
      spending-start (plan_of pb) (plan_of bs) ok w.prepared (members set) (numbers xs) (numbers ys) (set_few (plan_of bs) set w.set_ok_lem) (set-parties (plan_of bs) set w.set_ok_lem)
      w.first_full w.second_full own (numbers draws) (numbers coins) (numbers main) w.draws_full w.coins_full w.main_full

  no-numbers : 0 ≡ width * (party_count (plan_of pb) * triple_numbers (plan_of pb))
  unfolding triple_numbers
  no-numbers = rw (none-spends, mul-zero (party_count (plan_of pb)))

  -- ---- the draws
  pub first-small : all_below g.field.p (numbers xs) ≡ true
  first-small = rw (← plan_p q) w.first_full.small

  pub second-small : all_below g.field.p (numbers ys) ≡ true
  second-small = rw (← plan_p q) w.second_full.small

  pub draws-small : all_below g.field.p (numbers draws) ≡ true
  draws-small = rw (← plan_p q, ← prep-p) w.draws_full.small

  module _ (us vs old new : List ℕ) (k : ℕ) (put : Put 0 (map (wire_change (plan_of bs) us vs) (flat_map spent_wires (plan_of bs).gates)) old new k) where
    many : g.n * length (take k new) ≡ input_count (plan_of pb)
    many = draws_count bs g q us vs old new k put pb w.prepared

    pub draws-fit : (out : List ℕ) → length out ≡ width * input_count (plan_of pb) → g.n * length (take k new) ≤ length out / width
    draws-fit out e = omega (arith, many)

    pub draws-done :
        us ≡ values (plan_of bs) (numbers xs) → vs ≡ values (plan_of bs) (numbers ys) → (low : ℕ) → low ≡ lowest_of (members set) (tab suc g.n) → (before out : List ℕ)
        → length before ≡ width * input_count (plan_of pb) → length out ≡ length before
        → take (g.n * length (take k new)) (numbers out) ≡ moved_draws g.field.p g.n low (take k new) (numbers draws) → ((j : ℕ) → Fits w8 (get_or out j 0))
        → out ≡ bytes_of (new_draws bs set xs ys draws)
    unfolding new_draws matched_draws draws_of lowest parties
    draws-done eu ev low el before out l kept written b =
        let c : ℕ = input_count (plan_of pb) in
        let long : length out ≡ width * c = kept ∙ l in
        let at : low ≡ lowest (plan_of bs) (members set) = el ∙ ap (λ (n : ℕ). lowest_of (members set) (tab suc n)) (sym (plan_n q)) in
        let whole : take c (numbers draws) ≡ numbers draws = take_all c (numbers draws) (omega (arith, w.draws_full.count)) in
        sym (bytes_of-numbers c out long (fits_below out b))
        ∙ ap bytes_of
        (sym (take_all c (numbers out) (omega (arith, numbers-length out)))
        ∙ draws_written bs g q us vs old new k put pb w.prepared set low (numbers xs) (numbers ys) (numbers draws) (numbers out) eu ev at written
        ∙ ap (moved_draws (plan_of bs).p (party_count (plan_of bs)) (lowest (plan_of bs) (members set)) (spent_changes (plan_of bs) (numbers xs) (numbers ys))) whole)

  -- ---- the triples of a preparing run as bytes
  pub first-given : Given (plan_of pb) draws coins []
  unfolding all_below numbers numbers_of tab
  first-given = record {
    inputs_count = w.draws_long;
    inputs_below = w.draws_full.small;
    coins_count = w.coins_long;
    coins_below = w.coins_full.small;
    triples_count = no-numbers;
    triples_below = refl;
  }

  module _ (d c : List ℕ) (many : length c ≡ coin_count (plan_of pb)) (ts : List ℕ) (e : ts ≡ bytes_of (triples_from (plan_of pb) d c)) where
    triples-below : all_below (plan_of bs).p (triples_from (plan_of pb) d c) ≡ true
    triples-below = prepared-below (plan_of bs) ok (plan_of pb) w.prepared d c many (pos ok.prime)

    triples-are : numbers ts ≡ triples_from (plan_of pb) d c
    triples-are = ap numbers e ∙ back (plan_of bs).p (triples_from (plan_of pb) d c) p-low triples-below

    triples-long : length ts ≡ width * (party_count (plan_of bs) * triple_numbers (plan_of bs))
    triples-long =
        ap length e ∙ length-bytes_of (triples_from (plan_of pb) d c)
        ∙ ap (λ (k : ℕ). width * k) (prepared-count (plan_of bs) ok (plan_of pb) w.prepared d c many)

    triples-small : all_below g.field.p (numbers ts) ≡ true
    triples-small = rw (← plan_p q) (ap (all_below (plan_of bs).p) triples-are ∙ triples-below)

    triples-tabled : Tabled (plan_of bs) (numbers ts) (share_table (plan_of pb) d c [])
    triples-tabled = rw triples-are (tabled-prepared (plan_of bs) ok (plan_of pb) w.prepared d c many)

  -- ---- the preparing run
  module _ {moved : List ℕ} (em : moved ≡ bytes_of (new_draws bs set xs ys draws)) where
    moved-are : numbers moved ≡ new_draws bs set xs ys draws
    moved-are = ap numbers em ∙ back (plan_of bs).p (new_draws bs set xs ys draws) p-low (rw prep-p at new-full.small)

    moved-long : length moved ≡ width * input_count (plan_of pb)
    moved-long = ap length em ∙ length-bytes_of (new_draws bs set xs ys draws) ∙ ap (λ (k : ℕ). width * k) new-full.count

    moved-small : all_below (plan_of pb).p (numbers moved) ≡ true
    moved-small = ap (all_below (plan_of pb).p) moved-are ∙ new-full.small

    pub preparing-runs : {room : ℕ} → room ≡ width * coin_count (plan_of pb) → Runnable pb h set draws moved coins [] [] room
    unfolding all_below numbers numbers_of tab
    preparing-runs e = record {
      set_ok_lem = w.set_ok_first;
      first_below = rw (← plan_p p) w.draws_full.small;
      second_below = rw (← plan_p p) moved-small;
      coins_below = rw (← plan_p p) w.coins_full.small;
      coins_long = w.coins_long;
      room_long = e;
      first_triples = no-numbers;
      second_triples = no-numbers;
      first_small = refl;
      second_small = refl;
    }

    pub preparing-done : {out : List ℕ} → MatchedBy pb set draws moved coins [] [] (numbers out) → out ≡ bytes_of (numbers out) → out ≡ bytes_of (new_coins pb bs set xs ys draws coins)
    unfolding new_coins matched_coins
    preparing-done m e =
        let tabled : Tabled (plan_of pb) (numbers []) [] = tabled-none (plan_of pb) (numbers []) none-spends in
        let follows : Following (plan_of pb) (members set) (plan_of pb).gates (start_of (numbers draws) (numbers coins) []) (start_of (new_draws bs set xs ys draws) [] []) =
        following (plan_of pb) (valid pb p.passes) (members set) (set_few (plan_of pb) set w.set_ok_first) (set-parties (plan_of pb) set w.set_ok_first)
        (numbers draws) (new_draws bs set xs ys draws) (numbers coins) [] [] [] [] start in
        e
        ∙ ap bytes_of
        (m.are [] [] tabled tabled
        (subst (λ (l : List ℕ). Following (plan_of pb) (members set) (plan_of pb).gates (start_of (numbers draws) (numbers coins) []) (start_of l [] [])) (sym moved-are) follows)
        ∙ ap (λ (l : List ℕ). matched_with (plan_of pb) (members set) [] [] (numbers draws) l (numbers coins)) moved-are)

    -- ---- the main run
    module _ {made : List ℕ} (ec : made ≡ bytes_of (new_coins pb bs set xs ys draws coins)) where
      made-are : numbers made ≡ new_coins pb bs set xs ys draws coins
      made-are = ap numbers ec ∙ back (plan_of bs).p (new_coins pb bs set xs ys draws coins) p-low (rw prep-p at made-full.small)

      pub second-given : Given (plan_of pb) moved made []
      unfolding all_below numbers numbers_of tab
      second-given = record {
        inputs_count = moved-long;
        inputs_below = moved-small;
        coins_count = ap length ec ∙ length-bytes_of (new_coins pb bs set xs ys draws coins) ∙ ap (λ (k : ℕ). width * k) made-full.count;
        coins_below = ap (all_below (plan_of pb).p) made-are ∙ made-full.small;
        triples_count = no-numbers;
        triples_below = refl;
      }

      module _ {first second : List ℕ} (e₁ : first ≡ bytes_of (triples_from (plan_of pb) (numbers draws) (numbers coins))) (e₂ : second ≡ bytes_of (triples_from (plan_of pb) (numbers moved) (numbers made))) where
        first-full : length (numbers coins) ≡ coin_count (plan_of pb)
        first-full = w.coins_full.count

        second-full : length (numbers made) ≡ coin_count (plan_of pb)
        second-full = ap length made-are ∙ made-full.count

        pub main-runs : {room : ℕ} → room ≡ width * coin_count (plan_of bs) → Runnable bs g set xs ys main first second room
        main-runs e = record {
          set_ok_lem = w.set_ok_lem;
          first_below = rw (← plan_p q) w.first_full.small;
          second_below = rw (← plan_p q) w.second_full.small;
          coins_below = rw (← plan_p q) w.main_full.small;
          coins_long = w.main_long;
          room_long = e;
          first_triples = triples-long (numbers draws) (numbers coins) first-full first e₁;
          second_triples = triples-long (numbers moved) (numbers made) second-full second e₂;
          first_small = triples-small (numbers draws) (numbers coins) first-full first e₁;
          second_small = triples-small (numbers moved) (numbers made) second-full second e₂;
        }

        second-table : share_table (plan_of pb) (numbers moved) (numbers made) [] ≡ share_table (plan_of pb) (new_draws bs set xs ys draws) (new_coins pb bs set xs ys draws coins) []
        second-table = ap₂ (λ (d c : List ℕ). share_table (plan_of pb) d c []) moved-are made-are

        pub main-done : {out : List ℕ} → MatchedBy bs set xs ys main first second (numbers out) → out ≡ bytes_of (numbers out) → out ≡ bytes_of (new_main pb bs set xs ys draws coins main)
        unfolding new_main
        main-done m e =
            e
            ∙ ap bytes_of
            (m.are (share_table (plan_of pb) (numbers draws) (numbers coins) [])
            (share_table (plan_of pb) (new_draws bs set xs ys draws) (new_coins pb bs set xs ys draws coins) [])
            (triples-tabled (numbers draws) (numbers coins) first-full first e₁)
            (subst (Tabled (plan_of bs) (numbers second)) second-table (triples-tabled (numbers moved) (numbers made) second-full second e₂))
            (following (plan_of bs) ok (members set) (set_few (plan_of bs) set w.set_ok_lem) (set-parties (plan_of bs) set w.set_ok_lem) (numbers xs) (numbers ys) (numbers main)
            (share_table (plan_of pb) (numbers draws) (numbers coins) [])
            (share_table (plan_of pb) (new_draws bs set xs ys draws) (new_coins pb bs set xs ys draws coins) []) (values (plan_of pb) (numbers draws))
            (values (plan_of pb) (new_draws bs set xs ys draws)) spending))

-- ---- the rooms
module _ (bs : List ℕ) (h : Header) (k : Planned bs h) where
  triples-most : width * h.gates * h.n ≤ 61440
  triples-most = omega (arith, mul-le-mul {n₁ = h.gates} {m₁ = h.n} {n₂ = 1024} {m₂ = 15} k.gates-high k.n-high)

  pub triples-within : (d : List ℕ) → length d ≡ 61440 → width * h.gates * h.n ≤ length d
  triples-within d e = omega (arith, triples-most)

  pub triples-fit : Fits w64 (width * h.gates * h.n)
  triples-fit = record { fits = omega (arith, triples-most) }

  pub gates-fit : Fits w64 (width * h.gates)
  gates-fit = record { fits = omega (arith, k.gates-high) }

  pub triples-room : (d : List ℕ) → length d ≡ 61440 → length (take (width * h.gates * h.n) d) ≡ width * h.gates * h.n
  triples-room d e = length-take-le (width * h.gates * h.n) d (triples-within d e)

-- how many changes there are
pub changes-within : (bs : List ℕ) (g : Header) (us vs old new : List ℕ) (k : ℕ) → Planned bs g → Put 0 (map (wire_change (plan_of bs) us vs) (flat_map spent_wires (plan_of bs).gates)) old new k → k ≤ length new
changes-within bs g us vs old new k q put = omega (arith, length-take k new, changes_long bs g q us vs old new k put)

pub ruleset drawing = (rules, planned-ready, changes_small, changes-within)

pub ruleset spending_triples = (rules, triples-within, triples-fit, gates-fit, triples-room)
