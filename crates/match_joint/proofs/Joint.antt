-- A preparing run and the main run that spends its triples, matched together: the two tables.
--     prepared_triples             the preparing run's table is a list of right triples
--     joint-back                   the joint matching is undone with the runs exchanged
--     prepared-start, main-start   the two pairs of runs
--     jointly, private             the joint matching is a bijection, keeps what members hold, and both views stay
-- Assumes nothing.
use mathlib.Core.Path.{◌≡◌, refl, sym, ap, ap₂, ◌∙◌, subst}
use mathlib.Core.Logic.{◌≢◌}
use mathlib.Core.Bool.{Bool, true, false}
use mathlib.Core.List.{List, [], ◌++◌, map, flat_map}
use Prim.Native.Nat.{ℕ, suc, ◌+◌, ◌-◌, ◌*◌, ◌≤◌, ◌<◌}
use native.Mathlib.Omega.{arith}
use lib.ListN.{length, take, drop, get_or, length-map, length-append, length-drop, take-append-drop}
use lib.Seq.{length-take-le, take_at, drop_at, drop-drop}
use Rattle.numbers.specs.Bytes.{all_below}
use Rattle.field.proofs.Solve.{Canon}
use Rattle.field.proofs.Inverse.{pos}
use Rattle.sharing_laws.specs.Interp.{All}
use Rattle.sharing_laws.proofs.Alls.{all_append, all_take, all_drop, below_canon, canon_below}
use Rattle.match_privacy.specs.Matching.{is_member, lowest, matched_with, matched_coins}
use Rattle.match_privacy.proofs.Members.{map-members, members-map}
use Rattle.plan.specs.declared.Rule.{Rule}
use Rattle.plan.specs.Plans.{Plan, party_count, point_of, kind_count, out_wires_of, out_wires, input_count, coin_count, own_inputs, own_coins}
use Rattle.run_protocol.specs.Ideal.{values, granted}
use Rattle.run_protocol.specs.Shares.{share_table}
use Rattle.run_protocol.specs.Tables.{table_view_of}
use Rattle.run_protocol.specs.Preparing.{prepares, preparing}
use Rattle.match_joint.specs.JointLists.{draws_of, preparing_coins, main_coins, joint_held}
use Rattle.match_joint.specs.Joint.{wire_change, spent_wires, spent_changes, moved_draws, matched_draws, matched_preparing, matched_joint}
use Rattle.run_protocol.specs.Settings.{Full, Inputs, Coins}
use Rattle.match_privacy.specs.Bijections.{Bijection}
use Rattle.plan.proofs.Valid.{Valid}
use Rattle.run_protocol.proofs.Sound.{RightTriples}
use Rattle.match_privacy.proofs.Matches.{Other, lowest_other}
use Rattle.match_privacy.proofs.Bijections.{full, back, own-kept}
use Rattle.match_privacy.proofs.TwoRuns.{Spent}
use Rattle.match_privacy.proofs.Views.{Start, alone_start, differ, views_same}
use Rattle.run_protocol.proofs.Whole.{preparing_right}
use Rattle.run_protocol.proofs.Prepared.{is-preparing, preparing-valid, no-kind-7, triple_values, triple-values}
use Rattle.match_joint.proofs.Moved.{length_moved, moved_canon, moved_back, own_triples, owners_are, input_count_lem, spent_count, spent}

-- what the members see of a joint list on the two tables
abbrev pub joint_tables : Plan → Plan → List ℕ → List ℕ → List ℕ → List ℕ
joint_tables prep plan ms xs c =
    flat_map (table_view_of prep (draws_of prep c) (preparing_coins prep c) []) ms
    ++ flat_map (table_view_of plan xs (main_coins prep c) (share_table prep (draws_of prep c) (preparing_coins prep c) [])) ms

abbrev pub TablesPrivate : Plan → Plan → List ℕ → List ℕ → List ℕ → Type 0
TablesPrivate prep plan ms xs ys =
    Bijection plan.p (input_count prep + coin_count prep + coin_count plan) (matched_joint prep plan ms xs ys) (joint_held prep plan ms)
    (joint_tables prep plan ms xs) (joint_tables prep plan ms ys)

module _ (plan : Plan) (valid : Valid plan) (rule : Rule) where
  abbrev Q : Plan
  Q = preparing plan rule

  abbrev p : ℕ
  p = plan.p

  valid_q : Valid (preparing plan rule)
  valid_q = preparing-valid plan rule valid

  -- the table of a preparing run, as triples
  prepared_triples :
      (d q : List ℕ) → all_below plan.p d ≡ true → RightTriples plan (share_table (preparing plan rule) d q []) (values (preparing plan rule) d)
  prepared_triples d q small = preparing_right plan valid rule d q small

  -- ---- the parts of the joint list
  module _ (ms : List ℕ) (few : length ms ≤ plan.t) where
    -- the draws moved, from the list xs to the list ys
    abbrev moved : List ℕ → List ℕ → List ℕ → List ℕ
    moved xs ys d = moved_draws plan.p (party_count plan) (lowest plan ms) (spent_changes plan xs ys) d

    abbrev coins_new : List ℕ → List ℕ → List ℕ → List ℕ → List ℕ
    coins_new xs ys d q = matched_coins (preparing plan rule) ms d (moved xs ys d) q

    abbrev main_new : List ℕ → List ℕ → List ℕ → List ℕ → List ℕ → List ℕ
    main_new xs ys d q m =
        matched_with plan ms (share_table (preparing plan rule) d q []) (share_table (preparing plan rule) (moved xs ys d) (coins_new xs ys d q) []) xs ys m

    changes-length : (xs ys : List ℕ) → length (spent_changes plan xs ys) ≡ 2 * kind_count plan 7
    unfolding spent_changes kind_count
    changes-length xs ys = length-map (flat_map spent_wires plan.gates) (wire_change plan (values plan xs) (values plan ys)) ∙ spent_count plan.gates

    draws_full : (xs ys d : List ℕ) → Inputs (preparing plan rule) d → Inputs (preparing plan rule) (moved xs ys d)
    draws_full xs ys d f = record {
      count =
          length_moved p (party_count plan) (lowest plan ms) (spent_changes plan xs ys) d
          ∙ ap (λ (k : ℕ). party_count plan * k) (changes-length xs ys) ∙ sym (input_count_lem plan rule);
      small = canon_below p (pos valid.prime) _ (moved_canon p (party_count plan) (lowest plan ms) (spent_changes plan xs ys) d (below_canon p d f.small));
    }

    draws-back : (xs ys d : List ℕ) → Inputs (preparing plan rule) d → moved ys xs (moved xs ys d) ≡ d
    unfolding spent_changes wire_change kind_count
    draws-back xs ys d f =
        moved_back valid.prime (party_count plan) (lowest plan ms) (λ w. get_or (values plan xs) w 0) (λ w. get_or (values plan ys) w 0) (flat_map spent_wires plan.gates) d
        (f.count ∙ input_count_lem plan rule ∙ ap (λ (k : ℕ). party_count plan * k) (sym (spent_count plan.gates))) (below_canon p d f.small)

    -- where the parts stand
    module _ (d q m : List ℕ) (fd : length d ≡ input_count (preparing plan rule)) (fq : length q ≡ coin_count (preparing plan rule)) where
      draws-at : draws_of (preparing plan rule) (d ++ (q ++ m)) ≡ d
      unfolding draws_of
      draws-at = take_at d (q ++ m) (input_count Q) fd

      coins_at_lem : preparing_coins (preparing plan rule) (d ++ (q ++ m)) ≡ q
      unfolding preparing_coins
      coins_at_lem = ap (take (coin_count Q)) (drop_at d (q ++ m) (input_count Q) fd) ∙ take_at q m (coin_count Q) fq

      main-at : main_coins (preparing plan rule) (d ++ (q ++ m)) ≡ m
      unfolding main_coins
      main-at =
          sym (drop-drop (coin_count Q) (input_count Q) (d ++ (q ++ m))) ∙ ap (drop (coin_count Q)) (drop_at d (q ++ m) (input_count Q) fd) ∙ drop_at q m (coin_count Q) fq

      -- the joint matching by its parts
      joint-as :
          (xs ys : List ℕ) → matched_joint (preparing plan rule) plan ms xs ys (d ++ (q ++ m)) ≡ moved xs ys d ++ (coins_new xs ys d q ++ main_new xs ys d q m)
      unfolding matched_joint matched_draws matched_preparing
      joint-as xs ys =
          ap₂ (λ (x y : List ℕ). moved xs ys x ++ (coins_new xs ys x y ++ main_new xs ys x y (main_coins Q (d ++ (q ++ m))))) draws-at coins_at_lem
          ∙ ap (λ (z : List ℕ). moved xs ys d ++ (coins_new xs ys d q ++ main_new xs ys d q z)) main-at

    -- a joint list in its parts
    pub record Parts (c : List ℕ) : Type 0 where
      pub draws : Inputs (preparing plan rule) (draws_of (preparing plan rule) c)
      pub coins : Coins (preparing plan rule) (preparing_coins (preparing plan rule) c)
      pub main : Coins plan (main_coins (preparing plan rule) c)
      pub whole : c ≡ draws_of (preparing plan rule) c ++ (preparing_coins (preparing plan rule) c ++ main_coins (preparing plan rule) c)

    abbrev count : ℕ
    count = input_count (preparing plan rule) + coin_count (preparing plan rule) + coin_count plan

    pub parts : (c : List ℕ) → Full plan.p (input_count (preparing plan rule) + coin_count (preparing plan rule) + coin_count plan) c → Parts c
    unfolding draws_of preparing_coins main_coins
    parts c f =
        let a : ℕ = input_count Q in
        let b : ℕ = coin_count Q in
        let can : All (Canon p) c = below_canon p c f.small in
        let above : 0 < p = pos valid.prime in
        record {
          draws = record { count = length-take-le a c (omega (arith, f.count)); small = canon_below p above _ (all_take (Canon p) a c can) };
          coins =
              record {
                count = length-take-le b (drop a c) (omega (arith, f.count, length-drop a c));
                small = canon_below p above _ (all_take (Canon p) b (drop a c) (all_drop (Canon p) a c can));
              };
          main = record { count = omega (arith, f.count, length-drop (a + b) c); small = canon_below p above _ (all_drop (Canon p) (a + b) c can) };
          whole =
              sym (take-append-drop a c)
              ∙ ap (λ (l : List ℕ). take a c ++ l) (sym (take-append-drop b (drop a c)) ∙ ap (λ (l : List ℕ). take b (drop a c) ++ l) (drop-drop b a c));
        }

    joined :
        (d q m : List ℕ) → Inputs (preparing plan rule) d → Coins (preparing plan rule) q → Coins plan m
        → Full plan.p (input_count (preparing plan rule) + coin_count (preparing plan rule) + coin_count plan) (d ++ (q ++ m))
    joined d q m fd fq fm = record {
      count = omega (arith, length-append d (q ++ m), length-append q m, fd.count, fq.count, fm.count);
      small =
          canon_below p (pos valid.prime) _
          (all_append (Canon p) d (q ++ m) (below_canon p d fd.small) (all_append (Canon p) q m (below_canon p q fq.small) (below_canon p m fm.small)));
    }

    coins_full : (xs ys d q : List ℕ) → Coins (preparing plan rule) q → Coins (preparing plan rule) (coins_new xs ys d q)
    unfolding matched_coins
    coins_full xs ys d q f = full Q valid_q ms few [] [] d (moved xs ys d) q f

    main-full : (xs ys d q m : List ℕ) → Coins plan m → Coins plan (main_new xs ys d q m)
    main-full xs ys d q m f = full plan valid ms few (share_table Q d q []) (share_table Q (moved xs ys d) (coins_new xs ys d q) []) xs ys m f

    -- the joint matching of a list in its parts
    joint-is :
        (xs ys c : List ℕ) → (f : Parts c) → matched_joint (preparing plan rule) plan ms xs ys c
        ≡ moved xs ys (draws_of (preparing plan rule) c)
        ++ (coins_new xs ys (draws_of (preparing plan rule) c) (preparing_coins (preparing plan rule) c)
        ++ main_new xs ys (draws_of (preparing plan rule) c) (preparing_coins (preparing plan rule) c) (main_coins (preparing plan rule) c))
    joint-is xs ys c f =
        ap (matched_joint Q plan ms xs ys) f.whole
        ∙ joint-as (draws_of Q c) (preparing_coins Q c) (main_coins Q c) f.draws.count f.coins.count xs ys

    pub joint-full :
        (xs ys c : List ℕ) → Full plan.p (input_count (preparing plan rule) + coin_count (preparing plan rule) + coin_count plan) c
        → Full plan.p (input_count (preparing plan rule) + coin_count (preparing plan rule) + coin_count plan) (matched_joint (preparing plan rule) plan ms xs ys c)
    joint-full xs ys c full-c =
        let f : Parts c = parts c full-c in
        subst (Full p count) (sym (joint-is xs ys c f))
        (joined (moved xs ys (draws_of Q c)) (coins_new xs ys (draws_of Q c) (preparing_coins Q c)) (main_new xs ys (draws_of Q c) (preparing_coins Q c) (main_coins Q c))
        (draws_full xs ys (draws_of Q c) f.draws) (coins_full xs ys (draws_of Q c) (preparing_coins Q c) f.coins)
        (main-full xs ys (draws_of Q c) (preparing_coins Q c) (main_coins Q c) f.main))

    pub joint-back :
        (xs ys c : List ℕ) → Full plan.p (input_count (preparing plan rule) + coin_count (preparing plan rule) + coin_count plan) c
        → matched_joint (preparing plan rule) plan ms ys xs (matched_joint (preparing plan rule) plan ms xs ys c) ≡ c
    unfolding matched_coins
    joint-back xs ys c full-c =
        let f : Parts c = parts c full-c in
        let d : List ℕ = draws_of Q c in
        let q : List ℕ = preparing_coins Q c in
        let m : List ℕ = main_coins Q c in
        let d' : List ℕ = moved xs ys d in
        let q' : List ℕ = coins_new xs ys d q in
        let m' : List ℕ = main_new xs ys d q m in
        let ed : moved ys xs d' ≡ d = draws-back xs ys d f.draws in
        let eq : coins_new ys xs d' q' ≡ q = ap (λ (x : List ℕ). matched_coins Q ms d' x q') ed ∙ back Q valid_q ms few [] [] d d' q f.coins in
        ap (matched_joint Q plan ms ys xs) (joint-is xs ys c f)
        ∙ joint-as d' q' m' (draws_full xs ys d f.draws).count (coins_full xs ys d q f.coins).count ys xs
        ∙ ap₂ (λ (x y : List ℕ). x ++ (y ++ matched_with plan ms (share_table Q d' q' []) (share_table Q x y []) ys xs m')) ed eq
        ∙ ap (λ (x : List ℕ). d ++ (q ++ x)) (back plan valid ms few (share_table Q d q []) (share_table Q d' q' []) xs ys m f.main)
        ∙ sym f.whole

    -- ---- what the members see
    module _ (parties_only : (i : ℕ) → is_member i ms ≡ true → i ≤ party_count plan) where
      parties_only_q : (i : ℕ) → is_member i ms ≡ true → i ≤ party_count (preparing plan rule)
      unfolding party_count
      parties_only_q = parties_only

      other : Other plan ms
      other = lowest_other plan valid ms few

      not-lowest : (i : ℕ) → is_member i ms ≡ true → i ≢ lowest plan ms
      not-lowest i m same = differ' (is_member i ms) m (ap (λ (k : ℕ). is_member k ms) same ∙ other.none)
        where
          differ' : (b : Bool) → b ≡ true → b ≡ false → ⊥
          differ' b x y = let z : ◌≡◌ {A = ℕ} 0 1 = cc in omega arith

      -- members' draws stay
      pub own-draws : (xs ys d : List ℕ) (i : ℕ) → is_member i ms ≡ true → own_inputs (preparing plan rule) i (moved xs ys d) ≡ own_inputs (preparing plan rule) i d
      unfolding own_inputs
      own-draws xs ys d i m =
          rw (owners_are plan rule)
          (own_triples p (party_count plan) (lowest plan ms) i (kind_count plan 7) (spent_changes plan xs ys) d (not-lowest i m) (changes-length xs ys))

      module _ (xs ys : List ℕ) (fx : Inputs plan xs) (fy : Inputs plan ys) (inputs : map (λ i. own_inputs plan i xs) ms ≡ map (λ i. own_inputs plan i ys) ms) where
        -- the preparing runs
        pub prepared-start :
            (d q : List ℕ) → Inputs (preparing plan rule) d → Coins (preparing plan rule) q
            → Start (preparing plan rule) ms d (moved xs ys d) q [] [] [] []
        prepared-start d q fd fq =
            alone_start Q valid_q ms few parties_only_q d (moved xs ys d) q (no-kind-7 plan rule) fd.small (draws_full xs ys d fd).small fq
            (map-members ms (λ i. own_inputs Q i d) (λ i. own_inputs Q i (moved xs ys d)) (λ i m. sym (own-draws xs ys d i m)))

        lowest-suc : lowest plan ms ≡ suc (lowest plan ms - 1)
        lowest-suc = omega (arith, other.from1)

        spent_all : (d : List ℕ) → Spent plan plan.gates [] [] xs ys (values (preparing plan rule) d) (values (preparing plan rule) (moved xs ys d))
        spent_all d =
            rw (triple-values plan rule d, triple-values plan rule (moved xs ys d))
            (subst (λ (l : ℕ). Spent plan plan.gates [] [] xs ys (triple_values p (party_count plan) (kind_count plan 7) d)
            (triple_values p (party_count plan) (kind_count plan 7) (moved_draws p (party_count plan) l (spent_changes plan xs ys) d)))
            (sym lowest-suc)
            (spent plan valid.prime (lowest plan ms - 1) (omega (arith, other.from1, other.upto)) valid xs ys d))

        -- the main runs
        pub main-start :
            (d q m : List ℕ) → Inputs (preparing plan rule) d → Coins (preparing plan rule) q → Coins plan m
            → Start plan ms xs ys m (share_table (preparing plan rule) d q []) (share_table (preparing plan rule) (moved xs ys d) (coins_new xs ys d q) [])
            (values (preparing plan rule) d) (values (preparing plan rule) (moved xs ys d))
        unfolding matched_coins point_of
        main-start d q m fd fq fm = record {
          below = fx.small;
          below' = fy.small;
          coins = fm;
          agree = members-map ms (λ i. own_inputs plan i xs) (λ i. own_inputs plan i ys) inputs;
          triples = prepared_triples d q fd.small;
          triples' = prepared_triples (moved xs ys d) (coins_new xs ys d q) (draws_full xs ys d fd).small;
          moved = differ Q valid_q ms few parties_only_q d (moved xs ys d) q [] [] [] [] (prepared-start d q fd fq);
          spent = spent_all d;
        }

        -- nothing is granted by a preparing plan
        no-grants : (d d' : List ℕ) → map (granted (preparing plan rule) d) ms ≡ map (granted (preparing plan rule) d') ms
        unfolding granted out_wires out_wires_of
        no-grants d d' = refl

        module _ (grants : map (granted plan xs) ms ≡ map (granted plan ys) ms) where
          -- the views of the two tables
          pub views :
              (d q m : List ℕ) → Inputs (preparing plan rule) d → Coins (preparing plan rule) q → Coins plan m
              → flat_map (table_view_of (preparing plan rule) d q []) ms ++ flat_map (table_view_of plan xs m (share_table (preparing plan rule) d q [])) ms
              ≡ flat_map (table_view_of (preparing plan rule) (moved xs ys d) (coins_new xs ys d q) []) ms
              ++ flat_map (table_view_of plan ys (main_new xs ys d q m) (share_table (preparing plan rule) (moved xs ys d) (coins_new xs ys d q) [])) ms
          unfolding matched_coins
          views d q m fd fq fm =
              ap₂ ◌++◌
              (views_same Q valid_q ms few parties_only_q d (moved xs ys d) q [] [] [] [] (prepared-start d q fd fq) (no-grants d (moved xs ys d)))
              (views_same plan valid ms few parties_only xs ys m (share_table Q d q []) (share_table Q (moved xs ys d) (coins_new xs ys d q) []) (values Q d) (values Q (moved xs ys d))
              (main-start d q m fd fq fm) grants)

          -- the parts of the matched list
          module _ (c : List ℕ) (f : Parts c) where
            abbrev d : List ℕ
            d = draws_of (preparing plan rule) c

            abbrev q : List ℕ
            q = preparing_coins (preparing plan rule) c

            abbrev m : List ℕ
            m = main_coins (preparing plan rule) c

            draws-new : draws_of (preparing plan rule) (matched_joint (preparing plan rule) plan ms xs ys c) ≡ moved xs ys d
            draws-new =
                ap (draws_of Q) (joint-is xs ys c f)
                ∙ draws-at (moved xs ys d) (coins_new xs ys d q) (main_new xs ys d q m) (draws_full xs ys d f.draws).count (coins_full xs ys d q f.coins).count

            coins-new : preparing_coins (preparing plan rule) (matched_joint (preparing plan rule) plan ms xs ys c) ≡ coins_new xs ys d q
            coins-new =
                ap (preparing_coins Q) (joint-is xs ys c f)
                ∙ coins_at_lem (moved xs ys d) (coins_new xs ys d q) (main_new xs ys d q m) (draws_full xs ys d f.draws).count (coins_full xs ys d q f.coins).count

            main-new : main_coins (preparing plan rule) (matched_joint (preparing plan rule) plan ms xs ys c) ≡ main_new xs ys d q m
            main-new =
                ap (main_coins Q) (joint-is xs ys c f)
                ∙ main-at (moved xs ys d) (coins_new xs ys d q) (main_new xs ys d q m) (draws_full xs ys d f.draws).count (coins_full xs ys d q f.coins).count

            held_same : joint_held (preparing plan rule) plan ms (matched_joint (preparing plan rule) plan ms xs ys c) ≡ joint_held (preparing plan rule) plan ms c
            unfolding matched_coins
            held_same =
                map-members ms
                (λ i. own_inputs Q i (draws_of Q (matched_joint Q plan ms xs ys c))
                ++ (own_coins Q i (preparing_coins Q (matched_joint Q plan ms xs ys c)) ++ own_coins plan i (main_coins Q (matched_joint Q plan ms xs ys c))))
                (λ i. own_inputs Q i d ++ (own_coins Q i q ++ own_coins plan i m))
                (λ i k. ap₂ ◌++◌ (ap (own_inputs Q i) draws-new ∙ own-draws xs ys d i k)
                (ap₂ ◌++◌ (ap (own_coins Q i) coins-new ∙ own-kept Q valid_q ms few [] [] d (moved xs ys d) i k q f.coins)
                (ap (own_coins plan i) main-new
                ∙ own-kept plan valid ms few (share_table Q d q []) (share_table Q (moved xs ys d) (coins_new xs ys d q) []) xs ys i k m f.main)))

            seen_same : joint_tables (preparing plan rule) plan ms xs c ≡ joint_tables (preparing plan rule) plan ms ys (matched_joint (preparing plan rule) plan ms xs ys c)
            seen_same =
                views d q m f.draws f.coins f.main
                ∙ ap₂ (λ (x y : List ℕ). flat_map (table_view_of Q x y []) ms ++ flat_map (table_view_of plan ys (main_new xs ys d q m) (share_table Q x y [])) ms) (sym draws-new) (sym coins-new)
                ∙ ap (λ (z : List ℕ). flat_map (table_view_of Q (draws_of Q (matched_joint Q plan ms xs ys c)) (preparing_coins Q (matched_joint Q plan ms xs ys c)) []) ms
                ++ flat_map (table_view_of plan ys z (share_table Q (draws_of Q (matched_joint Q plan ms xs ys c)) (preparing_coins Q (matched_joint Q plan ms xs ys c)) [])) ms) (sym main-new)

          pub jointly : TablesPrivate (preparing plan rule) plan ms xs ys
          jointly = record {
            full = joint-full xs ys;
            keeps = λ c f. held_same c (parts c f);
            one_to_one = λ c e fc fe same. sym (joint-back xs ys c fc) ∙ ap (matched_joint Q plan ms ys xs) same ∙ joint-back xs ys e fe;
            onto = λ e f. (matched_joint Q plan ms ys xs e, joint-full ys xs e f, joint-back ys xs e f);
            same_view = λ c f. seen_same c (parts c f);
          }

-- for any plan that prepares
pub private :
    (plan : Plan) → Valid plan → (prep : Plan) → prepares prep plan ≡ true → (ms : List ℕ) → length ms ≤ plan.t
    → ((i : ℕ) → is_member i ms ≡ true → i ≤ party_count plan) → (xs ys : List ℕ) → Inputs plan xs → Inputs plan ys
    → map (λ i. own_inputs plan i xs) ms ≡ map (λ i. own_inputs plan i ys) ms → map (granted plan xs) ms ≡ map (granted plan ys) ms → TablesPrivate prep plan ms xs ys
private plan valid prep e ms few parties_only xs ys fx fy inputs grants =
    subst (λ (q : Plan). TablesPrivate q plan ms xs ys) (sym (is-preparing prep plan e)) (jointly plan valid prep.rule ms few parties_only xs ys fx fy inputs grants)
