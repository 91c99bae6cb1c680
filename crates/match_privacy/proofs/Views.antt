-- In a matched run the members see on the table what they saw in the first one.
--     Start, fresh-runs            two whole runs
--     differ                       every wire changes by the change of its value times delta
--     members-share, all_share     a member's share of every wire, and every share of a wire whose value stays
--     view-same, views_same        a member's view of the table, and the coalition's
--     private                      demand 3 on the table, for a plan without kind 7
-- Assumes nothing.
use mathlib.Core.Path.{◌≡◌, refl, sym, ap, ap₂, ◌∙◌, subst, fun_ext}
use mathlib.Core.Bool.{true}
use mathlib.Core.List.{List, [], ◌∷◌, ◌++◌, map, flat_map, append-nil, head-eq_of_cons-eq, tail-eq_of_cons-eq}
use Prim.Native.Nat.{ℕ, suc, ◌+◌, ◌≤◌}
use native.Mathlib.Omega.{arith}
use lib.ListN.{length, take, drop, get_or, take-append-drop}
use lib.Seq.{drop-drop, get_or-drop}
use Rattle.numbers.specs.Bytes.{all_below}
use Rattle.numbers.specs.Tables.{count_where}
use Rattle.field.proofs.Inverse.{pos}
use Rattle.sharing_laws.specs.Sharing.{opened}
use Rattle.match_privacy.specs.Matching.{is_member, with_coins, matched_at, match_from, matched_with, matched_coins}
use Rattle.sharing_laws.proofs.Alls.{below_canon}
use Rattle.match_privacy.proofs.Members.{flat_map-members, members-map}
use Rattle.sharing_laws.proofs.Openings.{none_shared}
use Rattle.numbers.proofs.Below.{input_below}
use Rattle.sharing_laws.proofs.Lists.{flat_map-append}
use Rattle.sharing_laws.proofs.Steps.{Differ}
use Rattle.plan.specs.declared.Gate.{Gate}
use Rattle.plan.specs.declared.Gate.TheVariants.{Input, Add, Scale, Offset, Multiply, Random, Spend}
use Rattle.plan.specs.declared.Rule.{Rule}
use Rattle.plan.specs.declared.Rule.TheVariants.{Reduction, Truncation}
use Rattle.plan.specs.declared.Step.TheVariants.{DealInputs, SendOuts}
use Rattle.plan.specs.Plans.{Plan, party_count, point_of, kind_of, is_kind, kind_count, out_wires, input_owners, coin_owners, coin_count, own_inputs, own_coins, multiply_steps, steps_at, steps_from, steps}
use Rattle.run_protocol.specs.Ideal.{values, values_from, granted}
use Rattle.seat_messages.specs.Messages.{wires_by_party}
use Rattle.run_protocol.specs.Shares.{Before, wire_at, past, past_all, start_of, triples_taken, share_table}
use Rattle.run_protocol.specs.Tables.{before_gate, gate_in, table_mail, table_results, table_view_of}
use Rattle.run_protocol.specs.Settings.{Inputs, Coins}
use Rattle.match_privacy.specs.Bijections.{Bijection}
use Rattle.plan.proofs.Valid.{Valid}
use Rattle.run_protocol.proofs.Sound.{Wide, wide, RightTriples, no_triples, shared}
use Rattle.match_privacy.proofs.Bijections.{coins_of, past_matched, run-new, full, keeps, own-kept, one_to_one, onto}
use Rattle.match_privacy.proofs.TwoRuns.{Spent, multiply_mail, gate_mail, Runs, mail_same, runs_past, member_same, value_same, none_differ}

-- ---- a gate's steps on the table
module _ (plan : Plan) (xs cs : List ℕ) (ts : List (ℕ → ℕ)) (i : ℕ) where
  multiply-steps :
      (r : Rule) (g a b : ℕ) → gate_in plan g ≡ Multiply a b
      → flat_map (table_mail plan xs cs ts i) (multiply_steps r g a b) ≡ multiply_mail plan r a b (before_gate plan xs cs ts g) (point_of plan i)
  unfolding multiply_steps flat_map table_mail multiply_mail
  multiply-steps Reduction g a b e = rw e
  multiply-steps Truncation g a b e = rw e

  gate-steps :
      (g : ℕ) (x : Gate) → gate_in plan g ≡ x
      → flat_map (table_mail plan xs cs ts i) (steps_at plan.rule g x) ≡ gate_mail plan x (before_gate plan xs cs ts g) (point_of plan i)
  unfolding steps_at flat_map table_mail gate_mail
  gate-steps g (Input s) e = refl
  gate-steps g (Add a b) e = refl
  gate-steps g (Scale a c) e = refl
  gate-steps g (Offset a c) e = refl
  gate-steps g (Multiply a b) e = multiply-steps plan.rule g a b e
  gate-steps g Random e = rw e
  gate-steps g (Spend a b) e = refl

-- where f and g agree, so do h and k
map_along : {A : Type 0} (f g : ℕ → ℕ) (h k : ℕ → A) (ws : List ℕ) → map f ws ≡ map g ws → ((w : ℕ) → f w ≡ g w → h w ≡ k w) → map h ws ≡ map k ws
map_along f g h k [] e step = refl
map_along f g h k (w ∷ ws) e step = ap₂ ◌∷◌ (step w (head-eq_of_cons-eq e)) (map_along f g h k ws (tail-eq_of_cons-eq e) step)

-- two runs: of xs with the coins c and the triples ts, whose values are us; and of ys, ts' and us'
pub record Start (plan : Plan) (ms xs ys c : List ℕ) (ts ts' : List (ℕ → ℕ)) (us us' : List ℕ) : Type 0 where
  pub below : all_below plan.p xs ≡ true
  pub below' : all_below plan.p ys ≡ true
  pub coins : Coins plan c
  pub agree : (i : ℕ) → is_member i ms ≡ true → own_inputs plan i xs ≡ own_inputs plan i ys
  pub triples : RightTriples plan ts us
  pub triples' : RightTriples plan ts' us'
  pub moved : (w : ℕ) → Differ plan.p (map (point_of plan) ms) (wire_at ts w) (wire_at ts' w) (get_or us w 0) (get_or us' w 0)
  pub spent : Spent plan plan.gates [] [] xs ys us us'

module _ (plan : Plan) (valid : Valid plan) (ms : List ℕ) (few : length ms ≤ plan.t)
    (parties_only : (i : ℕ) → is_member i ms ≡ true → i ≤ party_count plan) where
  abbrev p : ℕ
  p = plan.p

  module _ (xs ys c : List ℕ) (ts ts' : List (ℕ → ℕ)) (us us' : List ℕ) (o : Start plan ms xs ys c ts ts' us us') where
    pub fresh-runs : Runs plan valid ms few parties_only plan.gates (start_of xs c ts) (start_of ys [] ts') [] [] us us'
    unfolding start_of wire_at own_inputs input_owners coin_count coin_owners
    fresh-runs = record {
      wires = refl;
      wires' = refl;
      values' = refl;
      first = λ w. none_shared p plan.t;
      second = λ w. none_shared p plan.t;
      differ = λ w. none_differ plan valid ms few parties_only;
      small = input_below p xs (pos valid.prime) o.below;
      small' = input_below p ys (pos valid.prime) o.below';
      agree = o.agree;
      enough = omega (arith, o.coins.count);
      canon = below_canon p c o.coins.small;
      wide = wide plan valid;
      triples = o.triples;
      triples' = o.triples';
      moved = o.moved;
      spent = o.spent;
    }

    -- the matched coins, and the tables of the two runs
    abbrev pub c' : List ℕ
    c' = matched_with plan ms ts ts' xs ys c

    abbrev pub T : List (ℕ → ℕ)
    T = share_table plan xs c ts

    abbrev pub T' : List (ℕ → ℕ)
    T' = share_table plan ys c' ts'

    -- the two runs between the gates gs and hs
    module _ (gs hs : List Gate) (whole : gs ++ hs ≡ plan.gates) where
      abbrev s₁ : Before
      s₁ = past_all plan gs (start_of xs c ts)

      abbrev s₂ : Before
      s₂ = past_matched plan ms gs (start_of xs c ts) (start_of ys [] ts')

      state-at : past_all plan gs (start_of ys c' ts') ≡ with_coins (match_from plan ms hs s₁ s₂) s₂
      unfolding matched_with start_of with_coins
      state-at =
          let r : Runs plan valid ms few parties_only plan.gates (start_of xs c ts) (start_of ys [] ts') [] [] us us' = fresh-runs in
          ap (λ (l : List Gate). past_all plan gs (with_coins (match_from plan ms l (start_of xs c ts) (start_of ys [] ts')) (start_of ys [] ts'))) (sym whole)
          ∙ run-new plan valid ms few gs hs (start_of xs c ts) (start_of ys [] ts')
          (subst (λ (l : List Gate). coins_of plan l ≤ length c) (sym whole) r.enough) r.canon
          (subst (Wide plan) (sym whole) r.wide)

      runs-at :
          (ws : List ℕ) × (ws' : List ℕ)
          × Runs plan valid ms few parties_only hs s₁ s₂ (values_from plan gs [] xs) (values_from plan gs [] ys) ws ws'
      unfolding start_of
      runs-at =
          runs_past plan valid ms few parties_only gs hs (start_of xs c ts) (start_of ys [] ts') [] [] us us'
          (subst (λ (l : List Gate). Runs plan valid ms few parties_only l (start_of xs c ts) (start_of ys [] ts') [] [] us us') (sym whole) fresh-runs)

    -- every wire
    pub differ : (w : ℕ) → Differ p (map (point_of plan) ms) (wire_at T w) (wire_at T' w) (get_or (values plan xs) w 0) (get_or (values plan ys) w 0)
    unfolding share_table values with_coins
    differ w =
        subst (λ (s : Before). Differ p (map (point_of plan) ms) (wire_at T w) (wire_at s.env w) (get_or (values plan xs) w 0) (get_or (values plan ys) w 0))
        (sym (state-at plan.gates [] (append-nil plan.gates))) ((runs-at plan.gates [] (append-nil plan.gates)).2.differ w)

    -- a member's share of every wire is the same
    pub members-share : (w i : ℕ) → is_member i ms ≡ true → wire_at T' w (point_of plan i) ≡ wire_at T w (point_of plan i)
    members-share w i m =
        member_same plan valid ms few parties_only (wire_at T w) (wire_at T' w) (get_or (values plan xs) w 0) (get_or (values plan ys) w 0)
        (shared plan valid xs c ts us o.triples o.below w) (differ w) i m

    -- and every share of a wire whose value stays
    pub all_share : (w : ℕ) → get_or (values plan ys) w 0 ≡ get_or (values plan xs) w 0 → (x : ℕ) → wire_at T' w x ≡ wire_at T w x
    all_share w e x =
        value_same plan valid ms few parties_only (wire_at T w) (wire_at T' w) (get_or (values plan xs) w 0) (get_or (values plan ys) w 0)
        (shared plan valid xs c ts us o.triples o.below w) (differ w) e x

    -- ---- a member's mail
    gate_same :
        (i : ℕ) → is_member i ms ≡ true → (k : ℕ) (x : Gate) (gs : List Gate) → drop k plan.gates ≡ x ∷ gs
        → gate_mail plan x (before_gate plan ys c' ts' k) (point_of plan i) ≡ gate_mail plan x (before_gate plan xs c ts k) (point_of plan i)
    unfolding before_gate match_from
    gate_same i m k x gs e =
        let whole : take k plan.gates ++ (x ∷ gs) ≡ plan.gates = ap (λ (l : List Gate). take k plan.gates ++ l) (sym e) ∙ take-append-drop k plan.gates in
        let s : Before = s₁ (take k plan.gates) (x ∷ gs) whole in
        let s' : Before = s₂ (take k plan.gates) (x ∷ gs) whole in
        let r = runs-at (take k plan.gates) (x ∷ gs) whole in
        ap (λ (q : Before). gate_mail plan x q (point_of plan i)) (state-at (take k plan.gates) (x ∷ gs) whole)
        ∙ mail_same plan valid ms few parties_only x gs s s' (values_from plan (take k plan.gates) [] xs) (values_from plan (take k plan.gates) [] ys) r.0 r.1 r.2
        (match_from plan ms gs (past plan x s) (past plan x (with_coins (matched_at plan ms x s s') s'))) i m

    gate-is : (k : ℕ) (x : Gate) (gs : List Gate) → drop k plan.gates ≡ x ∷ gs → gate_in plan k ≡ x
    unfolding gate_in
    gate-is k x gs e =
        let here : k ≡ k + 0 = omega arith in
        ap (λ (j : ℕ). get_or plan.gates j (Input 0)) here ∙ sym (get_or-drop k plan.gates 0 (Input 0)) ∙ ap (λ (l : List Gate). get_or l 0 (Input 0)) e

    gates-after : (k : ℕ) (x : Gate) (gs : List Gate) → drop k plan.gates ≡ x ∷ gs → drop (suc k) plan.gates ≡ gs
    gates-after k x gs e = let next : suc k ≡ k + 1 = omega arith in ap (λ (j : ℕ). drop j plan.gates) next ∙ sym (drop-drop 1 k plan.gates) ∙ ap (drop 1) e

    steps-same :
        (i : ℕ) → is_member i ms ≡ true → (gs : List Gate) (k : ℕ) → drop k plan.gates ≡ gs
        → flat_map (table_mail plan ys c' ts' i) (steps_from plan.rule k gs) ≡ flat_map (table_mail plan xs c ts i) (steps_from plan.rule k gs)
    unfolding steps_from
    steps-same i m [] k e = flat-nil
      where
        flat-nil : flat_map (table_mail plan ys c' ts' i) [] ≡ flat_map (table_mail plan xs c ts i) []
        flat-nil = unfold flat_map in refl
    steps-same i m (x ∷ gs) k e =
        flat_map-append (table_mail plan ys c' ts' i) (steps_at plan.rule k x) (steps_from plan.rule (suc k) gs)
        ∙ ap₂ ◌++◌
        (gate-steps plan ys c' ts' i k x (gate-is k x gs e) ∙ gate_same i m k x gs e ∙ sym (gate-steps plan xs c ts i k x (gate-is k x gs e)))
        (steps-same i m gs (suc k) (gates-after k x gs e))
        ∙ sym (flat_map-append (table_mail plan xs c ts i) (steps_at plan.rule k x) (steps_from plan.rule (suc k) gs))

    outs_same : (i : ℕ) → granted plan ys i ≡ granted plan xs i → table_mail plan ys c' ts' i SendOuts ≡ table_mail plan xs c ts i SendOuts
    unfolding table_mail granted
    outs_same i e =
        ap (λ (h : ℕ → List ℕ). flat_map h plan.points)
        (fun_ext (λ x. map_along (λ w. get_or (values plan ys) w 0) (λ w. get_or (values plan xs) w 0) (λ w. wire_at T' w x) (λ w. wire_at T w x) (out_wires plan i) e (λ w v. all_share w v x)))

    inputs-same : (i : ℕ) → is_member i ms ≡ true → table_mail plan ys c' ts' i DealInputs ≡ table_mail plan xs c ts i DealInputs
    unfolding table_mail
    inputs-same i m = ap (λ (h : ℕ → ℕ). map h (wires_by_party plan)) (fun_ext (λ w. members-share w i m))

    pub mails-same :
        (i : ℕ) → is_member i ms ≡ true → granted plan ys i ≡ granted plan xs i
        → flat_map (table_mail plan ys c' ts' i) (steps plan) ≡ flat_map (table_mail plan xs c ts i) (steps plan)
    unfolding steps flat_map
    mails-same i m e =
        ap₂ ◌++◌ (inputs-same i m)
        (flat_map-append (table_mail plan ys c' ts' i) (steps_from plan.rule 0 plan.gates) (SendOuts ∷ [])
        ∙ ap₂ ◌++◌ (steps-same i m plan.gates 0 refl) (ap (λ (l : List ℕ). l ++ []) (outs_same i e))
        ∙ sym (flat_map-append (table_mail plan xs c ts i) (steps_from plan.rule 0 plan.gates) (SendOuts ∷ [])))

    results_same : (i : ℕ) → granted plan ys i ≡ granted plan xs i → table_results plan ys c' ts' i ≡ table_results plan xs c ts i
    unfolding table_results granted
    results_same i e =
        map_along (λ w. get_or (values plan ys) w 0) (λ w. get_or (values plan xs) w 0)
        (λ w. opened p plan.t plan.points (map (wire_at T' w) plan.points))
        (λ w. opened p plan.t plan.points (map (wire_at T w) plan.points)) (out_wires plan i) e
        (λ w v. ap (λ (h : ℕ → ℕ). opened p plan.t plan.points (map h plan.points)) (fun_ext (all_share w v)))

    -- ---- a member's view
    pub view-same : (i : ℕ) → is_member i ms ≡ true → granted plan xs i ≡ granted plan ys i → table_view_of plan xs c ts i ≡ table_view_of plan ys c' ts' i
    unfolding table_view_of
    view-same i m e =
        ap₂ ◌++◌ (o.agree i m)
        (ap₂ ◌++◌ (sym (own-kept plan valid ms few ts ts' xs ys i m c o.coins))
        (ap₂ ◌++◌ (sym (mails-same i m (sym e))) (sym (results_same i (sym e)))))

    pub views_same : map (granted plan xs) ms ≡ map (granted plan ys) ms → flat_map (table_view_of plan xs c ts) ms ≡ flat_map (table_view_of plan ys c' ts') ms
    views_same grants =
        flat_map-members ms (table_view_of plan xs c ts) (table_view_of plan ys c' ts') (λ i m. view-same i m (members-map ms (granted plan xs) (granted plan ys) grants i m))

-- ---- a plan without kind 7
none_spent :
    (plan : Plan) (gs : List Gate) (vals vals' xs ys : List ℕ) → count_where (is_kind 7) gs ≡ 0 → Spent plan gs vals vals' xs ys [] []
unfolding count_where is_kind kind_of triples_taken
none_spent plan [] vals vals' xs ys e = tt
none_spent plan (Input i ∷ gs) vals vals' xs ys e = (tt, none_spent plan gs _ _ _ _ e)
none_spent plan (Add a b ∷ gs) vals vals' xs ys e = (tt, none_spent plan gs _ _ _ _ e)
none_spent plan (Scale a c ∷ gs) vals vals' xs ys e = (tt, none_spent plan gs _ _ _ _ e)
none_spent plan (Offset a c ∷ gs) vals vals' xs ys e = (tt, none_spent plan gs _ _ _ _ e)
none_spent plan (Multiply a b ∷ gs) vals vals' xs ys e = (tt, none_spent plan gs _ _ _ _ e)
none_spent plan (Random ∷ gs) vals vals' xs ys e = (tt, none_spent plan gs _ _ _ _ e)
none_spent plan (Spend a b ∷ gs) vals vals' xs ys e = absurd (omega arith)

module _ (plan : Plan) (valid : Valid plan) (ms : List ℕ) (few : length ms ≤ plan.t)
    (parties_only : (i : ℕ) → is_member i ms ≡ true → i ≤ party_count plan) where
  pub alone_start :
      (xs ys c : List ℕ) → kind_count plan 7 ≡ 0 → all_below plan.p xs ≡ true → all_below plan.p ys ≡ true → Coins plan c
      → map (λ i. own_inputs plan i xs) ms ≡ map (λ i. own_inputs plan i ys) ms → Start plan ms xs ys c [] [] [] []
  unfolding wire_at kind_count
  alone_start xs ys c none below below' coins inputs = record {
    below = below;
    below' = below';
    coins = coins;
    agree = members-map ms (λ i. own_inputs plan i xs) (λ i. own_inputs plan i ys) inputs;
    triples = no_triples plan;
    triples' = no_triples plan;
    moved = λ w. none_differ plan valid ms few parties_only;
    spent = none_spent plan plan.gates [] [] xs ys none;
  }

  pub private :
      (xs ys : List ℕ) → kind_count plan 7 ≡ 0 → Inputs plan xs → Inputs plan ys
      → map (λ i. own_inputs plan i xs) ms ≡ map (λ i. own_inputs plan i ys) ms → map (granted plan xs) ms ≡ map (granted plan ys) ms
      → Bijection plan.p (coin_count plan) (matched_coins plan ms xs ys) (λ c. map (λ i. own_coins plan i c) ms)
      (λ c. flat_map (table_view_of plan xs c []) ms) (λ c. flat_map (table_view_of plan ys c []) ms)
  unfolding matched_coins
  private xs ys none fx fy inputs grants = record {
    full = full plan valid ms few [] [] xs ys;
    keeps = keeps plan valid ms few [] [] xs ys;
    one_to_one = one_to_one plan valid ms few [] [] xs ys;
    onto = onto plan valid ms few [] [] xs ys;
    same_view =
        λ c f. views_same plan valid ms few parties_only xs ys c [] [] [] [] (alone_start xs ys c none fx.small fy.small f inputs) grants;
  }
