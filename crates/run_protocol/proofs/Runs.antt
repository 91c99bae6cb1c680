-- The run is the table: every party's state, triples and mail, for every kind of step, by the induction over steps.
--     steps-ruled                       a multiply's steps are those of the plan's rule
--     laws                              each step sends the table's mail, and brings each party to the next step
--     run-calls, run_call, run-state, run-triples, run-mail, run_holds     each call of the run, its mail, and what a party holds when it sends a step
--     known-end, spent                  after the last call all wires are known, and all triples are spent
--     results-table, mails-table, view-table, views-table     results, mail and views
-- Assumes nothing.
use mathlib.Core.Path.{◌≡◌, refl, sym, ap, ap₂, subst, ◌∙◌}
use mathlib.Core.List.{List, [], ◌∷◌, ◌++◌, map, flat_map, append_assoc, map-map}
use Prim.Native.Nat.{ℕ, zero, suc, ◌-◌, ◌<◌, ◌≤◌}
use native.Mathlib.Omega.{arith}
use borrow.Author.Tests.{eq-eqb}
use lib.ListN.{length, get_or, take, drop, replicate, length-append, length-replicate}
use lib.Seq.{drop-length, get_or-append_seam, ext_get_or}
use Rattle.numbers.specs.Tables.{tab, count_where}
use Rattle.numbers.proofs.Tables.{tab-ext, tab-map, list-tab}
use Rattle.numbers.proofs.Counts.{count_where-take_all}
use Rattle.sharing_laws.specs.Interp.{All}
use Rattle.sharing_laws.specs.Sharing.{opened}
use Rattle.seat_messages.specs.Messages.{set_all, from_each, Called, opened_at, learnt, resume_at, learn_from, spend_from, call_with, work_from}
use Rattle.sharing_laws.proofs.Lists.{map-all, flat_map-all, all-every, all_map, length-map, get_or-map-in}
use Rattle.plan.specs.declared.Gate.{Gate}
use Rattle.plan.specs.declared.Gate.TheVariants.{Input, Add, Scale, Offset, Multiply, Random, Spend}
use Rattle.plan.specs.declared.Rule.{Rule}
use Rattle.plan.specs.declared.Rule.TheVariants.{Reduction, Truncation}
use Rattle.plan.specs.declared.Step.{Step}
use Rattle.plan.specs.declared.Step.TheVariants.{DealInputs, DealProduct, DealZero, DealMasked, SendTruncated, DealDraws, OpenSpent, SendOuts}
use Rattle.plan.proofs.Parties.{at-party, each-party}
use Rattle.plan.specs.Plans.{Plan, party_count, parties, point_of, dealer_count, kind_of, is_kind, out_wires, own_out_count, coin_count, own_inputs, own_coins, own_triples, triple_numbers, triple_at, kind_count, multiply_steps, steps_at, steps_from, steps, step_at, last_call, multiplying}
use Rattle.run_protocol.specs.Rounds.{call_of, no_call, mail_to, after, at_end, results, mails, view_of, view}
use Rattle.run_protocol.specs.Shares.{wire_at, share_table}
use Rattle.run_protocol.specs.Tables.{table_mail, table_results, table_view_of, Tabled}
use Rattle.run_protocol.proofs.Following.{frontier, Is, Fits, steps_follow}
use Rattle.run_protocol.proofs.Induction.{Laws, taken, shares_at, triples_at, called, holds, calls_are, mail-is}
use Rattle.plan.proofs.Valid.{Valid}
use Rattle.run_protocol.proofs.Table.{length-table}
use Rattle.run_protocol.proofs.Known.{fresh_known, right_at, Left, none_spent, get_or_zeros}
use Rattle.run_protocol.proofs.Expected.{Done, Holds, Sends, Learns, holds_next, column}
use Rattle.run_protocol.proofs.StepInputs.{sends-inputs, learns-inputs}
use Rattle.run_protocol.proofs.StepReduction.{sends-product, learns-product}
use Rattle.run_protocol.proofs.StepTruncation.{sends-zero, learns-zero, sends-masked, learns-masked, sends-truncated, learns-truncated}
use Rattle.run_protocol.proofs.StepRandom.{sends-draws, learns-draws}
use Rattle.run_protocol.proofs.StepSpend.{sends-spent, learns-spent}
use Rattle.run_protocol.proofs.StepOuts.{sends-outs, learns-outs}

-- ---- a multiply's steps are those of the plan's rule
abbrev pub Ruled : Plan → Step → Type 0
Ruled plan DealInputs = Unit
Ruled plan (DealProduct g a b) = plan.rule ≡ Reduction
Ruled plan (DealZero g) = plan.rule ≡ Truncation
Ruled plan (DealMasked g a b) = plan.rule ≡ Truncation
Ruled plan (SendTruncated g) = plan.rule ≡ Truncation
Ruled plan (DealDraws g) = Unit
Ruled plan (OpenSpent g a b) = Unit
Ruled plan SendOuts = Unit

abbrev AllRuled : Plan → List Step → Type 0
AllRuled plan [] = Unit
AllRuled plan (s ∷ ss) = Ruled plan s × AllRuled plan ss

module _ (plan : Plan) where
  multiply-ruled : (rule : Rule) (g a b : ℕ) (ss : List Step) → plan.rule ≡ rule → AllRuled plan ss → AllRuled plan (multiply_steps rule g a b ++ ss)
  unfolding multiply_steps
  multiply-ruled Reduction g a b ss e h = (e, h)
  multiply-ruled Truncation g a b ss e h = (e, (e, (e, h)))

  all-ruled : (g : ℕ) (gs : List Gate) → AllRuled plan (steps_from plan.rule g gs ++ (SendOuts ∷ []))
  unfolding steps_from steps_at
  all-ruled g [] = (tt, tt)
  all-ruled g (Input s ∷ gs) = all-ruled (suc g) gs
  all-ruled g (Add a b ∷ gs) = all-ruled (suc g) gs
  all-ruled g (Scale a c ∷ gs) = all-ruled (suc g) gs
  all-ruled g (Offset a c ∷ gs) = all-ruled (suc g) gs
  all-ruled g (Multiply a b ∷ gs) =
      subst (AllRuled plan) (sym (append_assoc (multiply_steps plan.rule g a b) (steps_from plan.rule (suc g) gs) (SendOuts ∷ [])))
      (multiply-ruled plan.rule g a b (steps_from plan.rule (suc g) gs ++ (SendOuts ∷ [])) refl (all-ruled (suc g) gs))
  all-ruled g (Random ∷ gs) = (tt, all-ruled (suc g) gs)
  all-ruled g (Spend a b ∷ gs) = (tt, all-ruled (suc g) gs)

  ruled-at : (ss : List Step) → AllRuled plan ss → (k : ℕ) → Ruled plan (get_or ss k SendOuts)
  ruled-at [] h k = tt
  ruled-at (s ∷ ss) h zero = h.0
  ruled-at (s ∷ ss) h (suc k) = ruled-at ss h.1 k

  pub steps-ruled : (k : ℕ) → Ruled plan (step_at plan k)
  unfolding step_at steps
  steps-ruled k = ruled-at (steps plan) (tt, all-ruled 0 plan.gates) k

  -- the last step
  pub last_step : (m : ℕ) × (last_call plan ≡ suc m) × (step_at plan m ≡ SendOuts)
  unfolding last_call step_at steps
  last_step =
      let ss : List Step = steps_from plan.rule 0 plan.gates in
      (suc (length ss), omega (arith, length-append ss (SendOuts ∷ [])), get_or-append_seam ss SendOuts [] SendOuts)

-- ---- the laws of all steps
module _ (plan : Plan) (valid : Valid plan) (xs cs ts : List ℕ) (tf : List (ℕ → ℕ)) (full : length cs ≡ coin_count plan) (tabled : Tabled plan ts tf) where
  dealers_few : (g a b : ℕ) → Is plan g (Multiply a b) → dealer_count plan ≤ party_count plan
  unfolding dealer_count multiplying is_kind kind_of
  dealers_few g a b is = omega (arith, valid.majority g is.0 (ap multiplying is.1))

  sends_step : (r s : Step) → Fits plan r s → Ruled plan s → (taken : ℕ → List ℕ)
      → ((j : ℕ) → 1 ≤ j → j ≤ party_count plan → taken j ≡ table_mail plan xs cs tf j r) → Sends plan xs cs ts tf s taken
  sends_step r DealInputs fits ruled taken mail = sends-inputs plan valid xs cs ts tf full taken
  sends_step r (DealProduct g a b) fits ruled taken mail = sends-product plan valid xs cs ts tf g a b fits ruled (dealers_few g a b fits) full taken
  sends_step r (DealZero g) fits ruled taken mail = sends-zero plan valid xs cs ts tf g fits.0 fits.1 fits.2 ruled full taken
  sends_step r (DealMasked g a b) fits ruled taken mail =
      sends-masked plan valid xs cs ts tf g a b fits.0 ruled full taken (λ j l m. mail j l m ∙ ap (table_mail plan xs cs tf j) fits.1)
  sends_step r (SendTruncated g) fits ruled taken mail =
      sends-truncated plan valid xs cs ts tf g fits.0 fits.1 fits.2 ruled taken (λ j l m. mail j l m ∙ ap (table_mail plan xs cs tf j) fits.3)
  sends_step r (DealDraws g) fits ruled taken mail = sends-draws plan valid xs cs ts tf g fits full taken
  sends_step r (OpenSpent g a b) fits ruled taken mail = sends-spent plan valid xs cs ts tf tabled g a b fits taken
  sends_step r SendOuts fits ruled taken mail = sends-outs plan valid xs cs ts tf taken

  learns-step : (r s : Step) → Fits plan r s → Ruled plan s → Learns plan xs cs ts tf s
  learns-step r DealInputs fits ruled = learns-inputs plan valid xs cs ts tf
  learns-step r (DealProduct g a b) fits ruled = learns-product plan valid xs cs ts tf g a b fits ruled
  learns-step r (DealZero g) fits ruled = learns-zero plan valid xs cs ts tf g fits.0 fits.1 fits.2 ruled
  learns-step r (DealMasked g a b) fits ruled = learns-masked plan valid xs cs ts tf g a b fits.0 ruled
  learns-step r (SendTruncated g) fits ruled = learns-truncated plan valid xs cs ts tf g fits.0 fits.1 fits.2 ruled
  learns-step r (DealDraws g) fits ruled = learns-draws plan valid xs cs ts tf g fits
  learns-step r (OpenSpent g a b) fits ruled = learns-spent plan valid xs cs ts tf tabled g a b fits
  learns-step r SendOuts fits ruled = learns-outs plan valid xs cs ts tf

  learns-at : (k : ℕ) → k < last_call plan → Learns plan xs cs ts tf (step_at plan k)
  unfolding step_at steps
  learns-at zero l = learns-inputs plan valid xs cs ts tf
  learns-at (suc k) l = learns-step (step_at plan k) (step_at plan (suc k)) (steps_follow plan k l).fits (steps-ruled plan (suc k))

  abbrev mail : ℕ → Step → List ℕ
  mail i s = table_mail plan xs cs tf i s

  abbrev Has : ℕ → Step → List ℕ → List ℕ → Type 0
  Has i s shares triples = Holds plan xs cs ts tf i s shares triples

  sends-at : (k : ℕ) → k < last_call plan → Sends plan xs cs ts tf (step_at plan k) (taken plan xs cs ts mail Has k)
  unfolding step_at steps taken
  sends-at zero l = sends-inputs plan valid xs cs ts tf full (taken plan xs cs ts mail Has 0)
  sends-at (suc k) l =
      sends_step (step_at plan k) (step_at plan (suc k)) (steps_follow plan k l).fits (steps-ruled plan (suc k)) (taken plan xs cs ts mail Has (suc k)) (λ j m n. refl)

  pub laws : Laws plan xs cs ts (λ i s. table_mail plan xs cs tf i s) (λ i s shares triples. Holds plan xs cs ts tf i s shares triples)
  unfolding frontier triple_at count_where
  laws = record {
    first = λ i from1 upto. record { known = fresh_known plan.gates (right_at plan xs cs tf (point_of plan i)); left = none_spent (own_triples plan i ts) };
    sends = λ k l shares triples h i from1 upto. sends-at k l shares triples h i from1 upto;
    learns =
        λ k l i from1 upto shares triples h.
        holds_next plan xs cs ts tf valid (step_at plan k) (step_at plan (suc k)) (steps_follow plan k l) (learns-at k (omega arith)) i from1 upto shares triples h;
  }

  -- ---- the run
  -- what party i's call number k leaves
  unfoldable pub call_is : ℕ → ℕ → Called
  call_is k i = called plan xs cs ts mail Has k i

  -- the shares and the triples with which it sends
  unfoldable pub shares_is : ℕ → ℕ → List ℕ
  shares_is k i = shares_at plan xs cs ts mail Has k i

  unfoldable pub triples_is : ℕ → ℕ → List ℕ
  triples_is k i = triples_at plan xs cs ts mail Has k i

  pub run-calls : (k : ℕ) → k ≤ last_call plan → after plan xs cs ts (suc k) ≡ map (call_is k) (parties plan)
  unfolding call_is
  run-calls k l = calls_are plan xs cs ts mail Has laws k l

  pub run_call : (k : ℕ) → k ≤ last_call plan → (i : ℕ) → 1 ≤ i → i ≤ party_count plan → call_of i (after plan xs cs ts (suc k)) ≡ call_is k i
  unfolding call_of call_is
  run_call k l i from1 upto = ap (λ (c : List Called). get_or c (i - 1) no_call) (calls_are plan xs cs ts mail Has laws k l) ∙ at-party plan i from1 upto (called plan xs cs ts mail Has k) no_call

  pub run-state : (k : ℕ) → k ≤ last_call plan → (i : ℕ) → 1 ≤ i → i ≤ party_count plan → (call_of i (after plan xs cs ts (suc k))).state ≡ suc k ∷ shares_is k i
  unfolding call_is called call_with shares_is
  run-state k l i from1 upto = ap (λ (c : Called). c.state) (run_call k l i from1 upto)

  pub run-triples : (k : ℕ) → k ≤ last_call plan → (i : ℕ) → 1 ≤ i → i ≤ party_count plan → (call_of i (after plan xs cs ts (suc k))).triples ≡ triples_is k i
  unfolding call_is called call_with triples_is
  run-triples k l i from1 upto = ap (λ (c : Called). c.triples) (run_call k l i from1 upto)

  pub run-mail : (k : ℕ) → k < last_call plan → (i : ℕ) → 1 ≤ i → i ≤ party_count plan → mail_to i (after plan xs cs ts (suc k)) ≡ table_mail plan xs cs tf i (step_at plan k)
  run-mail k l i from1 upto = mail-is plan xs cs ts mail Has laws k l i from1 upto

  -- what a party holds when it sends a step
  pub run_holds : (k : ℕ) → k < last_call plan → (i : ℕ) → 1 ≤ i → i ≤ party_count plan → Holds plan xs cs ts tf i (step_at plan k) (shares_is k i) (triples_is k i)
  unfolding shares_is triples_is
  run_holds k l i from1 upto = holds plan xs cs ts mail Has laws k l i from1 upto

  -- after the last call
  outs-keep : (i : ℕ) (shares triples : List ℕ) → Holds plan xs cs ts tf i SendOuts shares triples
      → Done plan xs cs ts tf i Unit (length plan.gates) (learn_from plan SendOuts triples shares (table_mail plan xs cs tf i SendOuts)) (spend_from plan SendOuts triples)
  unfolding learn_from learnt resume_at spend_from set_all work_from frontier
  outs-keep i shares triples h = rw (drop-length plan.gates) h

  end_by : (m : ℕ) → last_call plan ≡ suc m → step_at plan m ≡ SendOuts → (i : ℕ) → 1 ≤ i → i ≤ party_count plan
      → Done plan xs cs ts tf i Unit (length plan.gates) (shares_is (suc m) i) (triples_is (suc m) i)
  unfolding shares_is triples_is shares_at triples_at
  end_by m e q i from1 upto =
      rw q (outs-keep i (shares_is m i) (triples_is m i) (subst (λ (s : Step). Holds plan xs cs ts tf i s (shares_is m i) (triples_is m i)) q (run_holds m (omega arith) i from1 upto)))

  pub known-end : (i : ℕ) → 1 ≤ i → i ≤ party_count plan → Done plan xs cs ts tf i Unit (length plan.gates) (shares_is (last_call plan) i) (triples_is (last_call plan) i)
  known-end i from1 upto =
      let m = last_step plan in
      rw m.1 (end_by m.0 m.1 m.2 i from1 upto)

  -- every triple is spent
  all_spent : (i : ℕ) → 1 ≤ i → i ≤ party_count plan → triples_is (last_call plan) i ≡ replicate (triple_numbers plan) 0
  unfolding triple_at triple_numbers kind_count
  all_spent i from1 upto =
      let left : Left (own_triples plan i ts) (triple_at plan (length plan.gates)) (triples_is (last_call plan) i) = (known-end i from1 upto).left in
      let size : length (triples_is (last_call plan) i) ≡ triple_numbers plan = left.size ∙ tabled.size i from1 upto in
      let all : count_where (is_kind 7) (take (length plan.gates) plan.gates) ≡ count_where (is_kind 7) plan.gates = count_where-take_all (is_kind 7) plan.gates (length plan.gates) (omega arith) in
      ext_get_or 0 (triples_is (last_call plan) i) (replicate (triple_numbers plan) 0) (size ∙ sym (length-replicate {A = ℕ} (triple_numbers plan) 0))
      (λ j l. left.spent j (omega (arith, size, all)) ∙ sym (get_or_zeros (triple_numbers plan) j))

  pub spent : map (λ c. c.triples) (at_end plan xs cs ts) ≡ map (λ i. replicate (triple_numbers plan) 0) (parties plan)
  unfolding at_end called call_with triples_is
  spent =
      ap (map (λ c. c.triples)) (calls_are plan xs cs ts mail Has laws (last_call plan) (omega arith))
      ∙ map-map (λ c. c.triples) (called plan xs cs ts mail Has (last_call plan)) (parties plan)
      ∙ map-all (λ i. triples_is (last_call plan) i) (λ i. replicate (triple_numbers plan) 0) (parties plan)
      (each-party plan (λ i. triples_is (last_call plan) i ≡ replicate (triple_numbers plan) 0) all_spent)

  -- ---- results
  -- the shares of the party's out number r, in the table's mail of outs
  pub shares-of-out : (i r : ℕ) → r < own_out_count plan i
      → from_each (party_count plan) (own_out_count plan i) r (table_mail plan xs cs tf i SendOuts) ≡ map (wire_at (share_table plan xs cs tf) (get_or (out_wires plan i) r 0)) plan.points
  unfolding table_mail own_out_count
  shares-of-out i r l =
      column plan (λ x. map (λ w. wire_at (share_table plan xs cs tf) w x) (out_wires plan i)) (length (out_wires plan i)) r (λ x. length-map (λ w. wire_at (share_table plan xs cs tf) w x) (out_wires plan i)) l
      ∙ map-all (λ x. get_or (map (λ w. wire_at (share_table plan xs cs tf) w x) (out_wires plan i)) r 0) (wire_at (share_table plan xs cs tf) (get_or (out_wires plan i) r 0)) plan.points
      (all-every (λ x. get_or (map (λ w. wire_at (share_table plan xs cs tf) w x) (out_wires plan i)) r 0 ≡ wire_at (share_table plan xs cs tf) (get_or (out_wires plan i) r 0) x) plan.points
      (λ x. get_or-map-in (λ w. wire_at (share_table plan xs cs tf) w x) (out_wires plan i) r 0 0 l))

  tab-entries : (h : ℕ → ℕ) (l : List ℕ) → tab (λ k. h (get_or l k 0)) (length l) ≡ map h l
  tab-entries h l = sym (tab-map h (λ k. get_or l k 0) (length l)) ∙ ap (map h) (sym (list-tab l 0))

  opened-outs : (i : ℕ) → tab (λ r. opened_at plan (own_out_count plan i) r (table_mail plan xs cs tf i SendOuts)) (own_out_count plan i) ≡ table_results plan xs cs tf i
  unfolding opened_at table_results own_out_count
  opened-outs i =
      let result : ℕ → ℕ = λ w. opened plan.p plan.t plan.points (map (wire_at (share_table plan xs cs tf) w) plan.points) in
      tab-ext (λ r. opened_at plan (own_out_count plan i) r (table_mail plan xs cs tf i SendOuts)) (λ r. result (get_or (out_wires plan i) r 0)) (length (out_wires plan i))
      (λ r l. ap (opened plan.p plan.t plan.points) (shares-of-out i r l))
      ∙ tab-entries result (out_wires plan i)

  taken-last : (i : ℕ) → taken plan xs cs ts mail Has (last_call plan) i ≡ table_mail plan xs cs tf i SendOuts
  unfolding taken
  taken-last i = let m = last_step plan in rw m.1 (ap (table_mail plan xs cs tf i) m.2)

  -- each party's results are opened from the table's shares
  pub results-table : (i : ℕ) → 1 ≤ i → i ≤ party_count plan → results plan xs cs ts i ≡ table_results plan xs cs tf i
  unfolding results at_end call_is called call_with
  results-table i from1 upto =
      ap (λ (c : Called). c.results) (run_call (last_call plan) (omega arith) i from1 upto)
      ∙ rw (eq-eqb (last_call plan) (last_call plan) refl, taken-last i) (opened-outs i)

  -- ---- mail and views
  pub steps-tab : steps plan ≡ tab (step_at plan) (last_call plan)
  unfolding step_at last_call
  steps-tab = list-tab (steps plan) SendOuts

  flat-tabs : (g : ℕ → List ℕ) (h : Step → List ℕ) (u : ℕ → ℕ) (v : ℕ → Step) (n : ℕ) → ((k : ℕ) → k < n → g (u k) ≡ h (v k)) → flat_map g (tab u n) ≡ flat_map h (tab v n)
  unfolding flat_map tab
  flat-tabs g h u v zero e = refl
  flat-tabs g h u v (suc n) e = ap₂ (λ (x l : List ℕ). x ++ l) (e 0 (omega arith)) (flat-tabs g h (λ k. u (suc k)) (λ k. v (suc k)) n (λ k l. e (suc k) (omega arith)))

  -- all mail to a party
  pub mails-table : (i : ℕ) → 1 ≤ i → i ≤ party_count plan → mails plan xs cs ts i ≡ flat_map (table_mail plan xs cs tf i) (steps plan)
  unfolding mails
  mails-table i from1 upto =
      flat-tabs (λ k. mail_to i (after plan xs cs ts (suc k))) (table_mail plan xs cs tf i) (λ k. k) (step_at plan) (last_call plan) (λ k l. run-mail k l i from1 upto)
      ∙ ap (flat_map (table_mail plan xs cs tf i)) (sym steps-tab)

  pub view-table : (i : ℕ) → 1 ≤ i → i ≤ party_count plan → view_of plan xs cs ts i ≡ table_view_of plan xs cs tf i
  unfolding view_of table_view_of
  view-table i from1 upto = ap₂ (λ (u v : List ℕ). own_inputs plan i xs ++ (own_coins plan i cs ++ (u ++ v))) (mails-table i from1 upto) (results-table i from1 upto)

  -- a coalition's view
  pub views-table : (ms : List ℕ) → All (λ i. (1 ≤ i) × (i ≤ party_count plan)) ms → view plan ms xs cs ts ≡ flat_map (table_view_of plan xs cs tf) ms
  unfolding view
  views-table ms a =
      flat_map-all (view_of plan xs cs ts) (table_view_of plan xs cs tf) ms
      (all_map (λ i. (1 ≤ i) × (i ≤ party_count plan)) (λ i. view_of plan xs cs ts i ≡ table_view_of plan xs cs tf i) ms (λ i h. view-table i h.0 h.1) a)

  -- the triples that a preparing run leaves: all its wires
  pub triples-table : (i : ℕ) → 1 ≤ i → i ≤ party_count plan → drop 1 (call_of i (at_end plan xs cs ts)).state ≡ map (λ f. f (point_of plan i)) (share_table plan xs cs tf)
  unfolding at_end right_at wire_at
  triples-table i from1 upto =
      let k = (known-end i from1 upto).known in
      ap (drop 1) (run-state (last_call plan) (omega arith) i from1 upto)
      ∙ ext_get_or 0 (shares_is (last_call plan) i) (map (λ f. f (point_of plan i)) (share_table plan xs cs tf))
      (k.size ∙ sym (length-map (λ f. f (point_of plan i)) (share_table plan xs cs tf) ∙ length-table plan xs cs tf))
      (λ w l.
      let h : w < length plan.gates = omega (arith, k.size) in
      k.below w h h ∙ sym (get_or-map-in (λ f. f (point_of plan i)) (share_table plan xs cs tf) w (λ x. 0) 0 (omega (arith, length-table plan xs cs tf))))
