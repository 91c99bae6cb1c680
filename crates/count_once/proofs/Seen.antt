-- What a coalition's view of a run shows of it: the pieces of every gate's dealings at the members' points.
--     pieces-seen     two runs with the same view have the same pieces there
-- Assumes nothing.
use mathlib.Core.Path.{◌≡◌, refl, sym, ap, ap₂, subst, ◌∙◌}
use mathlib.Core.Bool.{Bool, true, false}
use mathlib.Core.List.{List, [], ◌∷◌, ◌++◌, map, flat_map, append-nil, head-eq_of_cons-eq, tail-eq_of_cons-eq, Memᴰ}
use Prim.Native.Nat.{ℕ, zero, suc, ◌+◌, ◌≤◌, ◌<◌}
use native.Mathlib.Omega.{arith}
use borrow.Author.Tests.{ltb-true, ltb-false}
use lib.Dec.{ltb}
use lib.ListN.{length, get_or, length-append, get_or-eq_default}
use Rattle.numbers.specs.Tables.{tab}
use Rattle.sharing_laws.specs.Interp.{All}
use Rattle.plan.specs.declared.Gate.{Gate}
use Rattle.plan.specs.declared.Gate.TheVariants.{Input, Add, Scale, Offset, Multiply, Random, Spend}
use Rattle.plan.specs.declared.Rule.{Rule}
use Rattle.plan.specs.declared.Rule.TheVariants.{Reduction}
use Rattle.plan.specs.declared.Step.{Step}
use Rattle.plan.specs.declared.Step.TheVariants.{DealInputs, DealProduct, DealDraws, SendOuts}
use Rattle.plan.specs.Plans.{Plan, party_count, point_of, kind_of, is_kind, kind_count, dealings_at, own_inputs, own_coins, coin_owners, coin_count, multiply_steps, steps_at, steps, step_at, last_call}
use Rattle.plan.proofs.Counts.{steps-below, step_in, step_first, last-call}
use Rattle.plan.proofs.Valid.{Valid}
use Rattle.seat_messages.specs.Messages.{wires_by_party}
use Rattle.run_protocol.specs.Rounds.{mail_to, after, mails, results, view_of, view, view_count_of, view_count}
use Rattle.run_protocol.specs.Shares.{wire_at, share_table, gate_share, dealt_at, sharings, pieces_at}
use Rattle.run_protocol.specs.Tables.{before_gate, gate_in, table_mail, Tabled}
use Rattle.run_protocol.proofs.Owners.{length-own}
use Rattle.run_protocol.proofs.Table.{table_at}
use Rattle.run_protocol.proofs.Given.{tabled-none}
use Rattle.run_protocol.proofs.Runs.{run-mail}
use Rattle.run_protocol.proofs.Counts.{mail_count_lem}
use Rattle.run_protocol.proofs.StepInputs.{input-wires-in}
use Rattle.run_protocol.proofs.ViewCounts.{view-count}
use Rattle.numbers.specs.Tables as tables

-- ---- lists of the same lengths
split : (a b c d : List ℕ) → length a ≡ length b → a ++ c ≡ b ++ d → (a ≡ b) × (c ≡ d)
split [] [] c d l e = (refl, e)
split [] (y ∷ b) c d l e = absurd (omega arith)
split (x ∷ a) [] c d l e = absurd (omega arith)
split (x ∷ a) (y ∷ b) c d l e =
    let rest = split a b c d (omega arith) (tail-eq_of_cons-eq e) in
    (ap₂ ◌∷◌ (head-eq_of_cons-eq e) rest.0, rest.1)

rows_split : (f g : ℕ → List ℕ) (ws : List ℕ) → ((w : ℕ) → Memᴰ w ws → length (f w) ≡ length (g w)) → flat_map f ws ≡ flat_map g ws → (w : ℕ) → Memᴰ w ws → f w ≡ g w
unfolding flat_map
rows_split f g [] len e w x3 = elim x3 [ ]
rows_split f g (v ∷ ws) len e w (Memᴰ.head s) = rw s (split (f v) (g v) (flat_map f ws) (flat_map g ws) (len v (Memᴰ.head refl)) e).0
rows_split f g (v ∷ ws) len e w (Memᴰ.tail m) =
    rows_split f g ws (λ w m. len w (Memᴰ.tail m)) (split (f v) (g v) (flat_map f ws) (flat_map g ws) (len v (Memᴰ.head refl)) e).1 w m

rows_long : (f g : ℕ → List ℕ) (ws : List ℕ) → ((w : ℕ) → Memᴰ w ws → length (f w) ≡ length (g w)) → length (flat_map f ws) ≡ length (flat_map g ws)
unfolding flat_map
rows_long f g [] len = refl
rows_long f g (v ∷ ws) len =
    length-append (f v) (flat_map f ws) ∙ ap₂ ◌+◌ (len v (Memᴰ.head refl)) (rows_long f g ws (λ w m. len w (Memᴰ.tail m))) ∙ sym (length-append (g v) (flat_map g ws))

map_at : (f g : ℕ → ℕ) (ws : List ℕ) → map f ws ≡ map g ws → (w : ℕ) → Memᴰ w ws → f w ≡ g w
map_at f g [] e w x'' = elim x'' [ ]
map_at f g (v ∷ ws) e w (Memᴰ.head s) = rw s (head-eq_of_cons-eq e)
map_at f g (v ∷ ws) e w (Memᴰ.tail m) = map_at f g ws (tail-eq_of_cons-eq e) w m

all_mem : (P : ℕ → Type 0) (ms : List ℕ) → All P ms → (i : ℕ) → Memᴰ i ms → P i
all_mem P [] a i x'' = elim x'' [ ]
all_mem P (j ∷ ms) a i (Memᴰ.head e) = rw e a.0
all_mem P (j ∷ ms) a i (Memᴰ.tail m) = all_mem P ms a.1 i m

in-tab : (f : ℕ → ℕ) (n k : ℕ) → k < n → Memᴰ (f k) (tab f n)
unfolding tab
in-tab f zero k l = absurd (omega arith)
in-tab f (suc n) zero l = Memᴰ.head refl
in-tab f (suc n) (suc k) l = Memᴰ.tail (in-tab (λ j. f (suc j)) n k (omega arith))

tab_below : (f : ℕ → ℕ) (n w : ℕ) → Memᴰ w (tab f n) → (k : ℕ) × (k < n) × (w ≡ f k)
unfolding tab
tab_below f zero w x' = elim x' [ ]
tab_below f (suc n) w (Memᴰ.head e) = (0, omega arith, e)
tab_below f (suc n) w (Memᴰ.tail m) = let r = tab_below (λ k. f (suc k)) n w m in (suc r.0, omega (arith, r.1), r.2)

module _ (plan : Plan) (valid : Valid plan) (rule : plan.rule ≡ Reduction) (spent : kind_count plan 7 ≡ 0) (ms : List ℕ) (within : All (λ i. (1 ≤ i) × (i ≤ party_count plan)) ms) (xs c d : List ℕ)
    (full : length c ≡ coin_count plan) (full' : length d ≡ coin_count plan) (same : view plan ms xs c [] ≡ view plan ms xs d []) where
  none : Tabled plan [] []
  none = tabled-none plan [] spent

  low : (i : ℕ) → Memᴰ i ms → 1 ≤ i
  low i m = (all_mem (λ i. (1 ≤ i) × (i ≤ party_count plan)) ms within i m).0

  high : (i : ℕ) → Memᴰ i ms → i ≤ party_count plan
  high i m = (all_mem (λ i. (1 ≤ i) × (i ≤ party_count plan)) ms within i m).1

  one_long : (l : List ℕ) → length l ≡ coin_count plan → (i : ℕ) → Memᴰ i ms → length (view_of plan xs l [] i) ≡ view_count_of plan i + 0
  unfolding view flat_map view_count tables.total
  one_long l f i m =
      sym (ap length (append-nil (view_of plan xs l [] i))) ∙ view-count plan valid xs l [] [] f none (i ∷ []) ((low i m, high i m), tt)

  view-same : (i : ℕ) → Memᴰ i ms → view_of plan xs c [] i ≡ view_of plan xs d [] i
  unfolding view
  view-same = rows_split (view_of plan xs c []) (view_of plan xs d []) ms (λ i m. one_long c full i m ∙ sym (one_long d full' i m)) same

  -- the mail of every step
  mail_long : (i : ℕ) → Memᴰ i ms → (k : ℕ) → Memᴰ k (tab (λ k. k) (last_call plan)) → length (mail_to i (after plan xs c [] (suc k))) ≡ length (mail_to i (after plan xs d [] (suc k)))
  mail_long i m k w =
      let r = tab_below (λ k. k) (last_call plan) k w in
      mail_count_lem plan valid xs c [] i (low i m) (high i m) (suc k) (omega (arith, r.1, r.2))
      ∙ sym (mail_count_lem plan valid xs d [] i (low i m) (high i m) (suc k) (omega (arith, r.1, r.2)))

  mails-same : (i : ℕ) → Memᴰ i ms → mails plan xs c [] i ≡ mails plan xs d [] i
  unfolding view_of mails own_coins
  mails-same i m =
      let past-inputs = (split (own_inputs plan i xs) (own_inputs plan i xs) _ _ refl (view-same i m)).1 in
      let past-coins = (split (own_coins plan i c) (own_coins plan i d) _ _ (length-own i (coin_owners plan) c ∙ sym (length-own i (coin_owners plan) d)) past-inputs).1 in
      (split (mails plan xs c [] i) (mails plan xs d [] i) (results plan xs c [] i) (results plan xs d [] i)
      (rows_long (λ k. mail_to i (after plan xs c [] (suc k))) (λ k. mail_to i (after plan xs d [] (suc k))) (tab (λ k. k) (last_call plan)) (mail_long i m)) past-coins).0

  step_same : (i : ℕ) → Memᴰ i ms → (k : ℕ) → k < last_call plan → table_mail plan xs c [] i (step_at plan k) ≡ table_mail plan xs d [] i (step_at plan k)
  unfolding mails
  step_same i m k l =
      sym (run-mail plan valid xs c [] [] full none k l i (low i m) (high i m))
      ∙ rows_split (λ k. mail_to i (after plan xs c [] (suc k))) (λ k. mail_to i (after plan xs d [] (suc k))) (tab (λ k. k) (last_call plan)) (mail_long i m) (mails-same i m) k
      (in-tab (λ k. k) (last_call plan) k l)
      ∙ run-mail plan valid xs d [] [] full' none k l i (low i m) (high i m)

  -- ---- a gate's pieces
  abbrev at : List ℕ → ℕ → Gate → ℕ → List ℕ
  at l g x i = pieces_at plan x (before_gate plan xs l [] g) (point_of plan i)

  first-call : 0 < last_call plan
  first-call = omega (arith, last-call plan)

  input-seen : (g : ℕ) → g < length plan.gates → (s : ℕ) → get_or plan.gates g (Input 0) ≡ Input s → (i : ℕ) → Memᴰ i ms → at c g (Input s) i ≡ at d g (Input s) i
  unfolding table_mail is_kind kind_of gate_share pieces_at dealings_at sharings dealt_at
  input-seen g l s e i m =
      let mail : table_mail plan xs c [] i DealInputs ≡ table_mail plan xs d [] i DealInputs =
      ap (table_mail plan xs c [] i) (sym (step_first plan)) ∙ step_same i m 0 first-call ∙ ap (table_mail plan xs d [] i) (step_first plan) in
      let wire : wire_at (share_table plan xs c []) g (point_of plan i) ≡ wire_at (share_table plan xs d []) g (point_of plan i) =
      map_at (λ w. wire_at (share_table plan xs c []) w (point_of plan i)) (λ w. wire_at (share_table plan xs d []) w (point_of plan i)) (wires_by_party plan) mail g
      (input-wires-in plan valid g l (rw e refl)) in
      let share : (l : List ℕ) → wire_at (share_table plan xs l []) g (point_of plan i) ≡ gate_share plan (Input s) (before_gate plan xs l [] g) (point_of plan i) =
      λ q. ap (λ (f : ℕ → ℕ). f (point_of plan i)) (table_at plan xs q [] g (Input 0) l) ∙ ap (λ (x : Gate). gate_share plan x (before_gate plan xs q [] g) (point_of plan i)) e in
      ap (λ (v : ℕ). v ∷ []) (sym (share c) ∙ wire ∙ share d)

  -- where the gate's one step brings its pieces
  step-seen :
      (g : ℕ) → g < length plan.gates → (x : Gate) (s : Step) → get_or plan.gates g (Input 0) ≡ x → steps_at plan.rule g x ≡ s ∷ [] → (s ≡ SendOuts → ⊥)
      → (i : ℕ) → Memᴰ i ms → ((l : List ℕ) → table_mail plan xs l [] i s ≡ at l g (get_or plan.gates g (Input 0)) i) → at c g x i ≡ at d g x i
  step-seen g l x s e one other i m mail =
      let own : steps_at plan.rule g (get_or plan.gates g (Input 0)) ≡ s ∷ [] = ap (steps_at plan.rule g) e ∙ one in
      let is : step_at plan (suc (steps-below plan g + 0)) ≡ s =
      step_in plan g l 0 (suc (steps-below plan g + 0)) (omega (arith, ap length own)) refl ∙ ap (λ (ss : List Step). get_or ss 0 SendOuts) own in
      let same : table_mail plan xs c [] i s ≡ table_mail plan xs d [] i s =
      ap (table_mail plan xs c [] i) (sym is) ∙ step_same i m (suc (steps-below plan g + 0)) (inside (suc (steps-below plan g + 0)) is (ltb (suc (steps-below plan g + 0)) (last_call plan)) refl)
      ∙ ap (table_mail plan xs d [] i) is in
      subst (λ (y : Gate). at c g y i ≡ at d g y i) e (sym (mail c) ∙ same ∙ mail d)
    where
      inside : (k : ℕ) → step_at plan k ≡ s → (t : Bool) → ltb k (last_call plan) ≡ t → k < last_call plan
      inside k is true q = ltb-true k (last_call plan) q
      inside k is false q = unfold step_at in unfold last_call in
          let out : get_or (steps plan) k SendOuts ≡ SendOuts = get_or-eq_default (steps plan) SendOuts {n = k} (ltb-false k (length (steps plan)) q) in
          absurd (other (sym is ∙ out))

  multiply-seen : (g : ℕ) → g < length plan.gates → (a b : ℕ) → get_or plan.gates g (Input 0) ≡ Multiply a b → (i : ℕ) → Memᴰ i ms → at c g (Multiply a b) i ≡ at d g (Multiply a b) i
  unfolding steps_at multiply_steps table_mail gate_in
  multiply-seen g l a b e i m =
      step-seen g l (Multiply a b) (DealProduct g a b) e (ap (λ (r : Rule). multiply_steps r g a b) rule) (λ q. let z : ◌≡◌ {A = ℕ} 0 1 = cc in absurd (omega arith)) i m (λ l. refl)

  random-seen : (g : ℕ) → g < length plan.gates → get_or plan.gates g (Input 0) ≡ Random → (i : ℕ) → Memᴰ i ms → at c g Random i ≡ at d g Random i
  unfolding steps_at table_mail gate_in
  random-seen g l e i m = step-seen g l Random (DealDraws g) e refl (λ q. let z : ◌≡◌ {A = ℕ} 0 1 = cc in absurd (omega arith)) i m (λ l. refl)

  pub pieces-seen : (g : ℕ) → g < length plan.gates → (i : ℕ) → Memᴰ i ms → at c g (get_or plan.gates g (Input 0)) i ≡ at d g (get_or plan.gates g (Input 0)) i
  unfolding pieces_at dealings_at sharings
  pieces-seen g l i m = by (get_or plan.gates g (Input 0)) refl
    where
      by : (x : Gate) → get_or plan.gates g (Input 0) ≡ x → at c g x i ≡ at d g x i
      by (Input s) e = input-seen g l s e i m
      by (Add a b) e = refl
      by (Scale a b) e = refl
      by (Offset a b) e = refl
      by (Multiply a b) e = multiply-seen g l a b e i m
      by Random e = random-seen g l e i m
      by (Spend a b) e = refl
