-- The step DealInputs: every party's shares of all inputs.
--     sends-inputs, learns-inputs      its two laws
--     input-wires-in                   every input wire is in its mail
-- Assumes nothing.
use mathlib.Core.Path.{◌≡◌, refl, sym, ap, ap₂, subst, ◌∙◌}
use mathlib.Core.Bool.{Bool, true, false, cond}
use mathlib.Core.List.{List, [], ◌∷◌, map, map-map, Memᴰ}
use Prim.Native.Nat.{ℕ, zero, suc, ◌+◌, ◌-◌, ◌<◌, ◌≤◌}
use native.Mathlib.Omega.{arith}
use borrow.Author.Tests.{eqb-true, eq-eqb, leb-true}
use lib.Dec.{leb}
use lib.ListN.{length, get_or}
use Rattle.numbers.proofs.Truth.{both_true}
use Rattle.sharing_laws.specs.Poly.{eval}
use Rattle.sharing_laws.specs.Interp.{All}
use Rattle.plan.specs.File.{between, gate_ok}
use Rattle.sharing_laws.proofs.Lists.{map-all, flat_map-all, map-flat_map, all-cond, in-tab, in-flat_map}
use Rattle.plan.specs.declared.Gate.{Gate}
use Rattle.plan.specs.declared.Gate.TheVariants.{Input, Add, Scale, Offset, Multiply, Random, Spend}
use Rattle.plan.specs.declared.Step.TheVariants.{DealInputs}
use Rattle.plan.proofs.Parties.{each-party}
use Rattle.plan.specs.Plans.{Plan, party_count, parties, point_of, kind_of, is_kind, operands_of, is_input_of, wires_from, input_wires, coin_count, own_inputs, own_coins, input_at, coins_at}
use Rattle.seat_messages.specs.Messages.{wires_by_party, learnt, resume_at, spend_from, send_at}
use Rattle.run_protocol.specs.Shares.{wire_at, gate_share, share_table}
use Rattle.run_protocol.specs.Tables.{table_mail}
use Rattle.run_protocol.proofs.Following.{frontier, Is}
use Rattle.plan.proofs.Valid.{Valid}
use Rattle.run_protocol.proofs.Known.{start_known, right_at, table_gate}
use Rattle.run_protocol.proofs.Dealt.{input_coins, input-figure}
use Rattle.run_protocol.proofs.Expected.{Sends, Learns, dealt_to}

-- ---- the wires whose gates pass a test
module _ (f : Gate → Bool) where
  pub wires-all : (P : ℕ → Type 0) (g : ℕ) (gs : List Gate) → ((k : ℕ) → k < length gs → f (get_or gs k (Input 0)) ≡ true → P (g + k)) → All P (wires_from f g gs)
  unfolding wires_from
  wires-all P g [] h = tt
  wires-all P g (x ∷ gs) h =
      all-cond P (f x) g (wires_from f (suc g) gs)
      (λ e. let q : g + 0 ≡ g = omega arith in subst P q (h 0 (omega arith) e))
      (wires-all P (suc g) gs (λ k l e. let q : g + suc k ≡ suc g + k = omega arith in subst P q (h (suc k) (omega arith) e)))

  wires-in-by : (b : Bool) (g w : ℕ) (ws : List ℕ) → Memᴰ w ws → Memᴰ w (cond b (g ∷ ws) ws)
  wires-in-by true g w ws m = Memᴰ.tail m
  wires-in-by false g w ws m = m

  pub wires-in : (g : ℕ) (gs : List Gate) (k : ℕ) → k < length gs → f (get_or gs k (Input 0)) ≡ true → Memᴰ (g + k) (wires_from f g gs)
  unfolding wires_from
  wires-in g [] k l e = absurd (omega arith)
  wires-in g (x ∷ gs) zero l e = let q : g + 0 ≡ g = omega arith in rw e (Memᴰ.head q)
  wires-in g (x ∷ gs) (suc k) l e =
      let q : suc g + k ≡ g + suc k = omega arith in
      wires-in-by (f x) g (g + suc k) (wires_from f (suc g) gs) (subst (λ (m : ℕ). Memᴰ m (wires_from f (suc g) gs)) q (wires-in (suc g) gs k (omega arith) e))

is_input_of_lem : (i : ℕ) (x : Gate) → is_input_of i x ≡ true → x ≡ Input i
unfolding is_input_of is_kind kind_of operands_of
is_input_of_lem i (Input s) h = ap Input (sym (eqb-true i s h))
is_input_of_lem i (Add a b) h = let q : ◌≡◌ {A = ℕ} 0 1 = cc in absurd (omega arith)
is_input_of_lem i (Scale a c) h = let q : ◌≡◌ {A = ℕ} 0 1 = cc in absurd (omega arith)
is_input_of_lem i (Offset a c) h = let q : ◌≡◌ {A = ℕ} 0 1 = cc in absurd (omega arith)
is_input_of_lem i (Multiply a b) h = let q : ◌≡◌ {A = ℕ} 0 1 = cc in absurd (omega arith)
is_input_of_lem i Random h = let q : ◌≡◌ {A = ℕ} 0 1 = cc in absurd (omega arith)
is_input_of_lem i (Spend a b) h = let q : ◌≡◌ {A = ℕ} 0 1 = cc in absurd (omega arith)

-- an input gate's party
is_input : (n p g : ℕ) (x : Gate) → is_kind 1 x ≡ true → gate_ok n p g x ≡ true → (s : ℕ) × (is_input_of s x ≡ true) × (1 ≤ s) × (s ≤ n)
unfolding is_kind kind_of operands_of gate_ok is_input_of between
is_input n p g (Input s) h ok = (s, eq-eqb s s refl, leb-true 1 s (both_true (leb 1 s) (leb s n) ok).0, leb-true s n (both_true (leb 1 s) (leb s n) ok).1)
is_input n p g (Add a b) h ok = let q : ◌≡◌ {A = ℕ} 0 1 = cc in absurd (omega arith)
is_input n p g (Scale a c) h ok = let q : ◌≡◌ {A = ℕ} 0 1 = cc in absurd (omega arith)
is_input n p g (Offset a c) h ok = let q : ◌≡◌ {A = ℕ} 0 1 = cc in absurd (omega arith)
is_input n p g (Multiply a b) h ok = let q : ◌≡◌ {A = ℕ} 0 1 = cc in absurd (omega arith)
is_input n p g Random h ok = let q : ◌≡◌ {A = ℕ} 0 1 = cc in absurd (omega arith)
is_input n p g (Spend a b) h ok = let q : ◌≡◌ {A = ℕ} 0 1 = cc in absurd (omega arith)

module _ (plan : Plan) (valid : Valid plan) where
  -- every input wire comes in the mail
  pub input-wires-in : (w : ℕ) → w < length plan.gates → is_kind 1 (get_or plan.gates w (Input 0)) ≡ true → Memᴰ w (wires_by_party plan)
  unfolding wires_by_party input_wires parties
  input-wires-in w l h =
      let s : (s : ℕ) × (is_input_of s (get_or plan.gates w (Input 0)) ≡ true) × (1 ≤ s) × (s ≤ party_count plan) = is_input (party_count plan) plan.p w (get_or plan.gates w (Input 0)) h (valid.gates w l) in
      let from1 : 1 ≤ s.0 = s.2 in
      let upto : s.0 ≤ party_count plan = s.3 in
      let e : 0 + w ≡ w = omega arith in
      let q : s.0 ≡ suc (s.0 - 1) = omega arith in
      in-flat_map (λ i. wires_from (is_input_of i) 0 plan.gates) (in-tab s.0 suc (party_count plan) (s.0 - 1) (omega arith) q)
      (subst (λ (m : ℕ). Memᴰ m (wires_from (is_input_of s.0) 0 plan.gates)) e (wires-in (is_input_of s.0) 0 plan.gates w l s.1))

  module _ (xs cs ts : List ℕ) (tf : List (ℕ → ℕ)) where
    module _ (full : length cs ≡ coin_count plan) where
      -- the polynomial of party j's input at gate g
      dealing : ℕ → ℕ → List ℕ
      dealing j g = input_at plan j g (own_inputs plan j xs) ∷ coins_at plan j g 0 plan.t (own_coins plan j cs)

      -- a share of an input of party j
      input-share : (j z w : ℕ) → w < length plan.gates → is_input_of j (get_or plan.gates w (Input 0)) ≡ true → eval plan.p (dealing j w) z ≡ wire_at (share_table plan xs cs tf) w z
      unfolding gate_share dealing
      input-share j z w l h =
          let i : Is plan w (Input j) = (l, is_input_of_lem j (get_or plan.gates w (Input 0)) h) in
          ap₂ (λ (v : ℕ) (c : List ℕ). eval plan.p (v ∷ c) z) (input-figure plan xs cs tf w j i) (input_coins plan xs cs tf w j i full)
          ∙ sym (table_gate plan valid xs cs tf z w (Input j) i)

      dealt-inputs : (j z : ℕ) → map (λ f. eval plan.p f z) (map (dealing j) (input_wires plan j)) ≡ map (λ w. wire_at (share_table plan xs cs tf) w z) (input_wires plan j)
      unfolding input_wires
      dealt-inputs j z =
          map-map (λ f. eval plan.p f z) (dealing j) (wires_from (is_input_of j) 0 plan.gates)
          ∙ map-all (λ w. eval plan.p (dealing j w) z) (λ w. wire_at (share_table plan xs cs tf) w z) (wires_from (is_input_of j) 0 plan.gates)
          (wires-all (is_input_of j) (λ w. eval plan.p (dealing j w) z ≡ wire_at (share_table plan xs cs tf) w z) 0 plan.gates
          (λ k l h. let e : 0 + k ≡ k = omega arith in rw e (input-share j z k l h)))

      pub sends-inputs : (taken : ℕ → List ℕ) → Sends plan xs cs ts tf DealInputs taken
      unfolding send_at table_mail wires_by_party dealing
      sends-inputs taken shares triples h i from1 upto =
          let z : ℕ = point_of plan i in
          let sent : ℕ → List ℕ = λ j. get_or (send_at plan j DealInputs (own_inputs plan j xs) (own_coins plan j cs) (triples j) (shares j) (taken j)) (i - 1) [] in
          let row : ℕ → List ℕ = λ j. map (λ w. wire_at (share_table plan xs cs tf) w z) (input_wires plan j) in
          flat_map-all sent row (parties plan)
          (each-party plan (λ j. sent j ≡ row j) (λ j l m. dealt_to plan i from1 upto (map (dealing j) (input_wires plan j)) ∙ dealt-inputs j z))
          ∙ sym (map-flat_map (λ w. wire_at (share_table plan xs cs tf) w z) (input_wires plan) (parties plan))

    pub learns-inputs : Learns plan xs cs ts tf DealInputs
    unfolding learnt resume_at spend_from table_mail frontier right_at
    learns-inputs i from1 upto shares triples h =
        record { known = start_known h.known (wires_by_party plan) input-wires-in; left = h.left }
