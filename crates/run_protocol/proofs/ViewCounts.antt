-- A coalition's view has its count.
--     view-count                    by each party's
--     mail-total, view-count-by     what the steps bring a party, and its view, by the kinds of gates
--     coins-by-mail, calls-by-mail  the coins and the calls by what the gates bring
-- Assumes nothing.
use mathlib.Core.Path.{◌≡◌, refl, sym, ap, ap₂, ◌∙◌}
use mathlib.Core.Bool.{false}
use mathlib.Core.List.{List, [], ◌∷◌, ◌++◌, map, flat_map}
use Prim.Native.Nat.{ℕ, zero, suc, ◌+◌, ◌*◌, ◌<◌, ◌≤◌}
use native.Mathlib.Nat.{mul-zero, mul-one, mul-add, mul_comm, mul_assoc, mul-le-mul}
use native.Mathlib.Omega.{arith}
use lib.ListN.{length, length-append}
use Rattle.numbers.specs.Tables.{tab, count_where, total}
use Rattle.sharing_laws.specs.Interp.{All}
use Rattle.sharing_laws.specs.Sharing.{opened}
use Rattle.sharing_laws.proofs.Lists.{length-map, all_map}
use Rattle.plan.specs.declared.Gate.{Gate}
use Rattle.plan.specs.declared.Gate.TheVariants.{Input, Add, Scale, Offset, Multiply, Random, Spend}
use Rattle.plan.specs.declared.Rule.{Rule}
use Rattle.plan.specs.declared.Rule.TheVariants.{Reduction, Truncation}
use Rattle.plan.specs.declared.Step.TheVariants.{SendOuts}
use Rattle.plan.specs.declared.Step.{Step}
use Rattle.plan.specs.Plans.{Plan, party_count, dealer_count, kind_of, is_kind, kind_count, multiply_steps, steps_at, steps_from, out_wires, input_owners, coin_owners, own_input_count, coin_count, own_coin_count, own_out_count, own_inputs, own_coins, received, steps, step_at, last_call, mail_count, per_multiply}
use Rattle.plan.specs.Kinds.{multiply_coins, multiply_rounds}
use Rattle.plan.proofs.KindCounts.{bringing, brought, along, coins-of, steps-of}
use Rattle.run_protocol.specs.Rounds.{view_count_of, view_count, mail_to, after, results, mails, view_of, view}
use Rattle.run_protocol.specs.Shares.{wire_at, share_table}
use Rattle.run_protocol.specs.Tables.{table_results, Tabled}
use Rattle.plan.proofs.Valid.{Valid}
use Rattle.run_protocol.proofs.Owners.{length-own}
use Rattle.run_protocol.proofs.Runs.{results-table, steps-tab}
use Rattle.run_protocol.proofs.Counts.{mail_count_lem}

total_tabs : {A : Type 0} (g : ℕ → List ℕ) (h : A → ℕ) (u : ℕ → ℕ) (v : ℕ → A) (n : ℕ) → ((k : ℕ) → k < n → length (g (u k)) ≡ h (v k)) → length (flat_map g (tab u n)) ≡ total (map h (tab v n))
unfolding flat_map tab total
total_tabs g h u v zero e = refl
total_tabs g h u v (suc n) e =
    length-append (g (u 0)) (flat_map g (tab (λ k. u (suc k)) n)) ∙ ap₂ (λ (a b : ℕ). a + b) (e 0 (omega arith)) (total_tabs g h (λ k. u (suc k)) (λ k. v (suc k)) n (λ k l. e (suc k) (omega arith)))

total_all : (g : ℕ → List ℕ) (h : ℕ → ℕ) (ms : List ℕ) → All (λ i. length (g i) ≡ h i) ms → length (flat_map g ms) ≡ total (map h ms)
unfolding flat_map total
total_all g h [] a = refl
total_all g h (i ∷ ms) a = length-append (g i) (flat_map g ms) ∙ ap₂ (λ (x y : ℕ). x + y) a.0 (total_all g h ms a.1)

module _ (plan : Plan) (ok : Valid plan) (xs cs ts : List ℕ) (tf : List (ℕ → ℕ)) (full : length cs ≡ coin_count plan) (tabled : Tabled plan ts tf) where
  mails-count : (i : ℕ) → 1 ≤ i → i ≤ party_count plan → length (mails plan xs cs ts i) ≡ total (map (received plan i) (steps plan))
  unfolding mails mail_count
  mails-count i from1 upto =
      total_tabs (λ k. mail_to i (after plan xs cs ts (suc k))) (received plan i) (λ k. k) (step_at plan) (last_call plan) (λ k l. mail_count_lem plan ok xs cs ts i from1 upto (suc k) l)
      ∙ ap (λ (l : List Step). total (map (received plan i) l)) (sym (steps-tab plan ok xs cs ts tf full tabled))

  results-count : (i : ℕ) → 1 ≤ i → i ≤ party_count plan → length (results plan xs cs ts i) ≡ own_out_count plan i
  unfolding table_results own_out_count
  results-count i from1 upto =
      ap length (results-table plan ok xs cs ts tf full tabled i from1 upto)
      ∙ length-map (λ w. opened plan.p plan.t plan.points (map (wire_at (share_table plan xs cs tf) w) plan.points)) (out_wires plan i)

  view-count-of : (i : ℕ) → 1 ≤ i → i ≤ party_count plan → length (view_of plan xs cs ts i) ≡ view_count_of plan i
  unfolding view_of view_count_of own_inputs own_coins own_input_count own_coin_count
  view-count-of i from1 upto =
      let a : List ℕ = own_inputs plan i xs in
      let b : List ℕ = own_coins plan i cs in
      let c : List ℕ = mails plan xs cs ts i in
      let d : List ℕ = results plan xs cs ts i in
      omega (arith, length-append a (b ++ (c ++ d)), length-append b (c ++ d), length-append c d, length-own i (input_owners plan) xs, length-own i (coin_owners plan) cs, mails-count i from1 upto, results-count i from1 upto)

  -- a coalition's view has its count
  pub view-count : (ms : List ℕ) → All (λ i. (1 ≤ i) × (i ≤ party_count plan)) ms → length (view plan ms xs cs ts) ≡ view_count plan ms
  unfolding view view_count
  view-count ms a =
      total_all (view_of plan xs cs ts) (view_count_of plan) ms
      (all_map (λ i. (1 ≤ i) × (i ≤ party_count plan)) (λ i. length (view_of plan xs cs ts i) ≡ view_count_of plan i) ms (λ i h. view-count-of i h.0 h.1) a)

-- ---- how many numbers the steps bring a party
total-append : (xs ys : List ℕ) → total (xs ++ ys) ≡ total xs + total ys
unfolding total
total-append [] ys = omega arith
total-append (x ∷ xs) ys = omega (arith, total-append xs ys)

map-append : {A B : Type 0} (f : A → B) (xs ys : List A) → map f (xs ++ ys) ≡ map f xs ++ map f ys
map-append f [] ys = refl
map-append f (x ∷ xs) ys = ap (λ (l : List _). f x ∷ l) (map-append f xs ys)

total-both : {A : Type 0} (f : A → ℕ) (xs ys : List A) → total (map f (xs ++ ys)) ≡ total (map f xs) + total (map f ys)
total-both f xs ys = ap total (map-append f xs ys) ∙ total-append (map f xs) (map f ys)

-- the gates' steps, and the inputs, bring each party as many; a party sends n times as many
abbrev pub gate_mail : Plan → ℕ
gate_mail plan =
    kind_count plan 1 + kind_count plan 5 * per_multiply plan plan.rule + kind_count plan 6 * party_count plan + kind_count plan 7 * (2 * party_count plan)

module _ (plan : Plan) (i : ℕ) where
  brought-by : List Step → ℕ
  brought-by ss = total (map (received plan i) ss)

  multiply-brought : (rule : Rule) (g a b : ℕ) → brought-by (multiply_steps rule g a b) ≡ per_multiply plan rule
  unfolding brought-by multiply_steps received per_multiply total
  multiply-brought Reduction g a b = omega arith
  multiply-brought Truncation g a b = omega arith

  idle : 0 ≡ 0 * 0 + per_multiply plan plan.rule * 0 + party_count plan * 0 + 2 * party_count plan * 0
  idle = omega (arith, mul-zero (per_multiply plan plan.rule), mul-zero (party_count plan), mul-zero (2 * party_count plan))

  gate-brought : (g : ℕ) (x : Gate) → brought-by (steps_at plan.rule g x) ≡ bringing (λ y. false) 0 (per_multiply plan plan.rule) (party_count plan) (2 * party_count plan) x
  unfolding brought-by steps_at received is_kind kind_of total
  gate-brought g (Input s) = idle
  gate-brought g (Add a b) = idle
  gate-brought g (Scale a c) = idle
  gate-brought g (Offset a c) = idle
  gate-brought g (Multiply a b) =
      multiply-brought plan.rule g a b ∙ omega (arith, mul-one (per_multiply plan plan.rule), mul-zero (party_count plan), mul-zero (2 * party_count plan))
  gate-brought g Random = omega (arith, mul-zero (per_multiply plan plan.rule), mul-one (party_count plan), mul-zero (2 * party_count plan))
  gate-brought g (Spend a b) = omega (arith, mul-zero (per_multiply plan plan.rule), mul-zero (party_count plan), mul-one (2 * party_count plan))

  gates-brought : (gs : List Gate) → brought-by (steps_from plan.rule 0 gs) ≡ brought (λ y. false) 0 (per_multiply plan plan.rule) (party_count plan) (2 * party_count plan) gs
  unfolding brought-by steps_from total
  gates-brought gs =
      along (λ y. false) 0 (per_multiply plan plan.rule) (party_count plan) (2 * party_count plan) (λ g l. total (map (received plan i) (steps_from plan.rule g l))) (λ g. refl)
      (λ g x l. total-both (received plan i) (steps_at plan.rule g x) (steps_from plan.rule (suc g) l) ∙ ap (λ (n : ℕ). n + total (map (received plan i) (steps_from plan.rule (suc g) l))) (gate-brought g x)) 0 gs

  pub mail-total : total (map (received plan i) (steps plan)) ≡ gate_mail plan + party_count plan * own_out_count plan i
  unfolding steps total received kind_count brought-by
  mail-total =
      omega (
        arith,
        total-both (received plan i) (steps_from plan.rule 0 plan.gates) (SendOuts ∷ []),
        gates-brought plan.gates,
        mul_comm (per_multiply plan plan.rule) (count_where (is_kind 5) plan.gates),
        mul_comm (party_count plan) (count_where (is_kind 6) plan.gates),
        mul_comm (2 * party_count plan) (count_where (is_kind 7) plan.gates),
      )

  -- a party's view: its inputs and coins, what the steps bring, its results
  pub view-count-by : view_count_of plan i ≡ own_input_count plan i + own_coin_count plan i + (gate_mail plan + party_count plan * own_out_count plan i) + own_out_count plan i
  unfolding view_count_of
  view-count-by = ap (λ (k : ℕ). own_input_count plan i + own_coin_count plan i + k + own_out_count plan i) mail-total

-- ---- t coins for each number that the gates bring a party, but for those that are opened where a triple is spent
module _ (plan : Plan) where
  multiply-coins : (rule : Rule) → multiply_coins plan rule ≡ plan.t * per_multiply plan rule
  unfolding multiply_coins per_multiply
  multiply-coins Reduction = refl
  multiply-coins Truncation = ap (λ (k : ℕ). k * party_count plan) (mul_comm 3 plan.t) ∙ mul_assoc plan.t 3 (party_count plan)

  pub coins-by-mail : coin_count plan + plan.t * (kind_count plan 7 * (2 * party_count plan)) ≡ plan.t * gate_mail plan
  unfolding coin_count coin_owners kind_count
  coins-by-mail =
      let a : ℕ = count_where (is_kind 1) plan.gates in
      let b : ℕ = count_where (is_kind 5) plan.gates in
      let c : ℕ = count_where (is_kind 6) plan.gates in
      let d : ℕ = count_where (is_kind 7) plan.gates in
      let m : ℕ = per_multiply plan plan.rule in
      let n : ℕ = party_count plan in
      omega (
        arith,
        coins-of plan plan.gates,
        ap (λ (k : ℕ). k * b) (multiply-coins plan.rule) ∙ mul_assoc plan.t m b ∙ ap (λ (k : ℕ). plan.t * k) (mul_comm m b),
        mul_assoc plan.t n c ∙ ap (λ (k : ℕ). plan.t * k) (mul_comm n c),
        mul-add plan.t (a + b * m + c * n) (d * (2 * n)),
        mul-add plan.t (a + b * m) (c * n),
        mul-add plan.t a (b * m),
      )

  -- ---- each step brings a number at least, and where a triple is spent 2n
  multiply-calls : (rule : Rule) → 1 ≤ party_count plan → multiply_rounds rule ≤ per_multiply plan rule
  unfolding multiply_rounds per_multiply dealer_count
  multiply-calls Reduction some = omega arith
  multiply-calls Truncation some = omega arith

  pub calls-by-mail : 1 ≤ party_count plan → last_call plan + kind_count plan 7 * (2 * party_count plan) ≤ gate_mail plan + 2 + kind_count plan 7
  unfolding last_call steps kind_count
  calls-by-mail some =
      let b : ℕ = count_where (is_kind 5) plan.gates in
      let c : ℕ = count_where (is_kind 6) plan.gates in
      omega (
        arith,
        length-append (steps_from plan.rule 0 plan.gates) (SendOuts ∷ []),
        steps-of plan 0 plan.gates,
        mul-le-mul {n₁ = b} {m₁ = multiply_rounds plan.rule} {n₂ = b} {m₂ = per_multiply plan plan.rule} (omega arith) (multiply-calls plan.rule some),
        mul_comm b (multiply_rounds plan.rule),
        mul-le-mul {n₁ = c} {m₁ = 1} {n₂ = c} {m₂ = party_count plan} (omega arith) some,
      )
