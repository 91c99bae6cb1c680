-- What the parties send is what the bench counts.
--     elements-long, elements-tab     a number for each party
--     by-steps                        a party's elements, step by step
--     elements-by, elements-each      by kinds of gates
--     elements-sent                   the parties' elements add up to the elements sent
-- Assumes nothing.
use Prim.Native.Nat.{ℕ, zero, suc, ◌+◌, ◌-◌, ◌*◌, ◌<◌, ◌≤◌}
use mathlib.Core.Path.{◌≡◌, refl, sym, ap, ap₂, ◌∙◌}
use mathlib.Core.Logic.{⊎_elim}
use mathlib.Core.Bool.{Bool, true, false, cond}
use mathlib.Core.List.{List, [], ◌∷◌, ◌++◌, map, flat_map}
use native.Mathlib.Nat.{mul-zero, zero-mul, suc-mul, mul-add, mul_comm, mul_assoc}
use native.Mathlib.Omega.{arith}
use borrow.Author.Tests.{le-leb, lt-leb, lt-ltb}
use lib.Dec.{leb}
use lib.ListN.{length, get_or, length-append}
use Rattle.numbers.specs.Tables.{tab, count_where, total}
use Rattle.numbers.proofs.Tables.{tab-ext, tab-append, tab-map, length-tab, list-tab}
use Rattle.plan.specs.declared.Gate.{Gate}
use Rattle.plan.specs.declared.Gate.TheVariants.{Input, Add, Scale, Offset, Multiply, Random, Spend}
use Rattle.plan.specs.declared.Rule.{Rule}
use Rattle.plan.specs.declared.Rule.TheVariants.{Reduction, Truncation}
use Rattle.plan.specs.declared.Step.{Step}
use Rattle.plan.specs.declared.Step.TheVariants.{SendOuts}
use Rattle.plan.specs.Plans.{Plan, party_count, parties, dealer_count, kind_of, is_kind, kind_count, is_input_of, input_wires, multiply_steps, steps_at, steps_from, steps, step_at, last_call, sent_by, written_count, per_multiply, sent_count}
use Rattle.plan.proofs.Valid.{Valid, none_or_majority}
use Rattle.plan.proofs.Wires.{length-input_wires}
use Rattle.seat_messages.specs.Messages.{wires_by_party}
use Rattle.run_protocol.proofs.Counts.{placed}
use Rattle.charge_laws.specs.Charges.{elements_by, elements, pieces_by}
use Rattle.charge_laws.proofs.Totals.{total-append, total_plus, total-scale, total_same}

-- as many of n as are dealers
dealt : (n d c : ℕ) → d ≤ n → total (tab (λ k. cond (leb (suc k) d) c 0) n) ≡ d * c
dealt n d c l =
    let e : n ≡ d + (n - d) = omega arith in
    ap (λ (m : ℕ). total (tab (λ k. cond (leb (suc k) d) c 0) m)) e
    ∙ ap total (tab-append (λ k. cond (leb (suc k) d) c 0) d (n - d))
    ∙ total-append (tab (λ k. cond (leb (suc k) d) c 0) d) (tab (λ k. cond (leb (suc (d + k)) d) c 0) (n - d))
    ∙ ap₂ (λ (u v : ℕ). u + v)
    (total_same (λ k. cond (leb (suc k) d) c 0) c d (λ k q. ap (λ (b : Bool). cond b c 0) (le-leb (suc k) d q)))
    (total_same (λ k. cond (leb (suc (d + k)) d) c 0) 0 (n - d) (λ k q. ap (λ (b : Bool). cond b c 0) (lt-leb (suc (d + k)) d (omega arith))) ∙ mul-zero (n - d))
    ∙ omega arith

-- the lengths of lists laid end to end
length-flat : (f : ℕ → List ℕ) (g : ℕ → ℕ) (n : ℕ) → length (flat_map f (tab g n)) ≡ total (tab (λ k. length (f (g k))) n)
unfolding flat_map total tab
length-flat f g zero = refl
length-flat f g (suc n) = omega (arith, length-append (f (g 0)) (flat_map f (tab (λ k. g (suc k)) n)), length-flat f (λ k. g (suc k)) n)

total-steps : (f : Step → ℕ) (ss rs : List Step) → total (map f (ss ++ rs)) ≡ total (map f ss) + total (map f rs)
unfolding total
total-steps f [] rs = omega arith
total-steps f (s ∷ ss) rs = omega (arith, total-steps f ss rs)

module _ (plan : Plan) where
  pub elements-tab : elements plan ≡ tab (λ k. elements_by plan (suc k)) (party_count plan)
  unfolding elements parties
  elements-tab = tab-map (elements_by plan) suc (party_count plan)

  pub elements-long : length (elements plan) ≡ party_count plan
  elements-long = ap length elements-tab ∙ length-tab (λ k. elements_by plan (suc k)) (party_count plan)

  -- ---- step by step
  written-sent : (i k : ℕ) → k < last_call plan → written_count plan i k ≡ sent_by plan i (step_at plan k)
  unfolding written_count
  written-sent i k l = rw (lt-ltb k (last_call plan) l)

  pub by-steps : (i : ℕ) → elements_by plan i ≡ total (map (sent_by plan i) (steps plan))
  unfolding elements_by step_at last_call
  by-steps i =
      ap total
      (tab-ext (written_count plan i) (λ k. sent_by plan i (get_or (steps plan) k SendOuts)) (length (steps plan)) (written-sent i)
      ∙ sym (tab-map (sent_by plan i) (λ k. get_or (steps plan) k SendOuts) (length (steps plan)))
      ∙ ap (map (sent_by plan i)) (sym (list-tab (steps plan) SendOuts)))

  -- ---- by kinds of gates: what party i sends for a multiply, and for the gates that take rounds
  sent_for : Rule → ℕ → ℕ
  sent_for Reduction i = cond (leb i (dealer_count plan)) (party_count plan) 0
  sent_for Truncation i = 3 * party_count plan

  total-multiply : (rule : Rule) (i g a b : ℕ) → total (map (sent_by plan i) (multiply_steps rule g a b)) ≡ sent_for rule i
  unfolding sent_for multiply_steps sent_by total
  total-multiply Reduction i g a b = omega arith
  total-multiply Truncation i g a b = omega arith

  total-gates :
      (i g : ℕ) (gs : List Gate)
      → total (map (sent_by plan i) (steps_from plan.rule g gs))
      ≡ count_where (is_kind 5) gs * sent_for plan.rule i + (count_where (is_kind 6) gs * party_count plan + count_where (is_kind 7) gs * (2 * party_count plan))
  unfolding steps_from steps_at sent_by count_where is_kind kind_of total
  total-gates i g [] = omega (arith, zero-mul (sent_for plan.rule i), zero-mul (party_count plan), zero-mul (2 * party_count plan))
  total-gates i g (Input s ∷ gs) = total-gates i (suc g) gs
  total-gates i g (Add a b ∷ gs) = total-gates i (suc g) gs
  total-gates i g (Scale a c ∷ gs) = total-gates i (suc g) gs
  total-gates i g (Offset a c ∷ gs) = total-gates i (suc g) gs
  total-gates i g (Multiply a b ∷ gs) =
      omega (
        arith,
        total-steps (sent_by plan i) (multiply_steps plan.rule g a b) (steps_from plan.rule (suc g) gs),
        total-multiply plan.rule i g a b,
        total-gates i (suc g) gs,
        suc-mul (count_where (is_kind 5) gs) (sent_for plan.rule i),
      )
  total-gates i g (Random ∷ gs) = omega (arith, total-gates i (suc g) gs, suc-mul (count_where (is_kind 6) gs) (party_count plan))
  total-gates i g (Spend a b ∷ gs) = omega (arith, total-gates i (suc g) gs, suc-mul (count_where (is_kind 7) gs) (2 * party_count plan))

  -- what each party sends alike
  alike : ℕ
  alike = kind_count plan 6 * party_count plan + kind_count plan 7 * (2 * party_count plan) + length plan.outs

  elements-by : (i : ℕ) → elements_by plan i ≡ party_count plan * length (input_wires plan i) + (kind_count plan 5 * sent_for plan.rule i + alike)
  unfolding steps sent_by total kind_count alike
  elements-by i =
      omega (
        arith,
        by-steps i,
        total-steps (sent_by plan i) (steps_from plan.rule 0 plan.gates) (SendOuts ∷ []),
        total-gates i 0 plan.gates,
      )

  -- to each party what it deals at its inputs, at multiply gates and at random wires, and what it opens; and a share for each out
  each : (rule : Rule) (i : ℕ) → sent_for rule i ≡ party_count plan * pieces_by plan rule i
  unfolding sent_for pieces_by
  each Reduction i = by (leb i (dealer_count plan))
    where
      by : (b : Bool) → cond b (party_count plan) 0 ≡ party_count plan * cond b 1 0
      by true = omega arith
      by false = omega arith
  each Truncation i = omega arith

  pub elements-each :
      (i : ℕ) → elements_by plan i
      ≡ party_count plan * (count_where (is_input_of i) plan.gates + kind_count plan 5 * pieces_by plan plan.rule i + kind_count plan 6 + 2 * kind_count plan 7) + length plan.outs
  unfolding alike
  elements-each i =
      let n : ℕ = party_count plan in
      let a : ℕ = count_where (is_input_of i) plan.gates in
      let m : ℕ = kind_count plan 5 in
      let r : ℕ = pieces_by plan plan.rule i in
      let d : ℕ = kind_count plan 6 in
      let o : ℕ = kind_count plan 7 in
      let own : n * length (input_wires plan i) ≡ n * a = ap (λ (z : ℕ). n * z) (length-input_wires plan i) in
      let dealt : m * sent_for plan.rule i ≡ n * (m * r) = ap (λ (z : ℕ). m * z) (each plan.rule i) ∙ sym (mul_assoc m n r) ∙ ap (λ (z : ℕ). z * r) (mul_comm m n) ∙ mul_assoc n m r in
      let drawn : d * n ≡ n * d = mul_comm d n in
      let spent : o * (2 * n) ≡ n * (2 * o) = omega (arith, mul_comm o n) in
      omega (arith, elements-by i, own, dealt, drawn, spent, mul-add n (a + m * r + d) (2 * o), mul-add n (a + m * r) d, mul-add n a (m * r))

  -- ---- all parties
  module _ (valid : Valid plan) where
    inputs-all : total (tab (λ k. length (input_wires plan (suc k))) (party_count plan)) ≡ kind_count plan 1
    unfolding wires_by_party parties
    inputs-all = sym (length-flat (input_wires plan) suc (party_count plan)) ∙ placed plan valid

    multiplies-all : plan.t + plan.t < party_count plan → (rule : Rule) → total (tab (λ k. sent_for rule (suc k)) (party_count plan)) ≡ party_count plan * per_multiply plan rule
    unfolding sent_for per_multiply dealer_count
    multiplies-all two Reduction = dealt (party_count plan) (plan.t + plan.t + 1) (party_count plan) (omega arith) ∙ mul_comm (plan.t + plan.t + 1) (party_count plan)
    multiplies-all two Truncation = total_same (λ k. 3 * party_count plan) (3 * party_count plan) (party_count plan) (λ k q. refl)

    -- without multiply gates nothing is dealt in them
    multiplies-sent : kind_count plan 5 * total (tab (λ k. sent_for plan.rule (suc k)) (party_count plan)) ≡ kind_count plan 5 * (party_count plan * per_multiply plan plan.rule)
    multiplies-sent =
        let x : ℕ = total (tab (λ k. sent_for plan.rule (suc k)) (party_count plan)) in
        let y : ℕ = party_count plan * per_multiply plan plan.rule in
        ⊎_elim
        (λ (z : (kind_count plan 5 ≡ 0) × (kind_count plan 7 ≡ 0)). ap (λ (m : ℕ). m * x) z.0 ∙ zero-mul x ∙ sym (ap (λ (m : ℕ). m * y) z.0 ∙ zero-mul y))
        (λ two. ap (λ (k : ℕ). kind_count plan 5 * k) (multiplies-all two plan.rule))
        (none_or_majority plan valid)

    pub elements-sent : total (elements plan) ≡ sent_count plan
    unfolding sent_count alike
    elements-sent =
        let n : ℕ = party_count plan in
        let m : ℕ = kind_count plan 5 in
        let r : ℕ = per_multiply plan plan.rule in
        let own : ℕ → ℕ = λ k. length (input_wires plan (suc k)) in
        let sends : ℕ → ℕ = λ k. sent_for plan.rule (suc k) in
        let a : total (tab (λ k. n * own k) n) ≡ n * kind_count plan 1 = total-scale n own n ∙ ap (λ (z : ℕ). n * z) inputs-all in
        let b : total (tab (λ k. m * sends k) n) ≡ m * (n * r) = total-scale m sends n ∙ multiplies-sent in
        let c : total (tab (λ k. alike) n) ≡ n * alike = total_same (λ k. alike) alike n (λ k q. refl) in
        let q : m * (n * r) ≡ n * (m * r) = sym (mul_assoc m n r) ∙ ap (λ (z : ℕ). z * r) (mul_comm m n) ∙ mul_assoc n m r in
        let s : n * (kind_count plan 1 + m * r + alike) ≡ n * kind_count plan 1 + n * (m * r) + n * alike =
        mul-add n (kind_count plan 1 + m * r) alike ∙ ap (λ (z : ℕ). z + n * alike) (mul-add n (kind_count plan 1) (m * r)) in
        let e : kind_count plan 1 + m * r + alike ≡ kind_count plan 1 + m * r + kind_count plan 6 * n + kind_count plan 7 * (2 * n) + length plan.outs = omega arith in
        ap total elements-tab
        ∙ ap total (tab-ext (λ k. elements_by plan (suc k)) (λ k. n * own k + (m * sends k + alike)) n (λ k l. elements-by (suc k)))
        ∙ total_plus (λ k. n * own k) (λ k. m * sends k + alike) n
        ∙ ap₂ (λ (u v : ℕ). u + v) a (total_plus (λ k. m * sends k) (λ k. alike) n ∙ ap₂ (λ (u v : ℕ). u + v) b c)
        ∙ omega (arith, q, s)
        ∙ ap (λ (z : ℕ). n * z) e
